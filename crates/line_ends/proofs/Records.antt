-- The lines of a file in the front of a buffer, and its records at the stride of lines. Assumes nothing.
use mathlib.Core.Path.{◌≡◌, refl, ap, ap₂, sym, ◌∙◌}
use mathlib.Core.Bool.{Bool, true, false, ◌&&◌}
use mathlib.Core.List.{List, [], ◌∷◌, ◌++◌, map}
use Prim.Native.Nat.{ℕ, zero, suc, ◌+◌, ◌-◌, ◌*◌, ◌/◌, ◌≤◌, ◌<◌}
use native.Mathlib.Numerals.{add-one}
use native.Mathlib.Omega.{arith}
use lib.Dec.{eqb}
use borrow.Author.Tests.{eq-eqb, ne_eqb, eqb-true, eqb-false}
use lib.ListN.{length, take, drop, length-drop, take-append-drop}
use lib.Seq.{length-take-le, take-take, take-append-le, drop-append-le, drop-drop}
use Rattle.format.specs.Basics.{none, fault, or_else, to_fault, unless}
use Rattle.format.specs.Text.{same}
use Rattle.std.specs.Cmp.Lexicographic.{pointwise}
use Rattle.std.specs.List.{ends_with}
use Rattle.format_lines.specs.LineEnds.{lines, without_end, end_ok, end_fault}
use Rattle.files.specs.declared.Stride.TheVariants.{Lines}
use Rattle.files.specs.Records.{stride_of, spaced, records_of}
use Rattle.files.proofs.Records.{length-records}

lines-front : (n : ℕ) (front rest : List ℕ) → 86 * n ≤ length front → lines n front ≡ lines n (front ++ rest)
lines-front zero front rest h = refl
lines-front (suc n) front rest h =
    let long : 86 ≤ length front = omega arith in
    rw (take-append-le 86 front rest long, drop-append-le 86 front rest long) (ap (λ (ls : List (List ℕ)). take 86 front ∷ ls) (lines-front n (drop 86 front) rest (rw (length-drop 86 front) (omega arith))))

pub front-lines : (used : ℕ) (buffer : List ℕ) → used ≤ length buffer → lines (length (take used buffer) / 86) (take used buffer) ≡ lines (used / 86) buffer
front-lines used buffer h =
    ap (λ (n : ℕ). lines (n / 86) (take used buffer)) long
    ∙ lines-front (used / 86) (take used buffer) (drop used buffer) (rw long (omega arith))
    ∙ ap (lines (used / 86)) (take-append-drop used buffer)
  where
    long : length (take used buffer) ≡ used
    long = length-take-le used buffer h

spaced-lines : (n : ℕ) (bs : List ℕ) → spaced 86 n bs ≡ map without_end (lines n bs)
unfolding without_end
spaced-lines zero bs = refl
spaced-lines (suc n) bs = ap₂ (λ (r : List ℕ) (rs : List (List ℕ)). r ∷ rs) (sym (take-take 84 86 bs (omega arith))) (spaced-lines n (drop 86 bs))

pub front-records : (used : ℕ) (buffer : List ℕ) → used ≤ length buffer → records_of Lines (take used buffer) ≡ map without_end (lines (used / 86) buffer)
unfolding records_of stride_of
front-records used buffer h = spaced-lines (length (take used buffer) / 86) (take used buffer) ∙ ap (map without_end) (front-lines used buffer h)

-- ---- `first_unended`: the first k lines end right
module _ (file : List ℕ) where
  abbrev n : ℕ
  n = length file / 86

  pub many : length (records_of Lines file) ≡ length file / 86
  unfolding stride_of
  many = length-records Lines file

  -- the fault of the lines from the k-th on is that of all
  abbrev pub EndsSoFar : ℕ → Type 0
  EndsSoFar k = end_fault 1 (lines (length file / 86) file) ≡ end_fault (suc k) (lines (length file / 86 - k) (drop (86 * k) file))

  pub line_inside : (k count : ℕ) → count ≡ length (records_of Lines file) → k < count → 86 * k + 86 ≤ length file
  line_inside k count counted here = omega (arith, counted, many)

  module _ (k : ℕ) (e : EndsSoFar k) where
    pub ends_all : k ≡ length (records_of Lines file) → none ≡ end_fault 1 (lines n file)
    ends_all h = sym (e ∙ ap (λ (j : ℕ). end_fault (suc k) (lines j (drop (86 * k) file))) (let z : n - k ≡ 0 = omega (arith, h, many) in z))

    module _ (here : k < length (records_of Lines file)) where
      left : lines (n - k) (drop (86 * k) file) ≡ take 86 (drop (86 * k) file) ∷ lines (n - (k + 1)) (drop (86 * (k + 1)) file)
      left =
          let p : n - k ≡ suc (n - (k + 1)) = omega (arith, many, here) in
          let q : 86 * (k + 1) ≡ 86 * k + 86 = omega arith in
          rw (p, q, drop-drop 86 (86 * k) file)

      stepped : (t : Bool) → end_ok (take 86 (drop (86 * k) file)) ≡ t → end_fault 1 (lines n file) ≡ or_else (to_fault (unless t 18) (suc k)) (end_fault (suc (suc k)) (lines (n - (k + 1)) (drop (86 * (k + 1)) file)))
      stepped t p = e ∙ ap (end_fault (suc k)) left ∙ ap (λ (t : Bool). or_else (to_fault (unless t 18) (suc k)) (end_fault (suc (suc k)) (lines (n - (k + 1)) (drop (86 * (k + 1)) file)))) p

      pub ends_wrong : (t : Bool) → t ≡ end_ok (take 86 (drop (86 * k) file)) → t ≡ false → fault 18 (k + 1) ≡ end_fault 1 (lines n file)
      ends_wrong t of h = ap (fault 18) (add-one k) ∙ sym (stepped false (sym of ∙ h))

      pub ends_again : (t : Bool) → t ≡ end_ok (take 86 (drop (86 * k) file)) → t ≡ true → EndsSoFar (k + 1)
      ends_again t of h = stepped true (sym of ∙ h) ∙ ap (λ (j : ℕ). end_fault (suc j) (lines (n - (k + 1)) (drop (86 * (k + 1)) file))) (sym (add-one k))

-- ---- `is_ended`: the last two bytes of a line
same_turned : (k l : List ℕ) → pointwise eqb k l ≡ same l k
same_turned [] [] = refl
same_turned [] (b ∷ l) = refl
same_turned (a ∷ k) [] = refl
same_turned (a ∷ k) (b ∷ l) = ap₂ (λ (s t : Bool). s && t) (turned (eqb a b) refl) (same_turned k l)
  where
    turned : (t : Bool) → eqb a b ≡ t → eqb a b ≡ eqb b a
    turned true e = e ∙ sym (eq-eqb b a (sym (eqb-true a b e)))
    turned false e = e ∙ sym (ne_eqb b a (λ f. eqb-false a b e (sym f)))

module _ (file : List ℕ) (k : ℕ) (room : 86 * k + 86 ≤ length file) where
  pub line-tested : (t : Bool) → t ≡ ends_with eqb (take (86 * k + 86 - 86 * k) (drop (86 * k) file)) (13 ∷ 10 ∷ []) → t ≡ end_ok (take 86 (drop (86 * k) file))
  unfolding end_ok
  line-tested t e =
      let w : 86 * k + 86 - 86 * k ≡ 86 = omega arith in
      let n : length (take 86 (drop (86 * k) file)) - 2 ≡ 84 = rw (length-take-le 86 (drop (86 * k) file) (rw (length-drop (86 * k) file) (omega arith))) refl in
      e ∙ rw w (rw n (same_turned (13 ∷ 10 ∷ []) (drop 84 (take 86 (drop (86 * k) file)))))
