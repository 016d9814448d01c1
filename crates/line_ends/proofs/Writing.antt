-- Records and lines put into a target one after the other. Assumes nothing.
use mathlib.Core.Path.{◌≡◌, refl, ap, ap₂, sym, ◌∙◌}
use mathlib.Core.List.{List, [], ◌∷◌, ◌++◌, append_assoc, append-nil, map, map-append}
use Prim.Native.Nat.{ℕ, suc, ◌+◌, ◌*◌, ◌≤◌, ◌<◌}
use native.Mathlib.Numerals.{add-one}
use native.Mathlib.Omega.{arith}
use lib.ListN.{length, take, drop, get_or, set, length-set, length-append, length-drop}
use lib.Seq.{length-take-le, take_all, take-suc, drop-cons, set_at}
use Rattle.format.specs.Basics.{flat}
use Rattle.format.proofs.Lists.{Wide, wide_take, wide_get, length-flat, flat_append}
use Rattle.format_lines.specs.LineEnds.{line_end, with_end}
use Rattle.format_lines.proofs.LineEnds.{length-lined, length_end}
use Rattle.files.specs.declared.Stride.{Stride}
use Rattle.files.specs.declared.Stride.TheVariants.{Plain, Lines}
use Rattle.files.specs.Records.{stride_of, records_of}
use Rattle.files.specs.Buffers.{put_at}
use Rattle.line_ends.specs.Steps.{as_written, written_first}
use Rattle.files.proofs.Records.{wide_records}
use Rattle.files.proofs.Buffers.{put-there, put-behind}

-- ---- records as they stand at a stride
pub as_plain : (rs : List (List ℕ)) → map (as_written Plain) rs ≡ rs
as_plain [] = refl
as_plain (r ∷ rs) = ap (λ (x : List (List ℕ)). r ∷ x) (as_plain rs)

width : (stride : Stride) (r : List ℕ) → length r ≡ 84 → length (as_written stride r) ≡ stride_of stride
unfolding stride_of
width Plain r wide = wide
width Lines r wide = length_end r wide

length-written : (stride : Stride) (rs : List (List ℕ)) → Wide rs → length (flat (map (as_written stride) rs)) ≡ stride_of stride * length rs
unfolding stride_of
length-written Plain rs w = ap (λ (x : List (List ℕ)). length (flat x)) (as_plain rs) ∙ length-flat rs w
length-written Lines rs w = length-lined rs w

pub one_more : (stride : Stride) (k n m : ℕ) → k < n → stride_of stride * n ≤ m → stride_of stride * k + stride_of stride ≤ m
unfolding stride_of
one_more Plain k n m h room = omega arith
one_more Lines k n m h room = omega arith

next : (stride : Stride) (k : ℕ) → stride_of stride * k + stride_of stride ≡ stride_of stride * (k + 1)
unfolding stride_of
next Plain k = omega arith
next Lines k = omega arith

written_more : (stride : Stride) (rs : List (List ℕ)) (k : ℕ) → k < length rs → flat (map (as_written stride) (take (k + 1) rs)) ≡ flat (map (as_written stride) (take k rs)) ++ as_written stride (get_or rs k [])
written_more stride rs k h = ap (λ (n : ℕ). flat (map (as_written stride) (take n rs))) (add-one k) ∙ ap (λ (x : List (List ℕ)). flat (map (as_written stride) x)) (take-suc rs k [] h) ∙ ap flat (map-append (as_written stride) (take k rs) (get_or rs k [] ∷ [])) ∙ flat_append (map (as_written stride) (take k rs)) (as_written stride (get_or rs k []) ∷ []) ∙ ap (λ (x : List ℕ). flat (map (as_written stride) (take k rs)) ++ x) (append-nil (as_written stride (get_or rs k [])))

-- ---- `put_record`: a line is the record and, behind it, its line end
module _ (target r put : List ℕ) (start : ℕ) (wide : length r ≡ 84) (room : start + 86 ≤ length target) (is : put ≡ put_at target start r) where
  abbrev front : List ℕ
  front = take start target ++ r

  front_long : length front ≡ start + 84
  front_long = length-append (take start target) r ∙ ap₂ (λ (x y : ℕ). x + y) (length-take-le start target (omega arith)) wide

  put_is : put ≡ front ++ drop (start + 84) target
  put_is = is ∙ put-there target start r (omega (arith, wide)) ∙ ap (λ (n : ℕ). take start target ++ (r ++ drop (start + n) target)) wide ∙ sym (append_assoc (take start target) r (drop (start + 84) target))

  cons : drop (start + 84) target ≡ get_or target (start + 84) 0 ∷ get_or target (suc (start + 84)) 0 ∷ drop (suc (suc (start + 84))) target
  cons = drop-cons target (start + 84) 0 (omega arith) ∙ ap (λ (x : List ℕ). get_or target (start + 84) 0 ∷ x) (drop-cons target (suc (start + 84)) 0 (omega arith))

  pub put_long : length put ≡ length target
  put_long = ap length put_is ∙ length-append front (drop (start + 84) target) ∙ rw (front_long, length-drop (start + 84) target) (omega arith)

  -- whatever two bytes are stored
  pub second_inside : (x : ℕ) → start + 84 + 1 < length (set put (start + 84) x)
  second_inside x = rw (length-set put (start + 84) x) (omega (arith, put_long))

  pub line_long : (x y : ℕ) → length (set (set put (start + 84) x) (start + 84 + 1) y) ≡ length target
  line_long x y = length-set (set put (start + 84) x) (start + 84 + 1) y ∙ length-set put (start + 84) x ∙ put_long

  pub line-put : set (set put (start + 84) 13) (start + 84 + 1) 10 ≡ put_at target start (with_end r)
  unfolding with_end
  line-put =
      ap (λ (x : List ℕ). set (set x (start + 84) 13) (start + 84 + 1) 10) (put_is ∙ ap (λ (x : List ℕ). front ++ x) cons)
      ∙ ap (λ (x : List ℕ). set x (start + 84 + 1) 10) (set_at front (get_or target (start + 84) 0) (get_or target (suc (start + 84)) 0 ∷ drop (suc (suc (start + 84))) target) 13 (start + 84) front_long ∙ sym (append_assoc front (13 ∷ []) (get_or target (suc (start + 84)) 0 ∷ drop (suc (suc (start + 84))) target)))
      ∙ set_at (front ++ (13 ∷ [])) (get_or target (suc (start + 84)) 0) (drop (suc (suc (start + 84))) target) 10 (start + 84 + 1) (length-append front (13 ∷ []) ∙ ap (λ (n : ℕ). n + 1) front_long)
      ∙ append_assoc front (13 ∷ []) (10 ∷ drop (suc (suc (start + 84))) target)
      ∙ append_assoc (take start target) r (13 ∷ 10 ∷ drop (suc (suc (start + 84))) target)
      ∙ ap (λ (x : List ℕ). take start target ++ x) (sym (append_assoc r line_end (drop (suc (suc (start + 84))) target)))
      ∙ ap (λ (n : ℕ). take start target ++ ((r ++ line_end) ++ drop n target)) end
      ∙ sym (put-there target start (r ++ line_end) (omega (arith, long)))
    where
      long : length (r ++ line_end) ≡ 86
      long = length-append r line_end ∙ ap (λ (n : ℕ). n + 2) wide

      end : suc (suc (start + 84)) ≡ start + length (r ++ line_end)
      end = omega (arith, long)

module _ (stride : Stride) (k : ℕ) (target r put : List ℕ) (wide : length r ≡ 84) (room : stride_of stride * k + stride_of stride ≤ length target) (start : ℕ) (from : start ≡ stride_of stride * k) (is : put ≡ put_at target start r) where
  within : stride ≡ Lines → start + 86 ≤ length target
  unfolding stride_of
  within e = rw (from, e) (rw e at room)

  pub end_inside : stride ≡ Lines → start + 84 < length put
  end_inside e = omega (arith, put_long target r put start wide (within e) is, within e)

  pub last_inside : stride ≡ Lines → (x : ℕ) → start + 84 + 1 < length (set put (start + 84) x)
  last_inside e = second_inside target r put start wide (within e) is

  pub lines_put : stride ≡ Lines → set (set put (start + 84) 13) (start + 84 + 1) 10 ≡ put_at target (stride_of stride * k) (as_written stride r)
  unfolding stride_of
  lines_put e = line-put target r put start wide (within e) is ∙ rw (from, e)

-- ---- `write_records`: k records are written, and behind them the target is as it was
abbrev pub WrittenSoFar : Stride → List (List ℕ) → (k : ℕ) → (first target : List ℕ) → Type 0
WrittenSoFar stride rs k first target = target ≡ flat (map (as_written stride) (take k rs)) ++ drop (stride_of stride * k) first

module _ (from stride : Stride) (file : List ℕ) where
  abbrev rs : List (List ℕ)
  rs = records_of from file

  pub nothing_written : (target : List ℕ) → WrittenSoFar stride (records_of from file) 0 target target
  unfolding stride_of
  nothing_written target = go stride
    where
      go : (s : Stride) → target ≡ drop (stride_of s * 0) target
      go Plain = refl
      go Lines = refl

  pub record_wide : (k : ℕ) → k < length (records_of from file) → length (get_or (records_of from file) k []) ≡ 84
  record_wide k h = wide_get k rs (wide_records from file) h

  module _ (first target after : List ℕ) (k : ℕ) (here : k < length (records_of from file)) (room : stride_of stride * length (records_of from file) ≤ length first) (so_far : WrittenSoFar stride (records_of from file) k first target) where
    pub written_again : after ≡ put_at target (stride_of stride * k) (as_written stride (get_or (records_of from file) k [])) → WrittenSoFar stride (records_of from file) (k + 1) first after
    written_again p =
        let front : List ℕ = flat (map (as_written stride) (take k rs)) in
        let part : List ℕ = as_written stride (get_or rs k []) in
        let part-wide : length part ≡ stride_of stride = width stride (get_or rs k []) (record_wide k here) in
        let long : length front ≡ stride_of stride * k = length-written stride (take k rs) (wide_take k rs (wide_records from file)) ∙ ap (λ (n : ℕ). stride_of stride * n) (length-take-le k rs (omega (arith, here))) in
        let fits : stride_of stride * k + length part ≤ length first = rw part-wide (one_more stride k (length rs) (length first) here room) in
        p
        ∙ put-behind front part target first (stride_of stride * k) so_far long fits
        ∙ ap₂ (λ (x : List ℕ) (n : ℕ). x ++ drop n first) (sym (written_more stride rs k here)) (ap (λ (n : ℕ). stride_of stride * k + n) part-wide ∙ next stride k)

  pub written_all : (first target : List ℕ) (k : ℕ) → k ≡ length (records_of from file) → WrittenSoFar stride (records_of from file) k first target → target ≡ written_first stride (records_of from file) first
  written_all first target k h e = e ∙ ap₂ (λ (x : List (List ℕ)) (n : ℕ). flat (map (as_written stride) x) ++ drop (stride_of stride * n) first) (take_all k rs (omega (arith, h))) h
