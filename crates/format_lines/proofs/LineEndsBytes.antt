-- What the writers leave, byte by byte. Assumes nothing.
use mathlib.Core.Path.{◌≡◌, refl, ap, sym, ◌∙◌}
use mathlib.Core.List.{List, ◌∷◌, ◌++◌, append_assoc, map}
use Prim.Native.Nat.{ℕ, zero, suc, ◌+◌, ◌-◌, ◌*◌, ◌/◌, ◌≤◌, ◌<◌}
use native.Mathlib.Nat.{mul-suc, mul-zero, add_comm, add_assoc, zero-add}
use native.Mathlib.Omega.{arith}
use lib.ListN.{length, length-append, length-drop, take, drop, get_or, get_or-append}
use lib.Seq.{length-take-le, get_or-take, get_or-drop, get_or-append-add, drop-drop}
use Rattle.format.specs.Basics.{given, chunks, flat}
use Rattle.format_lines.specs.LineEnds.{lines, line_end, with_end, without_end, line_twin, plain_twin, to_lines, from_lines}
use Rattle.format_lines.specs.LineEndsChecks.{WrittenOver, WrittenBack}
use Rattle.format_lines.proofs.LineEnds.{Over, over, Back, back, length_end, length-line_twin, length-plain_twin}

-- ---- pieces of v bytes, each made into w bytes, laid end to end: byte i of piece k
module _ (v w : ℕ) (f : List ℕ → List ℕ) (cut : ℕ → List ℕ → List (List ℕ)) (cuts : (n : ℕ) (bs : List ℕ) → cut (suc n) bs ≡ take v bs ∷ cut n (drop v bs)) (long : (r : List ℕ) → length r ≡ v → length (f r) ≡ w) where
  module _ (n : ℕ) (b z : List ℕ) (h : v * suc n ≤ length b) where
    room : v + v * n ≤ length b
    room = rw (add_comm v (v * n), ← mul-suc v n) h

    one : length (f (take v b)) ≡ w
    one = long (take v b) (length-take-le v b (omega (arith, room)))

    rest : List ℕ
    rest = flat (map f (cut n (drop v b))) ++ z

    split : flat (map f (cut (suc n) b)) ++ z ≡ f (take v b) ++ rest
    unfolding rest
    split = ap (λ (x : List (List ℕ)). flat (map f x) ++ z) (cuts n b) ∙ append_assoc (f (take v b)) (flat (map f (cut n (drop v b)))) z

    first_byte : (i : ℕ) → i < w → get_or (flat (map f (cut (suc n) b)) ++ z) (w * 0 + i) 0 ≡ get_or (f (take v (drop (v * 0) b))) i 0
    first_byte i m = rw (split, mul-zero w, mul-zero v, zero-add i) (get_or-append (f (take v b)) rest 0 i (omega (arith, one)))

    later_byte : (k i : ℕ) → get_or rest (w * k + i) 0 ≡ get_or (f (take v (drop (v * k) (drop v b)))) i 0 → get_or (flat (map f (cut (suc n) b)) ++ z) (w * suc k + i) 0 ≡ get_or (f (take v (drop (v * suc k) b))) i 0
    later_byte k i e =
        ap (λ (x : List ℕ). get_or x (w * suc k + i) 0) split
        ∙ ap (λ (j : ℕ). get_or (f (take v b) ++ rest) j 0) next
        ∙ get_or-append-add (f (take v b)) rest (w * k + i) 0
        ∙ e
        ∙ ap (λ (x : List ℕ). get_or (f (take v x)) i 0) (drop-drop (v * k) v b ∙ ap (λ (j : ℕ). drop j b) (add_comm v (v * k) ∙ sym (mul-suc v k)))
      where
        next : w * suc k + i ≡ length (f (take v b)) + (w * k + i)
        next = rw (one, mul-suc w k, add_comm (w * k) w) (add_assoc w (w * k) i)

  byte_at : (n : ℕ) (b z : List ℕ) (k i : ℕ) → v * n ≤ length b → k < n → i < w → get_or (flat (map f (cut n b)) ++ z) (w * k + i) 0 ≡ get_or (f (take v (drop (v * k) b))) i 0
  unfolding rest
  byte_at zero b z k i h l m = absurd (omega arith)
  byte_at (suc n) b z zero i h l m = first_byte n b z h i m
  byte_at (suc n) b z (suc k) i h l m = later_byte n b z h k i (byte_at n (drop v b) z k i (rw (length-drop v b) (omega (arith, room n b z h))) (omega arith) m)

-- bytes behind a result that is put in front
behind-at : (result target : List ℕ) (m i : ℕ) → length result ≡ m → m ≤ i → get_or (result ++ drop m target) i 0 ≡ get_or target i 0
behind-at result target m i e h = ap (λ (j : ℕ). get_or (result ++ drop m target) j 0) (let p : i ≡ length result + (i - m) = omega arith in p) ∙ get_or-append-add result (drop m target) (i - m) 0 ∙ get_or-drop m target (i - m) 0 ∙ ap (λ (j : ℕ). get_or target j 0) (let p : m + (i - m) ≡ i = omega arith in p)

length-put : (result target : List ℕ) (m : ℕ) → length result ≡ m → m ≤ length target → length (result ++ drop m target) ≡ length target
length-put result target m e h = length-append result (drop m target) ∙ rw (length-drop m target) (omega arith)

-- ---- over
record_byte : (b : List ℕ) (k i : ℕ) → 84 * k + 84 ≤ length b → i < 84 → get_or (with_end (take 84 (drop (84 * k) b))) i 0 ≡ get_or b (84 * k + i) 0
unfolding with_end
record_byte b k i h l = get_or-append (take 84 (drop (84 * k) b)) line_end 0 i (omega (arith, l, length-take-le 84 (drop (84 * k) b) (rw (length-drop (84 * k) b) (omega arith)))) ∙ get_or-take 84 (drop (84 * k) b) i 0 l ∙ get_or-drop (84 * k) b i 0

end_byte : (r : List ℕ) (i : ℕ) → length r ≡ 84 → get_or (with_end r) (84 + i) 0 ≡ get_or line_end i 0
unfolding with_end
end_byte r i e = ap (λ (j : ℕ). get_or (r ++ line_end) (j + i) 0) (sym e) ∙ get_or-append-add r line_end i 0

pub written_over : (used : ℕ) (b t : List ℕ) (n : ℕ) → (to_lines used b t).answer ≡ given n → (n ≡ 86 * (used / 84)) × WrittenOver used b t (to_lines used b t).bytes
unfolding line_twin
written_over used b t n e = (
  d.length_is,
  record {
    same_length = ap length d.bytes_are ∙ length-put (line_twin used b) t (length (line_twin used b)) refl d.room;
    byte = λ k i h l. at k i h (omega arith) ∙ record_byte b k i (omega (arith, d.form.inside)) l;
    ended = λ k h. (at k 84 h (omega arith) ∙ end_byte (take 84 (drop (84 * k) b)) 0 (wide k h), at k 85 h (omega arith) ∙ end_byte (take 84 (drop (84 * k) b)) 1 (wide k h));
    behind = λ i h. ap (λ (x : List ℕ). get_or x i 0) d.bytes_are ∙ behind-at (line_twin used b) t (length (line_twin used b)) i refl (omega (arith, h, length-line_twin used b d.form));
  },
)
  where
    d : Over used b t n
    d = over used b t n e

    wide : (k : ℕ) → k < used / 84 → length (take 84 (drop (84 * k) b)) ≡ 84
    wide k h = length-take-le 84 (drop (84 * k) b) (rw (length-drop (84 * k) b) (omega (arith, d.form.inside)))

    at : (k i : ℕ) → k < used / 84 → i < 86 → get_or (to_lines used b t).bytes (86 * k + i) 0 ≡ get_or (with_end (take 84 (drop (84 * k) b))) i 0
    at k i h l = ap (λ (x : List ℕ). get_or x (86 * k + i) 0) d.bytes_are ∙ byte_at 84 86 with_end chunks (λ n bs. refl) length_end (used / 84) b (drop (length (line_twin used b)) t) k i (omega (arith, d.form.inside)) h l

-- ---- back
length_without : (r : List ℕ) → length r ≡ 86 → length (without_end r) ≡ 84
unfolding without_end
length_without r e = length-take-le 84 r (omega arith)

line_byte : (b : List ℕ) (k i : ℕ) → i < 84 → get_or (without_end (take 86 (drop (86 * k) b))) i 0 ≡ get_or b (86 * k + i) 0
unfolding without_end
line_byte b k i l = get_or-take 84 (take 86 (drop (86 * k) b)) i 0 l ∙ get_or-take 86 (drop (86 * k) b) i 0 (omega arith) ∙ get_or-drop (86 * k) b i 0

pub written_back : (used : ℕ) (b t : List ℕ) (n : ℕ) → (from_lines used b t).answer ≡ given n → (n ≡ 84 * (used / 86)) × WrittenBack used b t (from_lines used b t).bytes
unfolding plain_twin
written_back used b t n e = (
  d.length_is,
  record {
    same_length = ap length d.bytes_are ∙ length-put (plain_twin used b) t (length (plain_twin used b)) refl d.room;
    byte = λ k i h l. ap (λ (x : List ℕ). get_or x (84 * k + i) 0) d.bytes_are ∙ byte_at 86 84 without_end lines (λ n bs. refl) length_without (used / 86) b (drop (length (plain_twin used b)) t) k i (omega (arith, d.form.inside)) h l ∙ line_byte b k i l;
    behind = λ i h. ap (λ (x : List ℕ). get_or x i 0) d.bytes_are ∙ behind-at (plain_twin used b) t (length (plain_twin used b)) i refl (omega (arith, h, length-plain_twin used b d.form));
  },
)
  where
    d : Back used b t n
    d = back used b t n e
