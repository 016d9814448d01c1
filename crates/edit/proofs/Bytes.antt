-- Moves of bytes in the code's own words: what one store does to a buffer that is being moved, and what is then put in or filled. Assumes nothing.
use mathlib.Core.Path.{◌≡◌, ap, sym, ◌∙◌}
use mathlib.Core.List.{List, [], ◌∷◌, ◌++◌, append_assoc, append-nil}
use Prim.Native.Nat.{ℕ, suc, ◌+◌, ◌-◌, ◌<◌, ◌≤◌}
use native.Mathlib.Omega.{arith}
use borrow.Rule.Slice.PartMut.{put_mid}
use native.Mathlib.Numerals.{add-one}
use lib.ListN.{take-append-drop, length, take, drop, get_or, set, replicate, length-append, length-drop, get_or-append}
use lib.Seq.{take-append-le, take-take, take_at, drop_at, drop-drop, length-slice, slice_empty, slice, slice-cons, take-suc, set_at, get_or-take, get_or-drop, get_or-append-add, length-take-le, drop-append-le}
use Rattle.format.proofs.Lists.{one_more}
use Rattle.files.specs.Buffers.{put_at}
use Rattle.files.proofs.Buffers.{put-there}

-- moving up: the byte at i goes to i + n
pub up : (l r b : List ℕ) (i n t : ℕ) → i < t → t + n ≤ length l → b ≡ take (suc (i + n)) l ++ (slice (suc i) t l ++ r) → set b (i + n) (get_or b i 0) ≡ take (i + n) l ++ (slice i t l ++ r)
up l r b i n t it tn h =
    let front : length (take (i + n) l) ≡ i + n = length-take-le (i + n) l (omega arith) in
    let long : length (take (suc (i + n)) l) ≡ suc (i + n) = length-take-le (suc (i + n)) l (omega arith) in
    let byte : get_or b i 0 ≡ get_or l i 0 = rw h (get_or-append (take (suc (i + n)) l) _ 0 i (omega arith) ∙ get_or-take (suc (i + n)) l i 0 (omega arith)) in
    let lt : i + n < length l = omega arith in
    let whole : b ≡ take (i + n) l ++ (get_or l (i + n) 0 ∷ (slice (suc i) t l ++ r)) = h ∙ rw (take-suc l (i + n) 0, append_assoc) in
    rw (byte, whole) (set_at (take (i + n) l) _ _ (get_or l i 0) (i + n) front ∙ rw (slice-cons i t l 0 it (omega arith)))

-- a byte at or after the front is the old one
pub behind : (l p b : List ℕ) (k n : ℕ) → length p ≡ k → b ≡ p ++ drop k l → get_or b (k + n) 0 ≡ get_or l (k + n) 0
behind l p b k n hp h = rw (h, ← hp) (get_or-append-add p _ n 0 ∙ rw (hp, get_or-drop))

-- a slice with one byte more
pub slice_snoc : (f t : ℕ) (l : List ℕ) → f ≤ t → t < length l → slice f (t + 1) l ≡ slice f t l ++ (get_or l t 0 ∷ [])
slice_snoc f t l ft tl =
    let len : length (take t l) ≡ t = length-take-le t l (omega arith) in
    rw (add-one, take-suc l t 0) (drop-append-le f (take t l) _ (omega arith))

-- where `open_gap` and `shift_down` start
pub open_start : (l : List ℕ) (used n : ℕ) → l ≡ take (used + n) l ++ (slice used used l ++ drop (used + n) l)
open_start l used n = rw slice_empty (sym (take-append-drop (used + n) l))

pub down_start : (l : List ℕ) (at n : ℕ) → l ≡ (take at l ++ slice (at + n) (at + n) l) ++ drop (at + n - n) l
down_start l at n =
    let e : at + n - n ≡ at = omega arith in
    rw (e, slice_empty (at + n), append-nil (take at l)) (sym (take-append-drop at l))

-- one turn of `open_gap`
pub open_step : (l r b : List ℕ) (used n i : ℕ) → 0 < i → i ≤ used → used + n ≤ length l → b ≡ take (i + n) l ++ (slice i used l ++ r) → set b (i - 1 + n) (get_or b (i - 1) 0) ≡ take (i - 1 + n) l ++ (slice (i - 1) used l ++ r)
open_step l r b used n i ip iu ul h =
    let e : i ≡ suc (i - 1) = omega arith in
    let f : i + n ≡ suc (i - 1 + n) = omega arith in
    up l r b (i - 1) n used (omega arith) ul (h ∙ rw (← f, ← e))

-- one turn of `shift_down`
pub down_step : (l b : List ℕ) (at n i : ℕ) → at + n ≤ i → i < length l → b ≡ (take at l ++ slice (at + n) i l) ++ drop (i - n) l → set b (i - n) (get_or b i 0) ≡ (take at l ++ slice (at + n) (i + 1) l) ++ drop (i + 1 - n) l
down_step l b at n i ai il h =
    let e : i + 1 - n ≡ i - n + 1 = omega arith in
    let k : i ≡ i - n + n = omega arith in
    let len : length (take at l ++ slice (at + n) i l) ≡ i - n = rw (length-append, length-slice (at + n) i l (omega arith), length-take-le at l (omega arith)) (omega arith) in
    let byte : get_or b i 0 ≡ get_or l i 0 = rw k (behind l (take at l ++ slice (at + n) i l) b (i - n) n len h) in
    rw byte (one_more l (take at l ++ slice (at + n) i l) b (i - n) (get_or l i 0) len (omega arith) h ∙ rw (append_assoc (take at l) (slice (at + n) i l) (get_or l i 0 ∷ []), e, slice_snoc (at + n) i l ai il))

-- a gap opened and filled
pub inserted : (l s m b : List ℕ) (used at : ℕ) → at ≤ used → used + length s ≤ length l → m ≡ take (at + length s) l ++ (slice at used l ++ drop (used + length s) l) → b ≡ put_at m at s → b ≡ take at l ++ (s ++ (slice at used l ++ drop (used + length s) l))
inserted l s m b used at au ul hm hb =
    let len : length (take (at + length s) l) ≡ at + length s = length-take-le (at + length s) l (omega arith) in
    let front : take at m ≡ take at l = rw hm (take-append-le at (take (at + length s) l) (slice at used l ++ drop (used + length s) l) (omega arith) ∙ take-take at (at + length s) l (omega arith)) in
    let back : drop (at + length s) m ≡ slice at used l ++ drop (used + length s) l = rw hm (drop_at (take (at + length s) l) (slice at used l ++ drop (used + length s) l) (at + length s) len) in
    let room : at + length s ≤ length m = omega (arith, ap length hm ∙ length-append (take (at + length s) l) (slice at used l ++ drop (used + length s) l), len) in
    hb ∙ put-there m at s room ∙ rw (front, back)

-- bytes moved down, and the freed end filled
pub taken-out : (l m f : List ℕ) (used at n v : ℕ) → at + n ≤ used → used ≤ length l → m ≡ take at l ++ (slice (at + n) used l ++ drop (used - n) l) → f ≡ replicate (length (take (used - (used - n)) (drop (used - n) m))) v → put_mid (used - n) (used - (used - n)) m f ≡ take at l ++ (slice (at + n) used l ++ (replicate n v ++ drop used l))
taken-out l m f used at n v au ul hm hf =
    let k : used - (used - n) ≡ n = omega arith in
    let w : used - n + n ≡ used = omega arith in
    let is : m ≡ (take at l ++ slice (at + n) used l) ++ drop (used - n) l = hm ∙ sym (append_assoc (take at l) (slice (at + n) used l) (drop (used - n) l)) in
    let len : length (take at l ++ slice (at + n) used l) ≡ used - n = rw (length-append, length-slice (at + n) used l ul, length-take-le at l (omega arith)) (omega arith) in
    let front : take (used - n) m ≡ take at l ++ slice (at + n) used l = rw is (take_at (take at l ++ slice (at + n) used l) (drop (used - n) l) (used - n) len) in
    let back : drop n (drop (used - n) m) ≡ drop used l = rw is (ap (drop n) (drop_at (take at l ++ slice (at + n) used l) (drop (used - n) l) (used - n) len)) ∙ drop-drop n (used - n) l ∙ rw w in
    let same : length m ≡ length l = ap length is ∙ length-append (take at l ++ slice (at + n) used l) (drop (used - n) l) ∙ rw (len, length-drop (used - n) l) (omega arith) in
    let freed : length (take n (drop (used - n) m)) ≡ n = length-take-le n (drop (used - n) m) (omega (arith, length-drop (used - n) m, same)) in
    rw (k, front, back, hf, k, freed) (append_assoc (take at l) (slice (at + n) used l) (replicate n v ++ drop used l))
