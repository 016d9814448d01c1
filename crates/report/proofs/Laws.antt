-- What callers of `report` cite: the bytes that it answers stand in the lent buffer, and 65 bytes are always room enough. Assumes nothing.
use mathlib.Core.Path.{◌≡◌, refl, ap}
use mathlib.Core.Bool.{Bool, true, false, cond}
use mathlib.Core.List.{List, [], ◌∷◌, ◌++◌}
use Prim.Native.Nat.{ℕ, zero, suc, ◌+◌, ◌/◌, ◌%◌, ◌≤◌}
use native.Mathlib.Omega.{arith}
use borrow.Author.Tests.{le-leb}
use lib.Dec.{leb, ltb}
use lib.ListN.{length, drop, length-append}
use Rattle.format.specs.Basics.{Answer, Outcome, given, refused}
use Rattle.format.specs.Text.{bytes}
use Rattle.format.specs.Column.{digits_in, digits}
use Rattle.format.specs.Judge.{Counts}
use Rattle.format.specs.Program.{judge_input, line_of, line, printed, line_to, report_to}

-- a line that is answered stands in the buffer whole
pub line-inside : (line out out' : List ℕ) (n : ℕ) → record { answer = given n; bytes = out' } ≡ line_to line out → n ≤ length out'
unfolding line_to
line-inside line out out' n e = go (leb (length line) (length out)) refl
  where
    go : (b : Bool) → leb (length line) (length out) ≡ b → n ≤ length out'
    go true h =
        let p : given n ≡ given (length line) = ap (λ (o : Outcome ℕ). o.answer) (rw h at e) in
        let q : out' ≡ line ++ drop (length line) out = ap (λ (o : Outcome ℕ). o.bytes) (rw h at e) in
        let m : n ≡ length line = cc in
        rw (q, length-append line (drop (length line) out)) (omega arith)
    go false h =
        let p : given n ≡ refused 15 0 = ap (λ (o : Outcome ℕ). o.answer) (rw h at e) in
        let x : ◌≡◌ {A = ℕ} 0 1 = cc in
        absurd (omega arith)

-- ---- a line is never longer than 65 bytes, so a buffer of that length always has room

length-digits_in : (f n : ℕ) → length (digits_in f n) ≤ suc f
unfolding digits_in
length-digits_in zero n = omega arith
length-digits_in (suc f) n = go (ltb n 10) (length-digits_in f (n / 10))
  where
    go : (b : Bool) → length (digits_in f (n / 10)) ≤ suc f → length (cond b ((48 + n) ∷ []) (digits_in f (n / 10) ++ ((48 + n % 10) ∷ []))) ≤ suc (suc f)
    go true h = omega arith
    go false h = rw (length-append (digits_in f (n / 10)) ((48 + n % 10) ∷ [])) (omega arith)

length_digits : (n : ℕ) → length (digits n) ≤ 20
unfolding digits
length_digits n = length-digits_in 19 n

length-line_of : (a : Answer Counts) → length (line_of a) ≤ 64
unfolding bytes
length-line_of (given c) = simp length-append (omega (arith, length_digits c.records, length_digits c.items))
length-line_of (refused n r) = simp length-append (omega (arith, length_digits n, length_digits r))

length-line : (input : List ℕ) → length (line input) ≤ 64
unfolding line bytes
length-line input = go (leb (length input) 65520)
  where
    go : (b : Bool) → length (cond b (line_of (judge_input input)) (bytes "too long")) ≤ 64
    go true = length-line_of (judge_input input)
    go false = omega arith

length-printed : (input : List ℕ) → length (printed input) ≤ 65
unfolding printed
length-printed input = rw (length-append (line input) (10 ∷ [])) (omega (arith, length-line input))

pub always_room : (input out : List ℕ) → 65 ≤ length out → report_to input out ≡ record { answer = given (length (printed input)); bytes = printed input ++ drop (length (printed input)) out }
unfolding report_to line_to
always_room input out h = let room : length (printed input) ≤ length out = omega (arith, length-printed input) in simp (le-leb (length (printed input)) (length out) room)
