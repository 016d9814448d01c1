-- A line put into a buffer piece by piece: the buffer holds the whole line. Assumes nothing.
use Rattle.std.specs.Prelude.{Ok, Err}
use mathlib.Core.Path.{◌≡◌, refl, ap, sym, ◌∙◌}
use mathlib.Core.List.{List, ◌++◌, append_assoc}
use Prim.Native.Nat.{ℕ, ◌+◌, ◌≤◌, ◌<◌}
use native.Mathlib.Nat.{zero-add}
use native.Mathlib.Omega.{arith}
use borrow.Author.Tests.{le-leb, lt-leb}
use lib.ListN.{length, take, drop, length-append, length-drop}
use lib.Seq.{take_at, drop_at, drop-drop, length-take-le}
use Rattle.format.specs.Answers.{written_answer}
use Rattle.format.specs.declared.Reason.{Reason}
use Rattle.format.specs.declared.Refusal.{Refusal}
use Rattle.format.specs.Column.{digits}
use Rattle.format.specs.Program.{line_to}
use Rattle.files.specs.Buffers.{put_at}
use Rattle.files.proofs.Buffers.{put-there}
use Rattle.report.specs.Steps.{number_line}

-- ---- a text put behind another

module _ (l s t : List ℕ) (at : ℕ) (h : at + length s + length t ≤ length l) where
  front : List ℕ
  front = take at l ++ s

  length_front : length front ≡ at + length s
  unfolding front
  length_front = rw (length-append (take at l) s, length-take-le at l (omega arith)) refl

  whole : put_at l at s ≡ front ++ drop (at + length s) l
  unfolding front
  whole = put-there l at s (omega arith) ∙ sym (append_assoc (take at l) s (drop (at + length s) l))

  rest : drop (at + length s + length t) (put_at l at s) ≡ drop (at + length s + length t) l
  rest =
      sym (drop-drop (length t) (at + length s) (put_at l at s))
      ∙ ap (drop (length t)) (ap (drop (at + length s)) whole ∙ drop_at front (drop (at + length s) l) (at + length s) length_front)
      ∙ drop-drop (length t) (at + length s) l

  begin : take (at + length s) (put_at l at s) ≡ front
  begin = ap (take (at + length s)) whole ∙ take_at front (drop (at + length s) l) (at + length s) length_front

  room : at + length s + length t ≤ length (put_at l at s)
  room = omega (arith, ap length whole ∙ length-append front (drop (at + length s) l), length_front, length-drop (at + length s) l)

  put-behind : put_at (put_at l at s) (at + length s) t ≡ put_at l at (s ++ t)
  unfolding front
  put-behind =
      let n : at + length (s ++ t) ≡ at + length s + length t = omega (arith, length-append s t) in
      rw (put-there (put_at l at s) (at + length s) t room, put-there l at (s ++ t) (omega arith), begin, rest, n) (simp append_assoc)

pub pair_put : (l l₁ l₂ s t : List ℕ) (at : ℕ) → at + length s + length t ≤ length l → l₁ ≡ put_at l at s → l₂ ≡ put_at l₁ (at + length s) t → l₂ ≡ put_at l at (s ++ t)
pair_put l l₁ l₂ s t at h p q = q ∙ rw p (put-behind l s t at h)

-- ---- a line at the start of a buffer

pub no_room : (line out : List ℕ) (r : Refusal) → r ≡ record { reason = Reason.Room; at = 0 } → length out < length line → record { answer = written_answer (Err r); bytes = out } ≡ line_to line out
unfolding line_to written_answer
no_room line out r e h = rw e (simp (lt-leb (length line) (length out) h))

pub put_whole : (line out out' : List ℕ) → length line ≤ length out → out' ≡ put_at out 0 line → record { answer = written_answer (Ok (length line)); bytes = out' } ≡ line_to line out
unfolding line_to written_answer
put_whole line out out' h e = rw (e, put-there out 0 line (omega arith), zero-add (length line), le-leb (length line) (length out) h) refl

-- ---- a text, a number, a text, a number and a text: m and n are how many digits the numbers have

module _ (first second third : List ℕ) (a b m n : ℕ) (p : m ≡ length (digits a)) (q : n ≡ length (digits b)) where
  length-numbers : length first + m + length second + n + length third ≡ length (number_line first a second b third)
  unfolding number_line
  length-numbers = simp length-append (omega arith)

  pub no_room_numbers : (out : List ℕ) (r : Refusal) → r ≡ record { reason = Reason.Room; at = 0 } → length out < length first + m + length second + n + length third → record { answer = written_answer (Err r); bytes = out } ≡ line_to (number_line first a second b third) out
  no_room_numbers out r e h = no_room (number_line first a second b third) out r e (rw length-numbers at h)

  parts-numbers : first ++ digits a ++ (second ++ digits b) ++ third ≡ number_line first a second b third
  unfolding number_line
  parts-numbers = simp append_assoc

  pub put-numbers : (out out₁ out₂ out₃ : List ℕ) (i j : ℕ) → length first + m + length second + n + length third ≤ length out
      → out₁ ≡ put_at out 0 (first ++ digits a) → i ≡ 0 + length first + length (digits a)
      → out₂ ≡ put_at out₁ i (second ++ digits b) → j ≡ i + length second + length (digits b)
      → out₃ ≡ put_at out₂ j third
      → record { answer = written_answer (Ok (length first + m + length second + n + length third)); bytes = out₃ } ≡ line_to (number_line first a second b third) out
  put-numbers out out₁ out₂ out₃ i j h e₁ p₁ e₂ p₂ e₃ =
      let s : List ℕ = first ++ digits a in
      let t : List ℕ = second ++ digits b in
      let x : length s ≡ length first + length (digits a) = length-append first (digits a) in
      let y : length t ≡ length second + length (digits b) = length-append second (digits b) in
      let z : length (s ++ t) ≡ length s + length t = length-append s t in
      let i-is : i ≡ 0 + length s = omega arith in
      let j-is : j ≡ 0 + length (s ++ t) = omega arith in
      let two : out₂ ≡ put_at out 0 (s ++ t) = pair_put out out₁ out₂ s t 0 (omega arith) e₁ (rw i-is at e₂) in
      let three : out₃ ≡ put_at out 0 (s ++ t ++ third) = pair_put out out₂ out₃ (s ++ t) third 0 (omega arith) two (rw j-is at e₃) in
      rw length-numbers (put_whole (number_line first a second b third) out out₃ (rw length-numbers at h) (rw parts-numbers at three))
