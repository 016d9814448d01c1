-- The records of a file written to a second buffer one after another: `write_at` and `write_records` in the code's own words. Assumes nothing.
use mathlib.Core.Path.{◌≡◌, ap, sym, ◌∙◌}
use mathlib.Core.List.{List, [], ◌∷◌, ◌++◌, append_assoc, append-nil}
use Prim.Native.Nat.{ℕ, suc, ◌+◌, ◌-◌, ◌*◌, ◌/◌, ◌≤◌, ◌<◌}
use native.Mathlib.Nat.{add-sub_cancel_left}
use native.Mathlib.Omega.{arith}
use lib.ListN.{length, take, drop, get_or, length-append, length-drop, take-append-drop}
use lib.Seq.{length-take-le, take_at, drop_at, drop-drop}
use Rattle.format.specs.Basics.{chunks, flat}
use Rattle.format.proofs.Lists.{length-chunks}
use Rattle.files.specs.declared.Stride.TheVariants.{Plain}
use Rattle.files.specs.Records.{stride_of, records_of}
use Rattle.files.proofs.Records.{plain-records, record_is, record_wide}
use Rattle.format.specs.Normal.{normal_record}
use Rattle.normal.specs.declared.due.FileDue.{FileDue}
use Rattle.normal.specs.Due.{next_in_file, columns_due, rewritten}

-- ---- `write_at`

part_same : (k : ℕ) (l : List ℕ) → take (84 * k + 84 - 84 * k) (drop (84 * k) l) ≡ take 84 (drop (84 * k) l)
part_same k l = ap (λ (m : ℕ). take m (drop (84 * k) l)) (add-sub_cancel_left (84 * k) 84)

pub length-here : (second : List ℕ) (k : ℕ) → 84 * (k + 1) ≤ length second → length (take (84 * k + 84 - 84 * k) (drop (84 * k) second)) ≡ 84
length-here second k room = ap length (part_same k second) ∙ length-take-le 84 (drop (84 * k) second) (rw (length-drop (84 * k) second) (omega arith))

pub put-here : (second part part' : List ℕ) (k : ℕ) → part ≡ part' → take (84 * k) second ++ (part ++ drop (84 * k + 84 - 84 * k) (drop (84 * k) second)) ≡ take (84 * k) second ++ (part' ++ drop (84 * (k + 1)) second)
put-here second part part' k e = rw (e, drop-drop (84 * k + 84 - 84 * k) (84 * k) second, places)
  where
    places : 84 * k + (84 * k + 84 - 84 * k) ≡ 84 * (k + 1)
    places = omega arith

-- ---- `write_records`: k of n records are written; the second buffer holds them, and behind them what it held before

module _ (buffer : List ℕ) (n k : ℕ) (here : k < n) (room : 84 * n ≤ length buffer) where
  there : k < length (records_of Plain buffer)
  there = rw (plain-records buffer, length-chunks (length buffer / 84) buffer) (omega arith)

  pub record_long : (r : List ℕ) → r ≡ get_or (records_of Plain buffer) k [] → length r ≡ 84
  record_long r e = ap length e ∙ record_wide Plain buffer k there

  records_left : chunks (n - k) (drop (84 * k) buffer) ≡ get_or (records_of Plain buffer) k [] ∷ chunks (n - (k + 1)) (drop (84 * (k + 1)) buffer)
  unfolding stride_of
  records_left =
      let e : n - k ≡ suc (n - (k + 1)) = omega arith in
      let f : 84 * (k + 1) ≡ 84 * k + 84 = omega arith in
      rw (e, f, record_is Plain buffer k there, drop-drop 84 (84 * k) buffer)

pub nothing_written : (buffer : List ℕ) (n : ℕ) (first : FileDue) (second : List ℕ) → take (84 * 0) second ++ flat (rewritten first (chunks (n - 0) (drop (84 * 0) buffer))) ≡ flat (rewritten first (chunks n buffer))
nothing_written buffer n first second = let e : n - 0 ≡ n = omega arith in rw e

-- one record more: the part before it, the record and what is behind it
module _ (second part second' : List ℕ) (k : ℕ) (room : 84 * (k + 1) ≤ length second) (is : second' ≡ take (84 * k) second ++ (part ++ drop (84 * (k + 1)) second)) (same : length second' ≡ length second) where
  joined : second' ≡ (take (84 * k) second ++ part) ++ drop (84 * (k + 1)) second
  joined = is ∙ sym (append_assoc (take (84 * k) second) part (drop (84 * (k + 1)) second))

  long : length (take (84 * k) second ++ part) ≡ 84 * (k + 1)
  long = omega (arith, same, ap length joined, length-append (take (84 * k) second ++ part) (drop (84 * (k + 1)) second), length-drop (84 * (k + 1)) second)

  front : take (84 * (k + 1)) second' ≡ take (84 * k) second ++ part
  front = ap (take (84 * (k + 1))) joined ∙ take_at (take (84 * k) second ++ part) (drop (84 * (k + 1)) second) (84 * (k + 1)) long

  kept : (second₀ : List ℕ) → drop (84 * k) second ≡ drop (84 * k) second₀ → drop (84 * (k + 1)) second' ≡ drop (84 * (k + 1)) second₀
  kept second₀ e =
      let f : 84 * (k + 1) ≡ 84 * k + 84 = omega arith in
      ap (drop (84 * (k + 1))) joined
      ∙ drop_at (take (84 * k) second ++ part) (drop (84 * (k + 1)) second) (84 * (k + 1)) long
      ∙ rw (f, ← drop-drop 84 (84 * k) second, ← drop-drop 84 (84 * k) second₀, e)

module _ (buffer second second₀ second' : List ℕ) (n k : ℕ) (due due' : FileDue) (r : List ℕ) (is : second' ≡ take (84 * k) second ++ (normal_record (columns_due due r) r ++ drop (84 * (k + 1)) second)) (same : length second' ≡ length second) (long₀ : length second ≡ length second₀) (here : k < n) (room₂ : 84 * n ≤ length second₀) where
  pub kept_again : drop (84 * k) second ≡ drop (84 * k) second₀ → drop (84 * (k + 1)) second' ≡ drop (84 * (k + 1)) second₀
  kept_again e = kept second (normal_record (columns_due due r) r) second' k (omega arith) is same second₀ e

  pub written_again : (whole : List ℕ) → r ≡ get_or (records_of Plain buffer) k [] → due' ≡ next_in_file due r → 84 * n ≤ length buffer → take (84 * k) second ++ flat (rewritten due (chunks (n - k) (drop (84 * k) buffer))) ≡ whole → take (84 * (k + 1)) second' ++ flat (rewritten due' (chunks (n - (k + 1)) (drop (84 * (k + 1)) buffer))) ≡ whole
  unfolding rewritten
  written_again whole er next room e =
      ap (λ (x : List ℕ). x ++ flat (rewritten due' (chunks (n - (k + 1)) (drop (84 * (k + 1)) buffer)))) (front second (normal_record (columns_due due r) r) second' k (omega arith) is same)
      ∙ append_assoc (take (84 * k) second) (normal_record (columns_due due r) r) (flat (rewritten due' (chunks (n - (k + 1)) (drop (84 * (k + 1)) buffer))))
      ∙ rw (next, er) (rw (records_left buffer n k here room) at e)

pub written_all : (buffer second second₀ whole : List ℕ) (n k : ℕ) (due : FileDue) → k ≤ n → n ≤ k → take (84 * k) second ++ flat (rewritten due (chunks (n - k) (drop (84 * k) buffer))) ≡ whole → drop (84 * k) second ≡ drop (84 * k) second₀ → second ≡ whole ++ drop (84 * n) second₀
unfolding rewritten
written_all buffer second second₀ whole n k due h j e d =
    let z : n - k ≡ 0 = omega arith in
    let s : k ≡ n = omega arith in
    let w : take (84 * k) second ≡ whole = sym (append-nil (take (84 * k) second)) ∙ rw z at e in
    sym (take-append-drop (84 * k) second) ∙ rw (w, d, s)
