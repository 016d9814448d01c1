-- The struct that C sees of a callee's answer. Assumes nothing.
use mathlib.Core.Path.{◌≡◌, refl, ap, ◌∙◌}
use mathlib.Core.List.{List}
use Prim.Native.Nat.{ℕ}
use lib.IntN.{ℤ}
use Rattle.format.specs.Basics.{Outcome}
use Rattle.std.specs.Prelude.{Option, None, Result, Ok, Err}
use Rattle.format.specs.declared.Refusal.{Refusal}
use Rattle.format.specs.declared.Reason.{Reason}
use Rattle.format.specs.declared.Counts.{Counts}
use Rattle.format.specs.declared.HeaderAbove.{HeaderAbove}
use Rattle.format.specs.Reasons.{refusal_number, refusal_for}
use Rattle.format.specs.Answers.{number_answer, written_answer, judged_answer, way_up_answer, edited_answer}
use Rattle.format.specs.Run.{Step}
use Rattle.format.specs.Answers.{step_for}
use Rattle.format_directory.specs.Answers.{jumped_answer}
use Rattle.c_interface.specs.declared.ZvWay.{ZvWay}
use Rattle.c_interface.specs.declared.ZvNumber.{ZvNumber}
use Rattle.c_interface.specs.declared.ZvCounts.{ZvCounts}
use Rattle.c_interface.specs.declared.ZvLength.{ZvLength}
use Rattle.c_interface.specs.declared.ZvLayer.{ZvLayer}
use Rattle.c_interface.specs.Interface.{number_of, counts_of, length_of, way_of, layer_of, Wrote, wrote_of, edited_of}

-- an answer's case, as the struct that C sees
pub is_number_lem : {a : Result ℤ Refusal} {v z : ℤ} → a ≡ Ok v → z ≡ v → ◌≡◌ {A = ZvNumber} (record { refusal = 0; at = 0; value = z }) (number_of (number_answer a))
unfolding number_answer
is_number_lem e f = rw (e, f)

pub no_counts_lem : {a : Result Counts Refusal} {reason : Reason} {r : ℕ} → a ≡ Err (refusal_for reason r) → ◌≡◌ {A = ZvCounts} (record { refusal = refusal_number reason; at = r; records = 0; items = 0 }) (counts_of (judged_answer a))
unfolding judged_answer
no_counts_lem e = rw e

pub is_layer_lem : {a : Result (Option HeaderAbove) Refusal} → a ≡ Ok None → ◌≡◌ {A = ZvWay} (record { refusal = 0; at = 0; header = 0; passed = 0 }) (way_of (way_up_answer a))
unfolding way_up_answer
is_layer_lem e = rw e

pub is_header_lem : {a : Result ℕ Refusal} {n : ℕ} → a ≡ Ok n → ◌≡◌ {A = ZvLayer} (record { refusal = 0; at = 0; header = n }) (layer_of (jumped_answer a))
unfolding jumped_answer
is_header_lem e = rw e

-- an edit's answer is a length too
edited_length : (a : Result ℕ Refusal) → written_answer a ≡ edited_answer a
unfolding written_answer edited_answer
edited_length (Ok n) = refl
edited_length (Err r) = refl

pub wrote_edit : {r : ZvLength} {bytes : List ℕ} {o : Outcome ℕ} (a : Result ℕ Refusal) → r ≡ length_of (written_answer a) → record { answer = edited_answer a; bytes = bytes } ≡ o → ◌≡◌ {A = Wrote} (record { result = r; bytes = bytes }) (wrote_of o)
wrote_edit a e f = rw (e, edited_length a) (ap wrote_of f)

step_is : (a : Result ℕ Refusal) (used : ℕ) (bytes : List ℕ) → ◌≡◌ {A = Wrote} (record { result = length_of (edited_answer a); bytes = bytes }) (edited_of (step_for a used bytes))
unfolding step_for
step_is (Ok n) used bytes = refl
step_is (Err r) used bytes = refl

pub edits : {r : ZvLength} {bytes : List ℕ} {s : Step} (a : Result ℕ Refusal) (used : ℕ) → r ≡ length_of (written_answer a) → step_for a used bytes ≡ s → ◌≡◌ {A = Wrote} (record { result = r; bytes = bytes }) (edited_of s)
edits {bytes = bytes} a used e f = rw (e, edited_length a) (step_is a used bytes ∙ ap edited_of f)
