-- The reasons of refusals and document 01's numbers for them, one to one (`ClaimsAnswers.reason_one_to_one`). Assumes nothing.
use Rattle.std.specs.Prelude.{◌≡◌, ℕ, Result, Ok, Err, MatchResult}
use Rattle.format.specs.Basics.{Fault, none, fault}
use Rattle.format.specs.declared.Reason.{Reason}
use Rattle.format.specs.declared.Refusal.{Refusal}
use Rattle.format.specs.declared.UnknownNumber.{UnknownNumber}

-- "Refusals", 1 to 15 in the order in which judging and edits find them, 16 to 19 of the other calls; 27 of order 13
abbrev pub refusal_number : Reason → ℕ
refusal_number Reason.Length = 1
refusal_number Reason.FileType = 2
refusal_number Reason.MissingRecord = 3
refusal_number Reason.RecordType = 4
refusal_number Reason.Malformed = 5
refusal_number Reason.OutsideRange = 6
refusal_number Reason.Level = 7
refusal_number Reason.DataRule = 8
refusal_number Reason.Fraction = 9
refusal_number Reason.Count = 10
refusal_number Reason.Place = 11
refusal_number Reason.Block = 12
refusal_number Reason.BlockLevel = 13
refusal_number Reason.Limit = 14
refusal_number Reason.Room = 15
refusal_number Reason.Number = 16
refusal_number Reason.RecordNumber = 17
refusal_number Reason.LineEnd = 18
refusal_number Reason.Directory = 19
refusal_number Reason.Edition = 27

abbrev pub refusal_for : Reason → (at : ℕ) → Refusal
refusal_for reason at = record { reason = reason; at = at }

-- the reason of a number, or that no reason has it
abbrev pub Numbers : ℕ → Result Reason UnknownNumber → Type 0
Numbers n r = MatchResult r (λ reason. refusal_number reason ≡ n) (λ unknown. (unknown.0 ≡ n) × ((reason : Reason) → refusal_number reason ≡ n → ⊥))

-- a check that finds a fault or none, by its number: 0 is no fault
abbrev pub fault_number : {A : Type 0} → Result A Reason → ℕ
fault_number (Ok a) = 0
fault_number (Err reason) = refusal_number reason

-- the same with the record of the fault
abbrev pub fault_said : {A : Type 0} → Result A Refusal → Fault
fault_said (Ok a) = none
fault_said (Err r) = fault (refusal_number r.reason) r.at
