-- Claims: each answer of the code and the paper's answers are one to one, so that no program may answer one case for another. Assumes nothing.
use Rattle.std.specs.Prelude.{List, [], ◌∷◌, get_or, ℕ, ℤ, Option, Some, None, Result, Ok, Err}
use mathlib.Core.Path.{◌≡◌, refl, sym, ◌∙◌, ap, ap₂}
use Rattle.format.specs.Basics.{Answer, given, refused}
use Rattle.format.specs.Corner as Paper
use Rattle.format.specs.Judge as Judging
use Rattle.format.specs.Edit as Edits
use Rattle.format.specs.Above.{Way, no_header, to_header}
use Rattle.format.specs.Reasons.{refusal_number}
use Rattle.format.specs.Answers.{refused_by, number_answer, written_answer, parts_answer, judged_answer, edited_answer, block_answer, way_up_answer}
use Rattle.format.specs.declared.Reason.{Reason}
use Rattle.format.specs.declared.Refusal.{Refusal}
use Rattle.format.specs.declared.Corner.{Corner}
use Rattle.format.specs.declared.Counts.{Counts}
use Rattle.format.specs.declared.BlockItem.{BlockItem}
use Rattle.format.specs.declared.HeaderAbove.{HeaderAbove}

-- the values of an answer, and another value where it refuses; the number and record of a refusal, and others where it gives values
module _ {A : Type 0} (other : A) where
  abbrev pub value_of : Answer A → A
  value_of (given a) = a
  value_of (refused n r) = other

module _ {A : Type 0} (n r : ℕ) where
  abbrev number_in : Answer A → ℕ
  number_in (given a) = n
  number_in (refused m s) = m

  abbrev at_in : Answer A → ℕ
  at_in (given a) = r
  at_in (refused m s) = s

-- the reasons by their numbers; 0 and 20 to 26 are no reason's
abbrev reasons : List Reason
reasons =
    Reason.Length ∷ Reason.Length ∷ Reason.FileType ∷ Reason.MissingRecord ∷ Reason.RecordType ∷ Reason.Malformed ∷ Reason.OutsideRange ∷ Reason.Level ∷
    Reason.DataRule ∷ Reason.Fraction ∷ Reason.Count ∷ Reason.Place ∷ Reason.Block ∷ Reason.BlockLevel ∷ Reason.Limit ∷ Reason.Room ∷ Reason.Number ∷
    Reason.RecordNumber ∷ Reason.LineEnd ∷ Reason.Directory ∷ Reason.Length ∷ Reason.Length ∷ Reason.Length ∷ Reason.Length ∷ Reason.Length ∷
    Reason.Length ∷ Reason.Length ∷ Reason.Edition ∷ []

abbrev reason_of : ℕ → Reason
reason_of n = get_or reasons n Reason.Length

reason_back : (r : Reason) → reason_of (refusal_number r) ≡ r
reason_back Reason.Length = refl
reason_back Reason.FileType = refl
reason_back Reason.MissingRecord = refl
reason_back Reason.RecordType = refl
reason_back Reason.Malformed = refl
reason_back Reason.OutsideRange = refl
reason_back Reason.Level = refl
reason_back Reason.DataRule = refl
reason_back Reason.Fraction = refl
reason_back Reason.Count = refl
reason_back Reason.Place = refl
reason_back Reason.Block = refl
reason_back Reason.BlockLevel = refl
reason_back Reason.Limit = refl
reason_back Reason.Room = refl
reason_back Reason.Number = refl
reason_back Reason.RecordNumber = refl
reason_back Reason.LineEnd = refl
reason_back Reason.Directory = refl
reason_back Reason.Edition = refl

-- no two reasons have one number
pub reason_one_to_one : (a b : Reason) → refusal_number a ≡ refusal_number b → a ≡ b
reason_one_to_one a b e = sym (reason_back a) ∙ ap reason_of e ∙ reason_back b

pub refusal_one_to_one : {A : Type 0} (a b : Refusal) → refused_by {A = A} a ≡ refused_by b → a ≡ b
refusal_one_to_one a b e = ap₂ (λ (x : Reason) (n : ℕ). (record { reason = x; at = n })) (reason_one_to_one a.reason b.reason (ap (number_in 0 0) e)) (ap (at_in 0 0) e)

pub number_one_to_one : (a b : Result ℤ Refusal) → number_answer a ≡ number_answer b → a ≡ b
unfolding number_answer
number_one_to_one (Ok z) (Ok y) e = cc
number_one_to_one (Ok z) (Err r) e = cc
number_one_to_one (Err r) (Ok y) e = cc
number_one_to_one (Err r) (Err s) e = ap Err (refusal_one_to_one r s e)

pub written_one_to_one : (a b : Result ℕ Refusal) → written_answer a ≡ written_answer b → a ≡ b
unfolding written_answer
written_one_to_one (Ok z) (Ok y) e = cc
written_one_to_one (Ok z) (Err r) e = cc
written_one_to_one (Err r) (Ok y) e = cc
written_one_to_one (Err r) (Err s) e = ap Err (refusal_one_to_one r s e)

pub parts_one_to_one : (a b : Result Corner Refusal) → parts_answer a ≡ parts_answer b → a ≡ b
unfolding parts_answer
parts_one_to_one (Ok c) (Ok d) e = ap Ok (ap (λ (a : Answer Paper.Corner). (let v = value_of (record { whole = c.whole; fraction = c.fraction }) a in record { whole = v.whole; fraction = v.fraction })) e)
parts_one_to_one (Ok c) (Err r) e = cc
parts_one_to_one (Err r) (Ok c) e = cc
parts_one_to_one (Err r) (Err s) e = ap Err (refusal_one_to_one r s e)

pub judged_one_to_one : (a b : Result Counts Refusal) → judged_answer a ≡ judged_answer b → a ≡ b
unfolding judged_answer
judged_one_to_one (Ok c) (Ok d) e = ap Ok (ap (λ (a : Answer Judging.Counts). (let v = value_of (record { records = c.records; items = c.items }) a in record { records = v.records; items = v.items })) e)
judged_one_to_one (Ok c) (Err r) e = cc
judged_one_to_one (Err r) (Ok c) e = cc
judged_one_to_one (Err r) (Err s) e = ap Err (refusal_one_to_one r s e)

pub edited_one_to_one : (a b : Result ℕ Refusal) → edited_answer a ≡ edited_answer b → a ≡ b
unfolding edited_answer
edited_one_to_one (Ok z) (Ok y) e = cc
edited_one_to_one (Ok z) (Err r) e = cc
edited_one_to_one (Err r) (Ok y) e = cc
edited_one_to_one (Err r) (Err s) e = ap Err (refusal_one_to_one r s e)

pub block_one_to_one : (a b : Option BlockItem) → block_answer a ≡ block_answer b → a ≡ b
unfolding block_answer
block_one_to_one (Some i) (Some j) e = ap Some (ap (λ (a : Answer Edits.BlockItem). (let v = value_of (record { count_index = i.kind; level = i.level }) a in record { kind = v.count_index; level = v.level })) e)
block_one_to_one (Some i) None e = cc
block_one_to_one None (Some i) e = cc
block_one_to_one None None e = refl

abbrev header_in : HeaderAbove → Answer Way → HeaderAbove
header_in other (given no_header) = other
header_in other (given (to_header h n)) = record { header = h; passed = n }
header_in other (refused n r) = other

pub way_up_one_to_one : (a b : Result (Option HeaderAbove) Refusal) → way_up_answer a ≡ way_up_answer b → a ≡ b
unfolding way_up_answer
way_up_one_to_one (Ok (Some h)) (Ok (Some k)) e = ap (λ (x : HeaderAbove). Ok (Some x)) (ap (header_in h) e)
way_up_one_to_one (Ok (Some h)) (Ok None) e = cc
way_up_one_to_one (Ok (Some h)) (Err r) e = cc
way_up_one_to_one (Ok None) (Ok (Some h)) e = cc
way_up_one_to_one (Ok None) (Ok None) e = refl
way_up_one_to_one (Ok None) (Err r) e = cc
way_up_one_to_one (Err r) (Ok (Some h)) e = cc
way_up_one_to_one (Err r) (Ok None) e = cc
way_up_one_to_one (Err r) (Err s) e = ap Err (refusal_one_to_one r s e)
