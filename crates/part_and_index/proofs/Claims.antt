-- Claims: what the code answers of a sheet part, of an index and of one record more, and its definitions' answers, are one to one. Assumes nothing.
use mathlib.Core.Path.{◌≡◌, refl, ap, ap₂, sym}
use Rattle.std.specs.Prelude.{ℕ, Result, Ok, Err}
use Rattle.format.specs.declared.Reason.{Reason}
use Rattle.format.specs.declared.Refusal.{Refusal}
use Rattle.format.specs.Reasons.{refusal_number, fault_number}
use Rattle.format.proofs.Reasons.{not_zero}
use Rattle.format.proofs.ClaimsAnswers.{reason_one_to_one}
use Rattle.part_and_index.specs.declared.SheetPart as Declared
use Rattle.part_and_index.specs.declared.progress.Stepped.{Stepped}
use Rattle.part_and_index.specs.Result.{SheetPart, IndexFault, part_said, index_said}
use Rattle.part_and_index.specs.Progress.{Progress, stepped_said}

-- number and record of a refusal
pub same_refusal : (r s : Refusal) → refusal_number r.reason ≡ refusal_number s.reason → r.at ≡ s.at → r ≡ s
same_refusal r s n a = ap₂ (λ (x : Reason) (y : ℕ). (record { reason = x; at = y })) (reason_one_to_one r.reason s.reason n) a

pub part_one_to_one : (a b : Result Declared.SheetPart Refusal) → part_said a ≡ part_said b → a ≡ b
part_one_to_one (Ok p) (Ok q) h =
    let length : p.length ≡ q.length = ap (λ (x : SheetPart). x.length) h in
    let elements : p.stated_elements ≡ q.stated_elements = ap (λ (x : SheetPart). x.stated_elements) h in
    let records : p.stated_records ≡ q.stated_records = ap (λ (x : SheetPart). x.stated_records) h in
    let unit : p.unit ≡ q.unit = ap (λ (x : SheetPart). x.unit) h in
    let corners : p.corners ≡ q.corners = ap (λ (x : SheetPart). x.corners) h in
    λ i. Ok (record { length = length i; stated_elements = elements i; stated_records = records i; unit = unit i; corners = corners i })
part_one_to_one (Ok p) (Err r) h = absurd (not_zero r.reason (sym (ap (λ (x : SheetPart). x.fault) h)))
part_one_to_one (Err r) (Ok q) h = absurd (not_zero r.reason (ap (λ (x : SheetPart). x.fault) h))
part_one_to_one (Err r) (Err s) h = ap Err (same_refusal r s (ap (λ (x : SheetPart). x.fault) h) (ap (λ (x : SheetPart). x.at) h))

-- an index that has no fault has no values, and its refusal is its own
pub index_refused : {A : Type 0} (a : A) (r : Refusal) → index_said (Ok a) ≡ index_said {A = A} (Err r) → ⊥
index_refused a r h = not_zero r.reason (sym (ap (λ (x : IndexFault). x.number) h))

pub index_one_to_one : (A : Type 0) (r s : Refusal) → index_said {A = A} (Err r) ≡ index_said {A = A} (Err s) → r ≡ s
index_one_to_one A r s h = same_refusal r s (ap (λ (x : IndexFault). x.number) h) (ap (λ (x : IndexFault). x.at) h)

-- what one record more came to: its verdict, and every value
same_verdict : {A : Type 0} (one : (a b : A) → a ≡ b) (v w : Result A Reason) → fault_number v ≡ fault_number w → v ≡ w
same_verdict one (Ok u) (Ok v) h = ap Ok (one u v)
same_verdict one (Ok u) (Err s) h = absurd (not_zero s (sym h))
same_verdict one (Err r) (Ok v) h = absurd (not_zero r h)
same_verdict one (Err r) (Err s) h = ap Err (reason_one_to_one r s h)

pub stepped_one_to_one : (a b : Stepped) → stepped_said a ≡ stepped_said b → (a.verdict ≡ b.verdict) × (a.progress ≡ b.progress)
stepped_one_to_one a b h =
    let due : a.progress.due ≡ b.progress.due = ap (λ (x : Progress). x.due) h in
    let level : a.progress.level ≡ b.progress.level = ap (λ (x : Progress). x.level) h in
    let unit : a.progress.unit ≡ b.progress.unit = ap (λ (x : Progress). x.unit) h in
    let wholes : a.progress.wholes ≡ b.progress.wholes = ap (λ (x : Progress). x.wholes) h in
    let elements : a.progress.stated_elements ≡ b.progress.stated_elements = ap (λ (x : Progress). x.stated_elements) h in
    let records : a.progress.stated_records ≡ b.progress.stated_records = ap (λ (x : Progress). x.stated_records) h in
    let corners : a.progress.corners ≡ b.progress.corners = ap (λ (x : Progress). x.corners) h in
    (same_verdict (λ u v. refl) a.verdict b.verdict (ap (λ (x : Progress). x.fault) h), λ i. record { due = due i; level = level i; unit = unit i; wholes = wholes i; stated_elements = elements i; stated_records = records i; corners = corners i })
