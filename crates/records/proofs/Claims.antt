-- Claims: what the code answers of a record, and its definitions' answers, are one to one. Assumes nothing.
use mathlib.Core.Path.{◌≡◌, refl, ap, sym}
use mathlib.Core.Bool.{Bool, true, false}
use Prim.Native.Nat.{◌≤◌}
use native.Mathlib.Omega.{arith}
use Rattle.std.specs.Prelude.{Some, None, Result, Ok, Err}
use Rattle.format.specs.Basics.{unless}
use Rattle.format.specs.declared.Reason.{Reason}
use Rattle.format.proofs.Reasons.{not_zero}
use Rattle.format.proofs.ClaimsAnswers.{reason_one_to_one}
use Rattle.records.specs.declared.items.Entry as Declared
use Rattle.records.specs.Entry.{Entry, entry_said}
use Rattle.records.specs.declared.counted.Outline.{Outline as Outlined}
use Rattle.records.specs.Outline.{Outline, outline_said}

-- 8 stands for a data rule that is broken, and 0 for one that is kept
rule_one_to_one : (s t : Bool) → unless s 8 ≡ unless t 8 → s ≡ t
rule_one_to_one true true h = refl
rule_one_to_one true false h = cc
rule_one_to_one false true h = cc
rule_one_to_one false false h = refl

pub entry_one_to_one : (a b : Result Declared.Entry Reason) → entry_said a ≡ entry_said b → a ≡ b
entry_one_to_one (Ok d) (Ok e) h =
    let rule : d.rule_kept ≡ e.rule_kept = rule_one_to_one d.rule_kept e.rule_kept (ap (λ (x : Entry). x.rule_fault) h) in
    let kind : d.kind ≡ e.kind = ap (λ (x : Entry). x.kind) h in
    let level : d.level ≡ e.level = ap (λ (x : Entry). x.level) h in
    let data_records : d.data_records ≡ e.data_records = ap (λ (x : Entry). x.data_records) h in
    let held : d.held ≡ e.held = ap (λ (x : Entry). x.held) h in
    λ i. Ok (record { kind = kind i; level = level i; data_records = data_records i; held = held i; rule_kept = rule i })
entry_one_to_one (Ok d) (Err r) h = absurd (not_zero r (sym (ap (λ (x : Entry). x.fault) h)))
entry_one_to_one (Err r) (Ok d) h = absurd (not_zero r (ap (λ (x : Entry). x.fault) h))
entry_one_to_one (Err r) (Err s) h = ap Err (reason_one_to_one r s (ap (λ (x : Entry). x.fault) h))

-- a header or an item is never said as what is neither, whose kind is 10; and two that are said alike are alike in every value
pub outline_some : (o : Outlined) → o.kind ≤ 9 → outline_said (Some o) ≡ outline_said None → ⊥
outline_some o few h =
    let kind : o.kind ≡ 10 = ap (λ (x : Outline). x.kind) h in
    omega arith

pub outline_one_to_one : (o p : Outlined) → outline_said (Some o) ≡ outline_said (Some p) → (o.kind ≡ p.kind) × (o.level ≡ p.level) × (o.data_records ≡ p.data_records)
outline_one_to_one o p h = (ap (λ (x : Outline). x.kind) h, ap (λ (x : Outline). x.level) h, ap (λ (x : Outline). x.data_records) h)
