-- A call that is refused leaves all as it was: by judging, or by 11 to 15 in an accepted sheet. Assumes nothing.
use mathlib.Core.Path.{◌≡◌, ap, ◌∙◌}
use mathlib.Core.List.{List, map}
use Prim.Native.Nat.{ℕ, suc}
use lib.ListN.{drop}
use Rattle.format.specs.Basics.{refused}
use Rattle.format.specs.Record.{view}
use Rattle.format.specs.Judge.{judge_sheet, sheet_in, AcceptedSheet}
use Rattle.format.specs.Edit.{RecordList, insert_fault, inserted, remove11, removed, block_of}
use Rattle.format.specs.Calls.{Edit, insert, remove, plain, conclude}
use Rattle.format.specs.Run.{Buffer, buffer_of, list_of, call}
use Rattle.format.proofs.AcceptedSheet.{same, call_is}
use Rattle.edit.specs.Plans.{refused_step}

-- a refusal of judging is the answer
pub not-accepted : (e : Edit) (l : List ℕ) (used number place : ℕ) → judge_sheet used l ≡ refused number place → call e (record { bytes = l; used = used }) ≡ refused_step l used number place
unfolding call
not-accepted e l used number place j = rw j

module _ {used : ℕ} {l : List ℕ} (a : AcceptedSheet used l) where
  concluded : (n : ℕ) (new : RecordList) → record { reply = (conclude (suc n) (list_of (record { bytes = l; used = used })) new).reply; buffer = buffer_of (conclude (suc n) (list_of (record { bytes = l; used = used })) new).list } ≡ refused_step l used (suc n) 0
  concluded n new = ap (λ (b : Buffer). record { reply = refused (suc n) 0; buffer = b }) (same a)

  pub insert-refused : (place n : ℕ) (block : List ℕ) → insert_fault (sheet_in used l) place (drop used l) (map view (block_of block)) 200000 ≡ suc n → call (insert place block) (record { bytes = l; used = used }) ≡ refused_step l used (suc n) 0
  unfolding plain
  insert-refused place n block e = call_is a (insert place block) ∙ rw e (concluded n (inserted (list_of (record { bytes = l; used = used })) place (block_of block)))

  pub remove-refused : (place n : ℕ) → remove11 (sheet_in used l) place ≡ suc n → call (remove place) (record { bytes = l; used = used }) ≡ refused_step l used (suc n) 0
  unfolding plain
  remove-refused place n e = call_is a (remove place) ∙ rw e (concluded n (removed (list_of (record { bytes = l; used = used })) place))
