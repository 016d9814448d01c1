-- `step_of_whole` goes by the record that is due. Assumes nothing.
use mathlib.Core.Path.{refl, ap, ◌∙◌}
use Rattle.format.specs.Reasons.{fault_number}
use Rattle.part_and_index.specs.Progress.{put, progress_said}
use Rattle.part_and_index.proofs.ProgressLaws.{step-sheet-a, step-sheet-b, step-sheet-d, step-sheet-e, step-sheet-f, step-index-a, step-index-c, step-unjudged}
use Rattle.part_and_index.proofs.progress.step_of_whole.Goals.{in-SheetD, in-SheetF, in-IndexA, in-IndexC, in-SheetC}
use Rattle.part_and_index.proofs.progress.step_of_whole.Goals as goal

pub returns-in-SheetA : goal.returns-in-SheetA
returns-in-SheetA c = search step-sheet-a

pub returns-in-SheetB : goal.returns-in-SheetB
returns-in-SheetB c = search (step-sheet-b)

pub returns-in-SheetE : goal.returns-in-SheetE
returns-in-SheetE c = search (step-sheet-e)

pub returns : goal.returns
returns c = elim c.match-progress.branch [
  | in-SheetD w ↦ step-sheet-d _ _ _ c.told-record _ c.next_of_whole-due.ensures _ w.in-SheetD.is _ refl (ap fault_number w.verdict-is ∙ w.check_sheet_d-verdict.ensures)
  | in-SheetF w ↦ step-sheet-f _ _ _ c.told-record _ c.next_of_whole-due.ensures _ _ w.in-SheetF.is _ refl (ap fault_number w.verdict-is ∙ w.check-verdict.ensures)
  | in-IndexA w ↦ step-index-a _ _ _ c.told-record _ c.next_of_whole-due.ensures w.in-IndexA.is _ refl (ap fault_number w.verdict-is ∙ w.check_index_a-verdict.ensures)
  | in-IndexC w ↦ step-index-c _ _ _ c.told-record _ c.next_of_whole-due.ensures _ w.in-IndexC.is _ refl (ap fault_number w.verdict-is ∙ w.check-verdict-in-IndexC.ensures)
  | in-SheetC w ↦ step-unjudged _ _ _ c.told-record _ c.next_of_whole-due.ensures w.in-SheetC.is (ap (λ v. put (progress_said c.args.progress) (fault_number v) c.next_of_whole-due.result) w.verdict-is)
]
