-- `normal::rewrite_part` meets its contract: where nothing is written, nothing is judged. Assumes nothing.
use Rattle.std.proofs.Common.{refl}
use mathlib.Core.Logic.{inl, inr}
use Rattle.format.specs.Layout.{sheet_c, index_b}
use Rattle.normal.proofs.Layouts.{form_stays}
use Rattle.normal.proofs.rewrite_part.Goals as goal

pub returns-in-SheetC : goal.returns-in-SheetC
unfolding sheet_c index_b
returns-in-SheetC c = elim c.in-SheetC.is [
  | inl c_record ↦ rw c_record.1 (form_stays sheet_c _ refl)
  | inr other ↦ elim other [ inl b_record ↦ rw b_record.2 (form_stays index_b _ refl) | inr over ↦ rw over (form_stays _ _ refl) ]
]
