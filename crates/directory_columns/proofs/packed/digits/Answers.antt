-- `digits` adds what each tenth has more than ten times the next. Assumes nothing.
use mathlib.Core.Path.{sym, subst}
use mir.Syntax.{w64}
use mir.Val.{Fits}
use Rattle.directory_columns.proofs.PackedColumns.{digits_are, digits-fit}
use Rattle.directory_columns.proofs.packed.digits.Goals as goal

pub overflow_add-result : goal.overflow_add-result
overflow_add-result c = rw (c.from.ensures, c.from-2.ensures, c.from-3.ensures, c.from-4.ensures, c.from-5.ensures, c.from-6.ensures, c.from-7.ensures) (subst (Fits w64) (sym (digits_are _ c.requires)) (digits-fit _ c.requires))

pub returns : goal.returns
returns c = rw (c.from.ensures, c.from-2.ensures, c.from-3.ensures, c.from-4.ensures, c.from-5.ensures, c.from-6.ensures, c.from-7.ensures) (digits_are _ c.requires)
