-- `layout_faults::all_inside` meets its contract. The loop's invariant: the columns so far are well formed, so that all are where those still to come are;
-- and the numbers so far and those still to come are between their ends. Assumes nothing.
use mathlib.Core.Path.{◌∙◌}
use native.Mathlib.Omega.{arith}
use Rattle.layout_faults.proofs.Loops.{malformed_row, formed_again, between_again, all_read}
use Rattle.layout_faults.proofs.all_inside.Goals as goal

pub returns-in_err-inside : goal.returns-in_err-inside
returns-in_err-inside c = c.from_residual.ensures ∙ malformed_row _ _ c.loop-column.column-index _ (omega arith) c.in_err-inside.ensures c.loop-column.invariant.0

pub loop-column-preserved : goal.loop-column-preserved
loop-column-preserved c = (
  formed_again _ _ c.loop-column.column-index _ (omega arith) _ c.in_ok-inside.ensures c.loop-column.invariant.0,
  between_again _ _ c.loop-column.column-index _ (omega arith) _ c.in_ok-inside.ensures _ c.loop-column.invariant.1,
)

pub returns : goal.returns
returns c = all_read _ _ c.loop-column.column-index _ (omega arith) c.loop-column.invariant.0 c.loop-column.invariant.1
