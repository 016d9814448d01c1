-- `report::judge_input` meets its contract. Assumes nothing.
use Rattle.std.proofs.Common.{◌∙◌}
use Rattle.format.specs.Text.{bytes}
use Rattle.report.proofs.Starts.{begins_index}
use Rattle.report.proofs.judge_input.Goals as goal

pub returns-then-starts_with : goal.returns-then-starts_with
unfolding bytes
returns-then-starts_with c = rw (begins_index c.args.input.now c.starts_with.result c.starts_with.ensures.value ∙ c.if-starts_with.true) c.judge_index.ensures

pub returns-else-starts_with : goal.returns-else-starts_with
unfolding bytes
returns-else-starts_with c = rw (begins_index c.args.input.now c.starts_with.result c.starts_with.ensures.value ∙ c.if-starts_with.false) c.judge_sheet.ensures
