-- `stage_one` answers the used part of the buffer where its length is right. Assumes nothing.
use mathlib.Core.Path.{sym, ◌∙◌}
use Rattle.judge.proofs.FileLaws.{used-length}
use Rattle.judge.proofs.stage_one.Goals as goal

pub slice_bounds-result-end : goal.slice_bounds-result-end
slice_bounds-result-end c = used-length _ _ _ (sym c.length_ok.ensures ∙ c.if-not-length_ok.false)
