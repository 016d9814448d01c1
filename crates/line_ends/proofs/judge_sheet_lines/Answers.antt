-- `judge_sheet_lines` answers 1 and 18, then judges at the stride of lines. Assumes nothing.
use Rattle.std.proofs.Common.{rules}
use Rattle.line_ends.proofs.Answers.{sheet-refused, sheet-judged}
use Rattle.line_ends.proofs.judge_sheet_lines.Goals as goal

pub returns-in_err-check_lines : goal.returns-in_err-check_lines
returns-in_err-check_lines c = search (rules, sheet-refused _ _ _ c.in_err-check_lines.ensures)

pub returns : goal.returns
returns c = search (rules, sheet-judged, c.in_ok-check_lines.ensures)
