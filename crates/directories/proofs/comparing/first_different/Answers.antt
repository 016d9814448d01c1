-- `first_different` compares record after record. The loop's invariant is `Comparing`. Assumes nothing.
use borrow.Author.Rules.{rules}
use Rattle.directories.proofs.Different.{row_unlisted, row-differs, row_agrees, rows_behind}
use Rattle.directories.proofs.comparing.first_different.Goals as goal
use Rattle.directories.proofs.comparing.first_different.Goals.{then-right-i-via-then-right-i, then-right-i-via-else-right-i+then-not-is_row}

pub returns-then-right-i : goal.returns-then-right-i
returns-then-right-i c =
    elim c.then-right-i.branch [
      | then-right-i-via-then-right-i w ↦ search row_unlisted
      | then-right-i-via-else-right-i+then-not-is_row w ↦ search row-differs
    ]

pub loop-i-preserved : goal.loop-i-preserved
loop-i-preserved c = (search rules, search row_agrees)

pub returns : goal.returns
returns c = search rows_behind
