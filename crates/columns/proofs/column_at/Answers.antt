-- `columns::column_at` meets its contract. Assumes nothing.
use borrow.Author.Rules.{rules}
use Rattle.columns.proofs.InRecord.{too_wide, outside, part_read}
use Rattle.columns.proofs.column_at.Goals as goal
use Rattle.columns.proofs.column_at.Goals.{then-width-gt-WIDEST-via-then-width-gt-WIDEST, then-width-gt-WIDEST-via-else-width-gt-WIDEST+then-not-is_inside}

pub returns-then-width-gt-WIDEST : goal.returns-then-width-gt-WIDEST
returns-then-width-gt-WIDEST c =
    elim c.then-width-gt-WIDEST.branch [
      | then-width-gt-WIDEST-via-then-width-gt-WIDEST w ↦ too_wide _ _ _ (search rules)
      | then-width-gt-WIDEST-via-else-width-gt-WIDEST+then-not-is_inside w ↦ search (rules, outside)
    ]

pub returns : goal.returns
returns c = search (rules, part_read)
