-- `spaces_from` looks at column after column. The loop's invariant is `Clear`, its measure the columns left. Assumes nothing.
use Rattle.directory_columns.proofs.BlankColumns.{short_record, behind-all, none_looked, column-inside, column-used, next-column, five-last}
use Rattle.directory_columns.proofs.spaces_from.Goals as goal

pub returns-then-record-ne-RECORD : goal.returns-then-record-ne-RECORD
returns-then-record-ne-RECORD c = search short_record

pub returns-then-k-gt-COLUMNS : goal.returns-then-k-gt-COLUMNS
returns-then-k-gt-COLUMNS c = search behind-all

pub loop-i-init : goal.loop-i-init
loop-i-init c = search none_looked

pub eight_at-requires : goal.eight_at-requires
eight_at-requires c = search column-inside

pub returns-then-eight_at-ne-EIGHT_SPACES : goal.returns-then-eight_at-ne-EIGHT_SPACES
returns-then-eight_at-ne-EIGHT_SPACES c = search column-used

pub loop-i-preserved : goal.loop-i-preserved
loop-i-preserved c = search next-column

pub returns : goal.returns
returns c = search five-last
