-- `is_listed` compares the columns that the edition has for the layer. Assumes nothing.
use Rattle.directory_columns.proofs.Numbers.{some_each, place_small, no_record_lists, listed_is}
use Rattle.directory_columns.proofs.is_listed.Goals as goal

pub nonzero_div-layer : goal.nonzero_div-layer
nonzero_div-layer c = search some_each

pub returns-then-record-ne-RECORD : goal.returns-then-record-ne-RECORD
returns-then-record-ne-RECORD c = search no_record_lists

pub nonzero_rem-start : goal.nonzero_rem-start
nonzero_rem-start c = search some_each

pub overflow_mul-start : goal.overflow_mul-start
overflow_mul-start c = search place_small

pub returns : goal.returns
returns c = search listed_is
