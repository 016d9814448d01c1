-- `entry`: the layer is one of those listed, then its numbers. Assumes nothing.
use borrow.Author.Rules.{rules}
use Rattle.directories.proofs.Judging.{entry_outside, reaches_header, reaches_total, reaches_last, entry-first, entry-second}
use Rattle.directories.proofs.Found.entry.Goals as goal

pub returns-then-not-has_layer : goal.returns-then-not-has_layer
returns-then-not-has_layer c = search (rules, entry_outside)

pub number-header-requires : goal.number-header-requires
number-header-requires c = search reaches_header

pub number-requires : goal.number-requires
number-requires c = search reaches_total

pub number-requires-in-Two : goal.number-requires-in-Two
number-requires-in-Two c = search reaches_last

pub returns-in-One : goal.returns-in-One
returns-in-One c = search entry-first

pub returns-in-Two : goal.returns-in-Two
returns-in-Two c = search entry-second
