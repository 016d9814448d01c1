-- `columns::pass::leading_spaces` meets its contract. Assumes nothing.
use borrow.Author.Rules.{rules}
use Rattle.columns.proofs.Reading.{one_space, no_space_lem, all-spaces}
use Rattle.columns.proofs.pass.leading_spaces.Goals as goal

pub returns-then-byte-ne32 : goal.returns-then-byte-ne32
returns-then-byte-ne32 c = (search rules, search (rules, no_space_lem))

pub loop-i-preserved : goal.loop-i-preserved
loop-i-preserved c = search (rules, one_space)

pub returns : goal.returns
returns c = (search rules, search (rules, all-spaces))
