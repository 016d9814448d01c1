-- `columns::pass::scan` meets its contract. Assumes nothing.
use Rattle.columns.proofs.Reading.{spaces-alone, first-kept, scanned}
use borrow.Author.Rules.{rules}
use mathlib.Core.Path.{◌≡◌}
use native.Mathlib.Omega.{arith}
use Rattle.std.proofs.lemmas.Grind.{common_steps}
use Rattle.columns.specs.declared.pass.Mark.TheVariants.{Minus}
use Rattle.columns.proofs.pass.scan.Goals as goal

pub returns-then-column-begin : goal.returns-then-column-begin
returns-then-column-begin c = search spaces-alone

pub read_on-requires : goal.read_on-requires
read_on-requires c = search (rules, first-kept)

pub returns-then-eq : goal.returns-then-eq
returns-then-eq c = search scanned

pub read_on-requires-2 : goal.read_on-requires-2
read_on-requires-2 c = search (rules, first-kept)

pub behind_minus-requires : goal.behind_minus-requires
behind_minus-requires c =
    let minus : c.step-first.result.mark ≡ Minus = grind (arith, common_steps) in
    (omega arith, c.requires, first-kept c.args.column.now c.leading_spaces-begin.result c.leading_spaces-begin.ensures.1 c.step-first.result c.step-first.ensures, minus)

pub returns-then-eq-2 : goal.returns-then-eq-2
returns-then-eq-2 c = search scanned

pub returns : goal.returns
returns c = search scanned
