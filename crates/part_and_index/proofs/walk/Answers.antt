-- `walk` goes over the due records. The loop keeps that judging what is left comes to the same as judging from the start. Assumes nothing.
use Rattle.std.proofs.Common.{rules}
use Rattle.part_and_index.proofs.WalkLaws.{walk-over}
use Rattle.part_and_index.proofs.walk.Goals as goal

pub returns-then-eq : goal.returns-then-eq
returns-then-eq c = search (rules, walk-over)
