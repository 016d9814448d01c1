-- `columns::spaces_at` meets its contract. Assumes nothing.
use Rattle.columns.proofs.Spaces.{not-inside, part-spaces}
use Rattle.columns.proofs.spaces_at.Goals as goal

pub returns-then-is_inside : goal.returns-then-is_inside
returns-then-is_inside c = search part-spaces

pub returns-else-is_inside : goal.returns-else-is_inside
returns-else-is_inside c = search not-inside
