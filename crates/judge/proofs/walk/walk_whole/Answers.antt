-- `walk_whole` walks the layers from the first record of the body. Assumes nothing.
use Rattle.judge.proofs.LayersLaws.{begun_layers}
use Rattle.judge.proofs.walk.walk_whole.Goals as goal

pub returns : goal.returns
returns c = begun_layers _ _ _ _ _ _ _ c.begin-first.ensures c.walk_layers.ensures
