-- `take_out` moves bytes down and fills the freed end. Assumes nothing.
use Rattle.edit.proofs.Bytes.{taken-out}
use Rattle.edit.proofs.moves.take_out.Goals as goal

pub returns : goal.returns
returns c = taken-out c.args.buffer.now _ _ _ _ _ _ c.requires.0 c.requires.1 c.shift_down.ensures (c.fill.ensures.after (λ y e. e))
