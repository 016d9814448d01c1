-- `words::refusal_text` meets its contract. Assumes nothing.
use Rattle.words.proofs.Texts.{not-said}
use Rattle.words.proofs.refusal_text.Goals as goal

pub returns-in_default : goal.returns-in_default
returns-in_default c = not-said c.args.number c.args.out.now _ c.at.ensures c.in_default.ensures.1
