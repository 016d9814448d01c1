-- `read_block` answers as its definition: none where its first record is refused. Assumes nothing.
use Rattle.edit_block.proofs.Items.{refused-first}
use Rattle.edit_block.proofs.read_block.Goals as goal

pub returns-in_default : goal.returns-in_default
returns-in_default c = refused-first _ c.if-block-ne0.false _ c.is_empty.ensures c.if-is_empty.false _ c.record_at.ensures c.in_default.field-0 c.in_default.ensures
