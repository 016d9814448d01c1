-- `report::put_text_line` meets its contract. Assumes nothing.
use Rattle.report.proofs.Lines.{no_room, put_whole}
use Rattle.report.proofs.put_text_line.Goals as goal

pub returns-then-out-text : goal.returns-then-out-text
returns-then-out-text c = search no_room

pub returns : goal.returns
returns c = search put_whole
