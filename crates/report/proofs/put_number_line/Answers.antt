-- `report::put_number_line` meets its contract. Assumes nothing.
use Rattle.report.proofs.Lines.{no_room_numbers, put-numbers}
use Rattle.report.proofs.put_number_line.Goals as goal

pub returns-then-out-length : goal.returns-then-out-length
returns-then-out-length c = search no_room_numbers

pub returns : goal.returns
returns c = search put-numbers
