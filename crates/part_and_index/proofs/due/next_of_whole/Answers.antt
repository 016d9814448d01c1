-- `due::next_of_whole` meets its contract, by what was due. Assumes nothing.
use Rattle.part_and_index.proofs.DueLaws.{behind-a, behind-b, behind-c, behind-d, behind-e, behind-f, behind-index-a, behind-index-b, behind-index-c, behind-over}
use Rattle.part_and_index.proofs.due.next_of_whole.Goals as goal

pub returns-in-SheetA : goal.returns-in-SheetA
returns-in-SheetA c = search behind-a

pub returns-in-SheetB : goal.returns-in-SheetB
returns-in-SheetB c = search behind-b

pub returns-in-SheetC : goal.returns-in-SheetC
returns-in-SheetC c = search behind-c

pub returns-in-SheetD : goal.returns-in-SheetD
returns-in-SheetD c = search behind-d

pub returns-in-SheetE : goal.returns-in-SheetE
returns-in-SheetE c = search behind-e

pub returns-in-SheetF : goal.returns-in-SheetF
returns-in-SheetF c = search behind-f

pub returns-in-IndexA : goal.returns-in-IndexA
returns-in-IndexA c = search behind-index-a

pub returns-in-IndexB : goal.returns-in-IndexB
returns-in-IndexB c = search behind-index-b

pub returns-in-IndexC : goal.returns-in-IndexC
returns-in-IndexC c = search behind-index-c

pub returns-in-Over : goal.returns-in-Over
returns-in-Over c = search behind-over
