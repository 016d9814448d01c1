-- `put_at` puts the bytes where they have room. The loop keeps that they stand there up to its index. Assumes nothing.
use borrow.Author.Rules.{rules}
use Rattle.format.proofs.Lists.{none_stored, next_stored}
use Rattle.files.proofs.Buffers.{all-put, starts_behind, ends_behind}
use Rattle.files.proofs.put_at.Goals as goal

pub returns-then-buffer-at : goal.returns-then-buffer-at
returns-then-buffer-at c = search starts_behind

pub returns-then-buffer-at-2 : goal.returns-then-buffer-at-2
returns-then-buffer-at-2 c = search ends_behind

pub loop-i-init : goal.loop-i-init
loop-i-init c = search (rules, none_stored)

pub loop-i-preserved : goal.loop-i-preserved
loop-i-preserved c = search (rules, next_stored)

pub returns : goal.returns
returns c = search all-put
