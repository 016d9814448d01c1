-- `records::reading::natural` meets its contract. The loop's invariant: the number so far and the bytes still to come make what all bytes make; and
-- the number stays small. Assumes nothing.
use borrow.Author.Rules.{rules}
use native.Mathlib.Omega.{arith}
use Rattle.records.proofs.Naturals.{next_small, small-number, column-taken, no_byte, next_byte, all-bytes}
use Rattle.records.proofs.reading.natural.Goals as goal

pub loop-byte-init : goal.loop-byte-init
loop-byte-init c = (omega arith, no_byte _)

pub number_step-number-requires : goal.number_step-number-requires
number_step-number-requires c = small-number _ _ _ c.loop-byte.invariant.0 (omega (arith, column-taken c.args.record.now c.args.start c.args.width c.told-record c.requires.0)) c.requires.1

pub loop-byte-preserved : goal.loop-byte-preserved
loop-byte-preserved c = search (rules, next_small, next_byte)

pub returns : goal.returns
returns c = search all-bytes
