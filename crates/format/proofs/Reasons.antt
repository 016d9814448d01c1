-- No reason has the number 0, which stands for no fault. Assumes nothing.
use mathlib.Core.Path.{◌≡◌}
use Rattle.format.specs.declared.Reason.{Reason}
use Rattle.format.specs.Reasons.{refusal_number}

pub not_zero : (reason : Reason) → refusal_number reason ≡ 0 → ⊥
not_zero Reason.Length e = cc
not_zero Reason.FileType e = cc
not_zero Reason.MissingRecord e = cc
not_zero Reason.RecordType e = cc
not_zero Reason.Malformed e = cc
not_zero Reason.OutsideRange e = cc
not_zero Reason.Level e = cc
not_zero Reason.DataRule e = cc
not_zero Reason.Fraction e = cc
not_zero Reason.Count e = cc
not_zero Reason.Place e = cc
not_zero Reason.Block e = cc
not_zero Reason.BlockLevel e = cc
not_zero Reason.Limit e = cc
not_zero Reason.Room e = cc
not_zero Reason.Number e = cc
not_zero Reason.RecordNumber e = cc
not_zero Reason.LineEnd e = cc
not_zero Reason.Directory e = cc
not_zero Reason.Edition e = cc
