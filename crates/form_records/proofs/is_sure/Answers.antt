-- `form_records::is_sure` meets its contract: no byte is in doubt by the letters of its layout exactly where it can be told at once. Assumes nothing.
use Rattle.form_records.proofs.Sound.{doubtless, no_record}
use Rattle.form_records.proofs.is_sure.Goals as goal

pub returns-in_default : goal.returns-in_default
returns-in_default g c = no_record _ c.args.record.now c.in_default.ensures.1

pub returns : goal.returns
returns g c =
    let w = c.in-Ok.ensures.1 in
    rw (c.doubts.ensures, c.letters_by_value-letters.ensures, w.same) (doubtless _ g.met.L.Lettered.laid c.args.record.now w.long)
