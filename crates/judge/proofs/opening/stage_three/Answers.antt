-- `stage_three` answers the first wrong count, or the sheet that is accepted. Assumes nothing.
use mathlib.Core.Path.{refl}
use Rattle.judge.proofs.AnswerLaws.{answers-count, stands, answers-sheet}
use Rattle.judge.proofs.opening.stage_three.Goals as goal

pub returns-in-Some : goal.returns-in-Some
returns-in-Some c =
    let p = c.requires in
    answers-count _ _ p.0 _ _ p.2 refl _ _ c.wrong_sheet-sheet.ensures c.or.ensures _ _ c.in-Some.is c.at.ensures

pub at_place-requires : goal.at_place-requires
at_place-requires c =
    let p = c.requires in
    (p.0, p.1, stands _ _ p.0 _ _ p.2 refl _ _ c.wrong_sheet-sheet.ensures c.or.ensures p.1 c.in_default.is)

pub returns : goal.returns
returns c =
    let p = c.requires in
    answers-sheet _ _ p.0 _ _ p.2 refl _ _ c.wrong_sheet-sheet.ensures c.or.ensures p.1 c.in_default.is _ c.at_place.ensures
