-- `normal::normal_sheet` meets its contract. Assumes nothing.
use Rattle.std.proofs.lemmas.Result.{err_from_is_err_and}
use Rattle.normal.proofs.Files.{sheet-refused, sheet-room, sheet-written}
use Rattle.normal.proofs.normal_sheet.Goals as goal

pub returns-in_err-open_sheet : goal.returns-in_err-open_sheet
returns-in_err-open_sheet c = let p = err_from_is_err_and c.from_residual.result c.from_residual.ensures.1 in rw (p.1, p.2) (sheet-refused _ _ _ _ c.in_err-open_sheet.ensures)

pub write_file-requires : goal.write_file-requires
write_file-requires c = sheet-room _ _ _ c.in_ok-open_sheet.ensures

pub returns : goal.returns
returns c = sheet-written _ _ _ c.in_ok-open_sheet.ensures _ _ c.write_file.ensures
