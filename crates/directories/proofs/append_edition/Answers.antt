-- `append_edition`: judged, then the room, then written. Assumes nothing.
use Rattle.std.proofs.lemmas.Result.{err_from_is_err_and}
use Rattle.directories.proofs.Appended.{append-refused, directory_fits, new_fits, append-short, used-few, layers-few, layers_counted, first-kept, append-room, appended}
use Rattle.directories.proofs.append_edition.Goals as goal

pub returns-in_err-listed : goal.returns-in_err-listed
returns-in_err-listed c = let p = err_from_is_err_and c.from_residual.result c.from_residual.ensures.1 in rw (p.1, p.2) (append-refused c.args.edition c.args.used c.args.buffer.now _ _ c.in_err-listed.ensures)

pub overflow_mul-new : goal.overflow_mul-new
overflow_mul-new c = directory_fits c.args.edition c.args.used c.args.buffer.now _ c.in_ok-listed.listed c.in_ok-listed.ensures c.rows-rows.result c.rows-rows.ensures

pub overflow_add-new-2 : goal.overflow_add-new-2
overflow_add-new-2 c = new_fits c.args.edition c.args.used c.args.buffer.now _ c.in_ok-listed.listed c.in_ok-listed.ensures c.rows-rows.result c.rows-rows.ensures

pub returns-then-buffer-new : goal.returns-then-buffer-new
returns-then-buffer-new c = append-short c.args.edition c.args.used c.args.buffer.now _ c.in_ok-listed.listed c.in_ok-listed.ensures c.rows-rows.result c.rows-rows.ensures c.if-buffer-new.true c.at.result c.at.ensures

pub write_directory-requires : goal.write_directory-requires
write_directory-requires c = (used-few c.args.edition c.args.used c.args.buffer.now _ c.in_ok-listed.listed c.in_ok-listed.ensures, layers-few c.args.edition c.args.used c.args.buffer.now _ c.in_ok-listed.listed c.in_ok-listed.ensures, layers_counted c.args.edition c.args.used c.args.buffer.now _ c.in_ok-listed.listed c.in_ok-listed.ensures, first-kept c.args.edition c.args.used c.args.buffer.now _ c.in_ok-listed.listed c.in_ok-listed.ensures, search append-room)

pub returns : goal.returns
returns c = appended c.args.edition c.args.used c.args.buffer.now _ c.in_ok-listed.listed c.in_ok-listed.ensures c.rows-rows.result c.rows-rows.ensures c.if-buffer-new.false _ c.write_directory.ensures
