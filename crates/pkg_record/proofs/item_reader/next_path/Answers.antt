use Rattle.std.proofs.Common.{◌∙◌, ap, sym, arith, Err}
use Rattle.pkg_record.proofs.NextPath.{path_taken, path_refused}
use Rattle.pkg_record.proofs.item_reader.next_path.Goals as goal

pub returns-in-Ok : goal.returns-in-Ok
returns-in-Ok c =
    path_taken c.args.before.now c.args.path.now c.in-Ok.path c.in-Ok.ensures.ok c.in-Ok.ensures.form.0 c.in-Ok.ensures.form.1 (omega (arith, c.if-path-gt1018.false))
    (sym c.follows_path.ensures ∙ c.if-not-follows_path.false) (sym c.has_free_folders.ensures ∙ c.if-not-has_free_folders.false)

pub returns-in-Err-BadPath : goal.returns-in-Err-BadPath
returns-in-Err-BadPath c = path_refused c.args.before.now c.args.path.now (c.from_bytes.ensures.bad_path.0 (c.in-Err-BadPath.is ∙ ap Err c.in-Err-BadPath.field-0-is))
