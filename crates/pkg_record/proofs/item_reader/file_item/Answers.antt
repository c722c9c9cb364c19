use Rattle.std.proofs.Common.{◌∙◌, sym, subst}
use Rattle.pkg_record.specs.Reading.{is_next_path}
use Rattle.pkg_record.proofs.NextPath.{MayFollow, may_follow, passed}
use Rattle.pkg_record.proofs.Lists.{files_grow}
use Rattle.pkg_record.proofs.item_reader.file_item.Goals as goal

pub returns-clause-form : goal.returns-clause-form
returns-clause-form c =
    let p = passed (is_next_path c.args.before.now) c.in-Some.path.now c.in-Some-2.path (sym c.in-Some-2.is ∙ c.in_ok-path.ensures) in
    let m : MayFollow c.args.before.now c.in-Some-2.path = subst (MayFollow c.args.before.now) (sym p.0) (may_follow c.args.before.now c.in-Some.path.now p.1) in
    files_grow 1018 c.args.before.now (record { path = c.in-Some-2.path; bytes = c.in_ok-bytes.bytes }) m.follows m.free m.short c.requires
