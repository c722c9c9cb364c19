use Rattle.std.proofs.Common.{sym, ◌∙◌}
use Rattle.pkg_store.proofs.Ascending.{not_own}
use Rattle.pkg_store.proofs.found.own_record_in.Goals as goal

pub returns-else-branch : goal.returns-else-branch
returns-else-branch c =
    not_own c.args.file.now (Rattle.pkg_record.specs.Reading.record_of c.args.bytes.now) c.in-Some.told (sym c.in_ok-told.ensures ∙ c.in-Some.is) (sym c.in_ok-is_own-in-Some.ensures ∙ c.if-branch.false)
