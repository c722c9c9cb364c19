use Rattle.pkg_store.proofs.Removing.{each_is_removed}
use Rattle.pkg_store.proofs.law.each_is_removed.Goals as goal

pub returns : goal.returns
returns c = each_is_removed
