use Rattle.std.proofs.Common.{sym, subst}
use Rattle.bulk_base.proofs.MapView.{keys_ascend}
use Rattle.outside.specs.Contents.{IsAscending}
use Rattle.outside.proofs.kept_files.KeptFiles.names.Goals as goal

pub returns-clause-ascending : goal.returns-clause-ascending
returns-clause-ascending c = subst IsAscending (sym c.in_ok-names.ensures) (keys_ascend c.self.inside.files)
