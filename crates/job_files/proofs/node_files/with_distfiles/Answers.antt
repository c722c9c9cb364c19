use Rattle.std.proofs.Common.{subst, sym}
use Rattle.bulk_model.specs.Facts.{IsFileList}
use Rattle.job_files.proofs.Merging.{together_form}
use Rattle.job_files.proofs.node_files.with_distfiles.Goals as goal

pub returns-clause-form : goal.returns-clause-form
returns-clause-form c =
    subst (IsFileList 1019) (sym c.in_ok-together.ensures) (together_form c.args.own.files c.args.dists.files c.args.entries.now c.requires.own c.requires.free c.requires.entries c.requires.paths)
