use Rattle.job_files.proofs.FileLists.{short_at}
use Rattle.job_files.proofs.distfile.read_distfiles.Goals as goal

pub read_dist-requires-clause-name : goal.read_dist-requires-clause-name
read_dist-requires-clause-name g c =
    short_at c.args.dists.now c.as_slice-dist-items.result.now c.loop-dist.dist-index c.dist-item.result c.as_slice-dist-items.ensures c.requires.entries.short c.loop-dist-test.true c.dist-item.is
