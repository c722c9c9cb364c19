use Rattle.std.proofs.Common.{◌≡◌, take, map}
use Rattle.std.specs.Prelude.{bytes_eq}
use Rattle.std.specs.List.{find}
use Rattle.bulk_model.specs.Views.{node_of_job, node_of_package}
use Rattle.run_store.proofs.keeping.keep_among.Given as goal

abbrev pub invariant-loop-job : goal.invariant-loop-job
invariant-loop-job l =
    l.kept ≡ map (λ job. find (λ p. bytes_eq (node_of_job job) (node_of_package p)) l.packages)
    (take l.job-index l.job-items)
