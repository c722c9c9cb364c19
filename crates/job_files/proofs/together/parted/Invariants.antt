use Rattle.std.proofs.Common.{◌≡◌}
use Rattle.std.specs.Prelude.{filter, not}
use Rattle.job_files.specs.Distfiles.{comes_before_dist}
use Rattle.job_files.proofs.together.parted.Given as goal

abbrev pub invariant-loop-file : goal.invariant-loop-file
invariant-loop-file l = record {
  front : l.front ≡ filter comes_before_dist l.yielded;
  back : l.back ≡ filter (λ file. not (comes_before_dist file)) l.yielded;
}
