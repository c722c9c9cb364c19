-- The two runs meet what the laws ask for.
use Rattle.incremental_example.specs.Diamond.{DiamondMeetsPremises}
use Rattle.incremental_example.proofs.Facts.{is_table}
use Rattle.incremental_example.proofs.First.{begins, first_is, first_done, full}
use Rattle.incremental_example.proofs.Second.{second_is, keeps, leaves}

pub meets : DiamondMeetsPremises
meets apart runs = record {
  table = is_table apart;
  begins = begins runs;
  are = (first_is runs, (second_is apart runs, tt));
  done = first_done runs;
  full = full;
  keeps = keeps apart;
  leaves = leaves;
}
