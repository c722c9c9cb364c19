-- The plan of ports without dependencies.
use Rattle.std.specs.Prelude.{false, List, [], length, map, None}
use Rattle.std.specs.List.{range_with_len}
use Rattle.bulk_model.specs.PlanView.{PlanView}
use Rattle.bulk_model.specs.Views.{JobView}

-- the jobs in their order, all wanted, no edge between them, none ignored, over no base root
abbrev pub plan_of : List JobView → PlanView
plan_of jobs = record { jobs = jobs; edges = map (λ job. []) jobs; ignored = map (λ job. None) jobs; wanted = range_with_len 0 (length jobs); base = []; boosted = map (λ job. false) jobs }
