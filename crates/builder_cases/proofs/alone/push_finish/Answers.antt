use Rattle.bulk_model.specs.Results.{bakes_given}
use Rattle.bulk_core.specs.Builder.{outcomes_in}
use Rattle.builder_cases.proofs.alone.push_finish.Goals as goal

pub push_results-requires : goal.push_results-requires
push_results-requires c = record { bakes = bakes_given (outcomes_in c.in-Ok.results.statuses); are = c.in-Ok.ensures.outcomes }
