use Rattle.graph_cases.proofs.ExampleFacts.{ignored_name, ignored_origin, user_name, user_origin}
use Rattle.graph_cases.proofs.plans.two_jobs.Goals as goal

pub port-requires-clause-name : goal.port-requires-clause-name
port-requires-clause-name c = rw (c.in_ok-name.ensures) ignored_name

pub port-requires-clause-origin : goal.port-requires-clause-origin
port-requires-clause-origin c = rw (c.in_ok-origin.ensures) ignored_origin

pub port-requires-2-clause-name : goal.port-requires-2-clause-name
port-requires-2-clause-name c = rw (c.in_ok-name-2.ensures) user_name

pub port-requires-2-clause-origin : goal.port-requires-2-clause-origin
port-requires-2-clause-origin c = rw (c.in_ok-origin-2.ensures) user_origin
