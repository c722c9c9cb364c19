use Rattle.plan_maker.proofs.Causing.{caused}
use Rattle.plan_maker.proofs.recipe_list.read_files.Goals as goal

pub returns-in-Some-clause-cause : goal.returns-in-Some-clause-cause
returns-in-Some-clause-cause g c =
    caused (g.T.Tree.faults c.args.tree.now) (g.T.Tree.faults c.read_node_files.new.tree) c.in-Err.refusal c.in-Some.outer c.outer_of.result c.in-Some.is c.outer_of.ensures.fault c.outer_of.ensures.memory c.in-Err.ensures.cause
