use Rattle.std.proofs.Common.{◌≡◌, ◌<◌, List, Some, None, length, sym, subst, ◌∙◌}
use Rattle.std.specs.Prelude.{filter}
use Rattle.bulk_model.specs.declared.plan.Edge.{Edge}
use Rattle.dep_graph.specs.Graphs.{IsGraph, IsWithin, nodes_of}
use Rattle.bulk_base.specs.Least.{least}
use Rattle.loop_report.specs.Loops.{stays, IsLoop}
use Rattle.loop_report.proofs.GoingOn.{first_is}
use Rattle.loop_report.proofs.Reporting.{loopless_where_none, loop_where_some, first_found, numbers_inside, numbers_size, exact_found, is_exact_loop}
use Rattle.loop_report.proofs.reported.loop_of.Goals as goal

within : (graph edges : List (List Edge)) → edges ≡ graph → IsGraph edges → IsWithin (length graph) graph
within graph edges same g = (subst IsGraph same g).within

pub returns-in-None-clause-none : goal.returns-in-None-clause-none
returns-in-None-clause-none c =
    let w : IsWithin (length c.args.graph.now) c.args.graph.now = within c.args.graph.now c.edges.result.now c.edges.ensures.value c.edges.ensures.form in
    loopless_where_none c.args.graph.now w
    (first_found c.args.graph.now c.as_slice-edges.result.now c.in_ok-free.free c.as_slice.result.now c.in_ok-stays.stays.items c.as_slice-2.result.now w
    (c.as_slice-edges.ensures ∙ c.edges.ensures.value) c.in_ok-free.ensures c.as_slice.ensures c.as_slice-2.ensures.value c.in_ok-stays.ensures.size c.in_ok-stays.ensures.marks None c.in-None.ensures)

pub repeated_part-requires-clause-steps : goal.repeated_part-requires-clause-steps
repeated_part-requires-clause-steps c =
    let w : IsWithin (length c.args.graph.now) c.args.graph.now = within c.args.graph.now c.edges.result.now c.edges.ensures.value c.edges.ensures.form in
    numbers_inside c.args.graph.now c.as_slice-edges.result.now c.in_ok-free.free c.as_slice.result.now c.in_ok-stays.stays.items c.as_slice-2.result.now w
    (c.as_slice-edges.ensures ∙ c.edges.ensures.value) c.in_ok-free.ensures c.as_slice.ensures c.as_slice-2.ensures.value c.in_ok-stays.ensures.size c.in_ok-stays.ensures.marks
    c.as_slice-in-Some.result.now c.as_slice-in-Some.ensures.value c.in_ok-steps-in-Some.steps.items c.as_slice-in-Some-2.result.now c.as_slice-in-Some-2.ensures.value c.in_ok-steps-in-Some.ensures

pub repeated_part-requires-clause-first : goal.repeated_part-requires-clause-first
repeated_part-requires-clause-first c =
    let w : IsWithin (length c.args.graph.now) c.args.graph.now = within c.args.graph.now c.edges.result.now c.edges.ensures.value c.edges.ensures.form in
    let found : Some c.in-Some.first ≡ least (filter (stays c.args.graph.now) (nodes_of c.args.graph.now)) =
    first_found c.args.graph.now c.as_slice-edges.result.now c.in_ok-free.free c.as_slice.result.now c.in_ok-stays.stays.items c.as_slice-2.result.now w
    (c.as_slice-edges.ensures ∙ c.edges.ensures.value) c.in_ok-free.ensures c.as_slice.ensures c.as_slice-2.ensures.value c.in_ok-stays.ensures.size c.in_ok-stays.ensures.marks (Some c.in-Some.first) c.in-Some.ensures in
    subst (λ n. c.in-Some.first < n)
    (sym (numbers_size c.args.graph.now c.as_slice-edges.result.now c.in_ok-free.free c.as_slice.result.now c.in_ok-stays.stays.items c.as_slice-2.result.now w
    (c.as_slice-edges.ensures ∙ c.edges.ensures.value) c.in_ok-free.ensures c.as_slice.ensures c.as_slice-2.ensures.value c.in_ok-stays.ensures.size c.in_ok-stays.ensures.marks
    c.as_slice-in-Some.result.now c.as_slice-in-Some.ensures.value c.in_ok-steps-in-Some.steps.items c.as_slice-in-Some-2.result.now c.as_slice-in-Some-2.ensures.value c.in_ok-steps-in-Some.ensures))
    (first_is c.args.graph.now w c.in-Some.first (sym found)).below

pub returns-clause-exact : goal.returns-clause-exact
returns-clause-exact c =
    let w : IsWithin (length c.args.graph.now) c.args.graph.now = within c.args.graph.now c.edges.result.now c.edges.ensures.value c.edges.ensures.form in
    let found : Some c.in-Some.first ≡ least (filter (stays c.args.graph.now) (nodes_of c.args.graph.now)) =
    first_found c.args.graph.now c.as_slice-edges.result.now c.in_ok-free.free c.as_slice.result.now c.in_ok-stays.stays.items c.as_slice-2.result.now w
    (c.as_slice-edges.ensures ∙ c.edges.ensures.value) c.in_ok-free.ensures c.as_slice.ensures c.as_slice-2.ensures.value c.in_ok-stays.ensures.size c.in_ok-stays.ensures.marks (Some c.in-Some.first) c.in-Some.ensures in
    c.from_vec.ensures ∙ c.in_ok-nodes-in-Some.ensures
    ∙ exact_found c.args.graph.now c.as_slice-edges.result.now c.in_ok-free.free c.as_slice.result.now c.in_ok-stays.stays.items c.as_slice-2.result.now w
    (c.as_slice-edges.ensures ∙ c.edges.ensures.value) c.in_ok-free.ensures c.as_slice.ensures c.as_slice-2.ensures.value c.in_ok-stays.ensures.size c.in_ok-stays.ensures.marks
    c.as_slice-in-Some.result.now c.as_slice-in-Some.ensures.value c.in_ok-steps-in-Some.steps.items c.as_slice-in-Some-2.result.now c.as_slice-in-Some-2.ensures.value c.in_ok-steps-in-Some.ensures
    c.in-Some.first (first_is c.args.graph.now w c.in-Some.first (sym found)).below found

pub returns-clause-none : goal.returns-clause-none
returns-clause-none c =
    let w : IsWithin (length c.args.graph.now) c.args.graph.now = within c.args.graph.now c.edges.result.now c.edges.ensures.value c.edges.ensures.form in
    loop_where_some c.args.graph.now w c.in-Some.first
    (first_is c.args.graph.now w c.in-Some.first
    (sym (first_found c.args.graph.now c.as_slice-edges.result.now c.in_ok-free.free c.as_slice.result.now c.in_ok-stays.stays.items c.as_slice-2.result.now w
    (c.as_slice-edges.ensures ∙ c.edges.ensures.value) c.in_ok-free.ensures c.as_slice.ensures c.as_slice-2.ensures.value c.in_ok-stays.ensures.size c.in_ok-stays.ensures.marks (Some c.in-Some.first) c.in-Some.ensures)))

pub returns-clause-round : goal.returns-clause-round
returns-clause-round c =
    let w : IsWithin (length c.args.graph.now) c.args.graph.now = within c.args.graph.now c.edges.result.now c.edges.ensures.value c.edges.ensures.form in
    subst (IsLoop c.args.graph.now) (sym (returns-clause-exact c))
    (is_exact_loop c.args.graph.now w c.in-Some.first
    (first_found c.args.graph.now c.as_slice-edges.result.now c.in_ok-free.free c.as_slice.result.now c.in_ok-stays.stays.items c.as_slice-2.result.now w
    (c.as_slice-edges.ensures ∙ c.edges.ensures.value) c.in_ok-free.ensures c.as_slice.ensures c.as_slice-2.ensures.value c.in_ok-stays.ensures.size c.in_ok-stays.ensures.marks (Some c.in-Some.first) c.in-Some.ensures))
