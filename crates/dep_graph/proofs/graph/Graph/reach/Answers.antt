use Rattle.std.proofs.Common.{◌≡◌, ◌<◌, length, refl, sym, subst, ◌∙◌}
use Rattle.std.specs.Prelude.{filter}
use Rattle.std.specs.List.{All, range_with_len}
use Rattle.dep_graph.specs.Graphs.{has, IsWithin}
use Rattle.dep_graph.specs.Reached.{reach, IsReach}
use Rattle.std.proofs.lemmas.Result.{IfOk-weaker}
use Rattle.dep_graph.proofs.Reaching.{reached_are, is_reach}
use Rattle.dep_graph.proofs.graph.Graph.reach.Goals as goal

pub returns-clause-nodes : goal.returns-clause-nodes
returns-clause-nodes c =
    let same : c.as_slice-graph.result.now ≡ c.args.self.now = c.as_slice-graph.ensures ∙ c.self.view_is in
    IfOk-weaker c.ascending.result (λ reached. reached ≡ filter (has c.spread.new.found.nodes) (range_with_len 0 c.spread.new.found.count)) (λ reached. reached ≡ reach c.args.self.now c.args.from.now)
    (λ reached e. subst (λ g. reached ≡ reach g c.args.from.now) same
    (reached_are c.as_slice-graph.result.now c.args.from.now c.spread.new.found (length c.as_slice-graph.result.now) c.in_ok-found.found refl c.in_ok-found.ensures c.in_ok-spread.ensures.nodes reached e))
    c.ascending.ensures

pub returns-clause-least_closed : goal.returns-clause-least_closed
returns-clause-least_closed c =
    let same : c.as_slice-graph.result.now ≡ c.args.self.now = c.as_slice-graph.ensures ∙ c.self.view_is in
    let inside : All (λ n. n < length c.as_slice-graph.result.now) c.args.from.now = subst (λ g. All (λ n. n < length g) c.args.from.now) (sym same) c.requires in
    let within : IsWithin (length c.as_slice-graph.result.now) c.as_slice-graph.result.now = subst (λ g. IsWithin (length g) g) (sym c.as_slice-graph.ensures) c.self.invariant.within in
    IfOk-weaker c.ascending.result (λ reached. reached ≡ filter (has c.spread.new.found.nodes) (range_with_len 0 c.spread.new.found.count)) (IsReach c.args.self.now c.args.from.now)
    (λ reached e. subst (λ g. IsReach g c.args.from.now reached) same
    (is_reach c.as_slice-graph.result.now c.args.from.now c.spread.new.found (length c.as_slice-graph.result.now) c.in_ok-found.found refl c.in_ok-found.ensures c.in_ok-spread.ensures.nodes reached e inside within))
    c.ascending.ensures
