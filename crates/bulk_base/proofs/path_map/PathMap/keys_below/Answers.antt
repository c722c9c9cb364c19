use Rattle.std.proofs.Common.{◌≡◌, ◌++◌, ◌∙◌, ap, sym, subst, List, ℕ, length, false, nat_eq, append-nil}
use Rattle.std.specs.Prelude.{filter, map as each}
use Rattle.std.specs.FinMap as map
use Rattle.std.specs.Map.Iter.{deref_pair}
use Rattle.std.specs.List.{slice_get, starts_with}
use Rattle.std.specs.List.Sorted.{IsStrictlySortedBy}
use Rattle.std.proofs.lemmas.Map.Iter.{iter_turn, rest_so_far}
use Rattle.std.proofs.lemmas.List.Kept.{IsStrictlySortedBy-filter}
use Rattle.bulk_base.specs.Path.{is_below, IsPath}
use Rattle.bulk_base.proofs.MapView.{order, keys-view, keys_ascend}
use Rattle.bulk_base.proofs.Together.{begins, keys_of, keys_shown, from_front, found_key, kept_before, kept_from_front}
use Rattle.bulk_base.proofs.path_map.PathMap.keys_below.Goals as goal
use Rattle.bulk_base.proofs.path_map.PathMap.keys_below.Goals.{in-None, in-Some+then-not-starts_with}

pub of_text-requires : goal.of_text-requires
of_text-requires g c =
    let turn = iter_turn deref_pair c.range-key-items.result c.loop-key.yielded _ _ _ _ c.into_iter-key-iterator.ensures.into_iter_gives c.loop-key.yielded_by (c.in-Some.key, c.in-Some.field-0-1) c.in-Some.is c.next.ensures.steps in
    found_key c.in_ok-start.start IsPath c.self.inside.entries.entries (length c.loop-key.yielded) (c.in-Some.key.now, c.in-Some.field-0-1.now) c.self.invariant
    (ap (λ l. slice_get l (length c.loop-key.yielded)) (sym (c.range-key-items.ensures.between tt)) ∙ turn.1)

pub returns : goal.returns
returns g c =
    let start : List ℕ = c.in_ok-start.start in
    let entries : List (List ℕ × g.row.V.Denot) = c.self.inside.entries.entries in
    let sorted = c.range-key-items.ensures.ordered in
    let done : List (List ℕ × g.row.V.Denot) = each deref_pair c.loop-key.yielded in
    let yields : from_front start entries ≡ done ++ c.loop-key.key-iterator =
    sym (c.range-key-items.ensures.between tt) ∙ sym c.into_iter-key-iterator.ensures.into_iter_gives ∙ rest_so_far deref_pair c.loop-key.yielded _ _ c.loop-key.yielded_by in
    let kept : filter (begins start) (keys_of start entries) ≡ filter (begins start) (keys_of start done) = elim c.match-next.branch [
      | in-None w ↦ kept_from_front start entries ∙ ap (λ l. filter (begins start) (keys_of start l)) (yields ∙ ap (λ l. done ++ l) w.in-None.ensures.steps.0 ∙ append-nil done)
      | in-Some+then-not-starts_with w ↦
          let fails : begins start w.in-Some.key.now ≡ false =
          sym (w.starts_with.ensures.value ∙ ap (λ t. starts_with nat_eq t w.bytes-in-loop-key.result.now) w.bytes.ensures.same ∙ ap (λ s. starts_with nat_eq w.in-Some.key.now s) w.bytes-in-loop-key.ensures.same)
          ∙ w.if-not-starts_with.true in
          kept_before start entries done c.next.new.self (w.in-Some.key.now, w.in-Some.field-0-1.now) sorted (yields ∙ ap (λ l. done ++ l) w.in-Some.ensures.steps) fails
    ] in
    let all : c.loop-key.keys ≡ filter (is_below c.args.folder.now) (map.keys c.args.self.now) =
    c.loop-key.invariant
    ∙ ap (filter (is_below c.args.folder.now)) (sym (keys_shown c.in_ok-start.start c.loop-key.yielded))
    ∙ ap (λ s. filter (begins s) (keys_of start done)) (sym c.in_ok-start.ensures)
    ∙ sym kept
    ∙ ap (λ s. filter (begins s) (keys_of start entries)) c.in_ok-start.ensures
    ∙ ap (filter (is_below c.args.folder.now)) (sym (keys-view c.self.inside.entries sorted) ∙ ap map.keys c.self.view_is) in
    record { below = all; order = subst (IsStrictlySortedBy order) (sym all) (IsStrictlySortedBy-filter order (is_below c.args.folder.now) (map.keys c.args.self.now) (keys_ascend c.args.self.now)) }
