use Rattle.std.proofs.Common.{◌≡◌, ◌++◌, ◌∷◌, [], List, ℕ, ◌∙◌, ap, sym, subst, append-nil}
use Rattle.std.specs.Prelude.{map as each}
use Rattle.std.specs.FinMap.{insert}
use Rattle.std.specs.Map.Iter.{deref_pair}
use Rattle.std.specs.List.Sorted.{IsStrictlySortedBy}
use Rattle.std.proofs.lemmas.List.{map-append}
use Rattle.std.proofs.lemmas.Map.Iter.{rest_so_far}
use Rattle.bulk_base.proofs.MapView.{order, view, view-push}
use Rattle.bulk_base.proofs.text_map.TextMap+Bytes.copy.Goals as goal

pub loop-key-preserved : goal.loop-key-preserved
loop-key-preserved c =
    let done : List (List ℕ × List ℕ) = each deref_pair c.loop-key.yielded in
    let key : List ℕ = c.in-Some.key.now in
    let bytes : List ℕ = c.in-Some.bytes.now in
    let yields : c.self.inside.entries.entries ≡ done ++ (key, bytes) ∷ c.next.new.self =
    sym (c.into_iter-key-iterator.ensures.into_iter_gives ∙ c.iter-key-items.ensures.rest) ∙ rest_so_far deref_pair c.loop-key.yielded _ _ c.loop-key.yielded_by ∙ ap (λ l. done ++ l) c.in-Some.ensures.steps in
    let sorted = subst (λ es. IsStrictlySortedBy order (each (λ e. e.0) es)) yields c.iter-key-items.ensures.ordered in
    c.in_ok-insert.ensures.ok
    ∙ ap (λ k. insert c.loop-key.copied k c.in_ok-from_slice.field-0) c.in_ok-copy.ensures
    ∙ ap (λ b. insert c.loop-key.copied key b) (c.in_ok-from_slice.ensures ∙ c.as_slice.ensures)
    ∙ ap (λ m. insert m key bytes) c.loop-key.invariant
    ∙ sym (view-push done c.next.new.self key bytes sorted)
    ∙ ap view (sym (map-append deref_pair c.loop-key.yielded ((c.in-Some.key, c.in-Some.bytes) ∷ [])))

pub returns : goal.returns
returns c =
    let done : List (List ℕ × List ℕ) = each deref_pair c.loop-key.yielded in
    let all : c.self.inside.entries.entries ≡ done =
    sym (c.into_iter-key-iterator.ensures.into_iter_gives ∙ c.iter-key-items.ensures.rest) ∙ rest_so_far deref_pair c.loop-key.yielded _ _ c.loop-key.yielded_by ∙ ap (λ l. done ++ l) c.in-None.ensures.steps.0 ∙ append-nil done in
    c.loop-key.invariant ∙ ap view (sym all) ∙ c.self.view_is
