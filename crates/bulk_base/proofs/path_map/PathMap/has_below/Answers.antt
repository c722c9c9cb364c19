use Rattle.std.proofs.Common.{◌≡◌, Bool, false, List, ℕ, ap, sym, ◌∙◌, nat_eq}
use Rattle.std.specs.List.{list_any, slice_get, starts_with}
use Rattle.std.specs.Option.{option_map_or}
use Rattle.std.specs.FinMap as map
use Rattle.bulk_base.specs.Path.{is_below}
use Rattle.bulk_base.proofs.MapView.{keys-view}
use Rattle.bulk_base.proofs.Together.{begins, keys_of, first_begins}
use Rattle.bulk_base.proofs.path_map.PathMap.has_below.Goals as goal

pub returns-in-Some : goal.returns-in-Some
returns-in-Some g c =
    let start : List ℕ = c.in_ok-start.start in
    c.starts_with.ensures.value
    ∙ ap (λ t. starts_with nat_eq t c.bytes-in-Some.result.now) c.bytes.ensures.same
    ∙ ap (λ s. starts_with nat_eq c.in-Some.key.now s) c.bytes-in-Some.ensures.same
    ∙ sym (ap (λ l. option_map_or (λ e. begins start e.0) (slice_get l 0) false) (sym (c.range-rest.ensures.between tt) ∙ c.in-Some.ensures.steps))
    ∙ sym (first_begins start c.self.inside.entries.entries c.range-rest.ensures.ordered)
    ∙ ap (λ s. list_any (begins s) (keys_of start c.self.inside.entries.entries)) c.in_ok-start.ensures
    ∙ ap (list_any (is_below c.args.folder.now)) (sym (keys-view c.self.inside.entries c.range-rest.ensures.ordered) ∙ ap map.keys c.self.view_is)

pub returns : goal.returns
returns g c =
    let start : List ℕ = c.in_ok-start.start in
    sym (ap (λ l. option_map_or (λ e. begins start e.0) (slice_get l 0) false) (sym (c.range-rest.ensures.between tt) ∙ c.in-None.ensures.steps.0))
    ∙ sym (first_begins start c.self.inside.entries.entries c.range-rest.ensures.ordered)
    ∙ ap (λ s. list_any (begins s) (keys_of start c.self.inside.entries.entries)) c.in_ok-start.ensures
    ∙ ap (list_any (is_below c.args.folder.now)) (sym (keys-view c.self.inside.entries c.range-rest.ensures.ordered) ∙ ap map.keys c.self.view_is)
