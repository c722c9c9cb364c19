use Rattle.std.proofs.Common.{◌≡◌, ◌<◌, ℕ, List, Some, length, slice_index, ap, sym, ◌∙◌}
use Rattle.std.specs.Fn.{iterate}
use Rattle.std.specs.List.{All}
use Rattle.std.specs.Option.{unwrap_or}
use Rattle.std.proofs.lemmas.List.Elements.{All-get_or}
use Rattle.bulk_base.specs.Least.{least}
use Rattle.loop_report.specs.Walks.{round}
use Rattle.loop_report.proofs.Repeating.{least_repeated, least_below}
use Rattle.loop_report.proofs.walking.loop_start.Goals as goal

inside : (steps : List ℕ) → All (λ n. n < length steps) steps → (n : ℕ) → n < length steps → slice_index steps n < length steps
inside steps all n l = All-get_or (λ m. m < length steps) steps n 0 l all

-- the least of the part that was walked is that of once round from far along
chosen : (f : ℕ → ℕ) (count first within number : ℕ) (part : List ℕ) → within ≡ iterate f count first → part ≡ round f count within → number ≡ unwrap_or (least part) within
    → least (round f count (iterate f count first)) ≡ Some number
chosen f count first within number part w p e = sym (ap Some (e ∙ ap (λ nodes. unwrap_or (least nodes) within) (p ∙ ap (round f count) w)))

pub returns-clause-least : goal.returns-clause-least
returns-clause-least c =
    let f : ℕ → ℕ = slice_index c.args.steps.now in
    let count : ℕ = length c.args.steps.now in
    least_repeated f count (inside c.args.steps.now c.requires.steps) c.args.first c.requires.first c.unwrap_or.result
    (chosen f count c.args.first c.far_along-within.result c.unwrap_or.result c.in_ok-part.part.items c.far_along-within.ensures.place c.in_ok-part.ensures
    (c.unwrap_or.ensures ∙ ap (λ o. unwrap_or o c.far_along-within.result) (c.least_of.ensures ∙ ap least c.as_slice.ensures.value)))

pub returns-clause-below : goal.returns-clause-below
returns-clause-below c =
    let f : ℕ → ℕ = slice_index c.args.steps.now in
    let count : ℕ = length c.args.steps.now in
    least_below f count (inside c.args.steps.now c.requires.steps) c.args.first c.requires.first c.unwrap_or.result
    (chosen f count c.args.first c.far_along-within.result c.unwrap_or.result c.in_ok-part.part.items c.far_along-within.ensures.place c.in_ok-part.ensures
    (c.unwrap_or.ensures ∙ ap (λ o. unwrap_or o c.far_along-within.result) (c.least_of.ensures ∙ ap least c.as_slice.ensures.value)))
