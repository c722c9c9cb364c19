use Rattle.std.proofs.Common.{◌≡◌, ◌+◌, ◌∷◌, ◌∙◌, ℕ, List, Bool, true, false, not, drop, ap, sym, arith}
use Rattle.std.specs.Prelude.{◌&&◌}
use Rattle.std.specs.List.{list_all}
use Rattle.std.proofs.lemmas.List.{drop_more}
use Rattle.poudriere_cli.proofs.Listings.{has_none_below, told_below}
use Rattle.poudriere_cli.proofs.listing.are_apart.Goals as goal

pub returns-then-branch : goal.returns-then-branch
returns-then-branch c =
    let paths : List (List ℕ) = c.args.paths.now in
    let at : ℕ = c.loop-path.path-index in
    let folder : List ℕ = c.path-item.result in
    let rest : List (List ℕ) = drop (at + 1) paths in
    let more : drop at paths ≡ folder ∷ rest = drop_more paths at folder (omega arith) ∙ ap (λ x. x ∷ rest) (sym c.path-item.is) in
    let fails : has_none_below paths folder ≡ false = told_below folder paths c.in_ok-set.set c.in_ok-has_below.field-0 c.in_ok-set.ensures c.in_ok-has_below.ensures ∙ ap not c.if-branch.true in
    sym (sym c.loop-path.invariant ∙ ap (list_all (has_none_below paths)) more ∙ ap (λ b. b && list_all (has_none_below paths) rest) fails)

pub loop-path-preserved : goal.loop-path-preserved
loop-path-preserved c =
    let paths : List (List ℕ) = c.args.paths.now in
    let at : ℕ = c.loop-path.path-index in
    let folder : List ℕ = c.path-item.result in
    let rest : List (List ℕ) = drop (at + 1) paths in
    let more : drop at paths ≡ folder ∷ rest = drop_more paths at folder (omega arith) ∙ ap (λ x. x ∷ rest) (sym c.path-item.is) in
    let passes : has_none_below paths folder ≡ true = told_below folder paths c.in_ok-set.set c.in_ok-has_below.field-0 c.in_ok-set.ensures c.in_ok-has_below.ensures ∙ ap not c.if-branch.false in
    sym (ap (λ b. b && list_all (has_none_below paths) rest) passes) ∙ sym (ap (list_all (has_none_below paths)) more) ∙ c.loop-path.invariant
