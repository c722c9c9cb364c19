use Rattle.std.proofs.Common.{◌∙◌, rules, ℕ, List, Bool}
use Rattle.std.specs.Prelude.{bytes_eq}
use Rattle.std.proofs.lemmas.Iterator.{YieldsList-from_slice}
use Rattle.std.proofs.lemmas.Iterator.Search.{position_from_yields_List}
use Rattle.bulk_base.proofs.Places.{place_or_length}
use Rattle.moved_list.proofs.chain.first_place.Goals as goal

pub returns-clause-place : goal.returns-clause-place
returns-clause-place c =
    let is_name : List ℕ → Bool = λ n. bytes_eq n c.args.name.now in
    c.unwrap_or.ensures ∙ place_or_length is_name _ c.args.names.now
    (position_from_yields_List is_name _ _ _ c.position.ensures.ran (YieldsList-from_slice c.args.names.now c.iter.ensures.rest) (λ x b q k. search rules))
