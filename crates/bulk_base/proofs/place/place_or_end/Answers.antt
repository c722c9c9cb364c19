use Rattle.std.proofs.Common.{◌∙◌, rules}
use Rattle.std.specs.Prelude.{◌==◌}
use Rattle.std.proofs.lemmas.Iterator.{YieldsList-from_slice}
use Rattle.std.proofs.lemmas.Iterator.Search.{position_from_yields_List}
use Rattle.bulk_base.proofs.Places.{place_or_length}
use Rattle.bulk_base.proofs.place.place_or_end.Goals as goal

pub returns-clause-place : goal.returns-clause-place
returns-clause-place c =
    c.unwrap_or.ensures ∙ place_or_length (λ b. b == c.args.byte) _ c.args.bytes.now
    (position_from_yields_List (λ b. b == c.args.byte) _ _ _ c.position.ensures.ran (YieldsList-from_slice c.args.bytes.now c.iter.ensures.rest) (λ x b q k. search rules))
