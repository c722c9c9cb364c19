use Rattle.std.proofs.Common.{◌∙◌, rules}
use Rattle.std.proofs.lemmas.Iterator.{YieldsList-from_slice}
use Rattle.std.proofs.lemmas.Iterator.Search.{position_from_yields_List}
use Rattle.bulk_base.specs.Words.{is_blank}
use Rattle.bulk_base.proofs.Places.{place_or_length}
use Rattle.conf_file.proofs.statement.first_blank.Goals as goal

pub returns-clause-place : goal.returns-clause-place
returns-clause-place c =
    c.unwrap_or.ensures ∙ place_or_length is_blank _ c.args.text.now
    (position_from_yields_List is_blank _ _ _ c.position.ensures.ran (YieldsList-from_slice c.args.text.now c.iter.ensures.rest) (λ x b q k. search rules))
