use Rattle.std.proofs.Common.{ap, ◌∙◌, ◌++◌, ◌∷◌, []}
use lib.Utf8.{encode}
use Rattle.catalogue.specs.Catalogue.{entry_line}
use Rattle.catalogue.proofs.entry.line_text.Goals as goal

pub returns : goal.returns
unfolding entry_line encode
returns c = c.in_ok-push.ensures.bytes ∙ ap (λ text. text ++ 10 ∷ []) c.in_ok-text.ensures
