use Rattle.std.proofs.Common.{ap, ◌∙◌}
use Rattle.serde_json.specs.Written.{compact_text, has_float}
use Rattle.catalogue.proofs.Floats.{entry_none}
use Rattle.catalogue.proofs.entry.entry_text.Goals as goal

pub returns : goal.returns
returns c =
    c.in_ok-to_string.ensures.text (ap has_float c.in_ok-value.ensures ∙ entry_none c.args.built.now)
    ∙ ap compact_text c.in_ok-value.ensures
