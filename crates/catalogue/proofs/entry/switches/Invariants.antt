use Rattle.std.proofs.Common.{◌≡◌, drop}
use Rattle.serde_json.specs.Data.{no_members}
use Rattle.serde_json.specs.View.{members_view}
use Rattle.catalogue.specs.Catalogue.{with_options}
use Rattle.catalogue.proofs.entry.switches.Given as goal

abbrev pub invariant-loop-option : goal.invariant-loop-option
invariant-loop-option l =
    with_options (drop l.option-index l.options) (members_view l.members.entries)
    ≡ with_options l.options no_members
