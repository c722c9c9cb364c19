use Rattle.std.proofs.Common.{subst, arith}
use Rattle.port_desc.specs.Flavors.{AreFlavors}
use Rattle.port_desc.proofs.Flavored.{flavors_end}
use Rattle.port_desc.proofs.FlavorLaws.{flavors_sound}
use Rattle.port_desc.proofs.flavor_list.checked.Goals as goal

pub returns-clause-sound : goal.returns-clause-sound
returns-clause-sound c =
    let words = c.as_slice-word-items.result.now in
    subst AreFlavors c.as_slice-word-items.ensures (flavors_sound words words (flavors_end words c.loop-word.before c.loop-word.word-index (omega arith) c.loop-word.invariant))
