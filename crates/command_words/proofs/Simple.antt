-- The description is one that clap's definitions cover.
use Rattle.std.proofs.Common.{◌≡◌, true, refl}
use Rattle.clap.specs.Simple.{is_simple}
use Rattle.clap.specs.Faults.{is_simple_and_free}
use Rattle.command_words.specs.declared.description.Flags.{Flags}
use Rattle.command_words.specs.declared.description.Flags.TheVariants.{OfBulk, OfPkgclean}
use Rattle.command_words.specs.Description.{description}

pub description_is_simple : (flags : Flags) → is_simple (description flags) ≡ true
description_is_simple OfBulk = refl
description_is_simple OfPkgclean = refl

pub description_is_free : (flags : Flags) → is_simple_and_free (description flags) ≡ true
description_is_free OfBulk = refl
description_is_free OfPkgclean = refl
