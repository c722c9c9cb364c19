-- The flavors of a port (Porter's Handbook, "FLAVORS"; docs/FORMATS.md, "A port's description").
use Rattle.std.specs.Prelude.{◌≡◌, ℕ, Bool, false, IsTrue, not, ◌||◌, List, [], ◌∷◌, ◌++◌, bytes_eq, codes, if◌then◌else◌}
use Rattle.std.specs.declared.option.Option.{Option}
use Rattle.std.specs.declared.option.Option.TheVariants.{None, Some}
use Rattle.std.specs.declared.result.Result.{Result}
use Rattle.std.specs.declared.result.Result.TheVariants.{Ok, Err}
use Rattle.std.specs.List.{AllByRecursion, IsDistinct}
use Rattle.bulk_base.specs.Names.{is_flavor}
use Rattle.port_vars.specs.Reference.{Values}
use Rattle.port_name.specs.Sets.{is_among}
use Rattle.port_desc.specs.declared.fault.DescError.{DescError}
use Rattle.port_desc.specs.declared.fault.DescError.TheVariants.{BadFlavor}
use Rattle.port_desc.specs.Values.{words_in}

-- a word that may not stand behind some flavors: it is no flavor, is `all`, or stands there already
abbrev pub is_bad_flavor : List (List ℕ) → List ℕ → Bool
is_bad_flavor before word = not (is_flavor word) || bytes_eq word (codes "all") || is_among before word

-- the first such word
abbrev pub first_bad_flavor : List (List ℕ) → List (List ℕ) → Option (List ℕ)
first_bad_flavor before [] = None
first_bad_flavor before (word ∷ more) = if is_bad_flavor before word then Some word else first_bad_flavor (before ++ word ∷ []) more

-- words that are all flavors, or the first that may not stand
abbrev pub checked_flavors : List (List ℕ) → Result (List (List ℕ)) DescError
checked_flavors listed = elim (first_bad_flavor [] listed) [
  | None ↦ Ok listed
  | Some word ↦ Err (BadFlavor word)
]

-- flavors that may stand together: each in form, none of them `all`, each once
pub record AreFlavors (flavors : List (List ℕ)) : Type 0 where
  pub forms : AllByRecursion (λ flavor. IsTrue (is_flavor flavor)) flavors
  pub none_all : AllByRecursion (λ flavor. bytes_eq flavor (codes "all") ≡ false) flavors
  pub once : IsDistinct bytes_eq flavors

-- the flavors that FLAVORS lists
unfoldable pub flavors_of : Values → Result (List (List ℕ)) DescError
flavors_of values = checked_flavors (words_in values (codes "FLAVORS"))
