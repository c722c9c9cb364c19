-- What a port depends on (Porter's Handbook, "Dependencies"; docs/FORMATS.md, "A port's description").
use Rattle.std.specs.Prelude.{ℕ, Bool, not, nat_le, ◌≤◌, ◌==◌, ◌&&◌, List, [], ◌∷◌, ◌++◌, length, map, filter, bytes_eq, codes, if◌then◌else◌}
use Rattle.std.specs.declared.option.Option.{Option}
use Rattle.std.specs.declared.option.Option.TheVariants.{None, Some}
use Rattle.std.specs.declared.result.Result.{Result}
use Rattle.std.specs.declared.result.Result.TheVariants.{Ok, Err}
use Rattle.std.specs.List.{slice_split, AllByRecursion, IsDistinct}
use Rattle.bulk_base.specs.Names.{IsNode}
use Rattle.bulk_model.specs.Facts.{kind_number}
use Rattle.bulk_base.specs.Words.{is_filled}
use Rattle.bulk_model.specs.declared.depend.DepKind.{DepKind}
use Rattle.bulk_model.specs.declared.depend.DepKind.TheVariants.{Pkg, Fetch, Extract, Patch, Build, Lib, Run}
use Rattle.port_vars.specs.Reference.{Values}
use Rattle.port_vars.specs.Assignment.{◌>>=◌}
use Rattle.port_name.specs.Forms.{is_node}
use Rattle.port_desc.specs.declared.fault.DescError.{DescError}
use Rattle.port_desc.specs.declared.fault.DescError.TheVariants.{BadDepend, Target, Limit}
use Rattle.port_desc.specs.declared.entry.Entry.{Entry}
use Rattle.port_desc.specs.Values.{words_in, words_by_options, words_by_flavor}

-- a dependency variable: of a kind, or TEST_DEPENDS, whose entries are looked at and not used
abbrev pub depends_variable : Option DepKind → List ℕ
depends_variable (Some Pkg) = codes "PKG_DEPENDS"
depends_variable (Some Fetch) = codes "FETCH_DEPENDS"
depends_variable (Some Extract) = codes "EXTRACT_DEPENDS"
depends_variable (Some Patch) = codes "PATCH_DEPENDS"
depends_variable (Some Build) = codes "BUILD_DEPENDS"
depends_variable (Some Lib) = codes "LIB_DEPENDS"
depends_variable (Some Run) = codes "RUN_DEPENDS"
depends_variable None = codes "TEST_DEPENDS"

-- the order in which they are read
abbrev pub variables : List (Option DepKind)
variables = Some Pkg ∷ Some Fetch ∷ Some Extract ∷ Some Patch ∷ Some Build ∷ Some Lib ∷ Some Run ∷ None ∷ []

-- the words of a dependency variable: its own, then those by options that are on, then those by the flavor
abbrev pub words_for : Values → Option (List ℕ) → List (List ℕ) → List ℕ → List (List ℕ)
words_for values flavor on name = words_in values name ++ words_by_options values on name ++ words_by_flavor values flavor name

-- the target that a word of two parts names: the second, where that is a node and the first is not empty
abbrev pub target_behind : List ℕ → List ℕ → List ℕ → Result (List ℕ) DescError
target_behind word what node = if is_filled what && is_node node then Ok node else Err (BadDepend word)

-- how a word of three parts is refused: where the second is a node, the third is a target of make
abbrev pub refusal_of_three : List ℕ → List ℕ → DescError
refusal_of_three word node = if is_node node then Target word else BadDepend word

-- the target that the parts of a word between `:` name
abbrev pub target_in : List ℕ → List (List ℕ) → Result (List ℕ) DescError
target_in word (what ∷ node ∷ []) = target_behind word what node
target_in word (what ∷ node ∷ target ∷ []) = Err (refusal_of_three word node)
target_in word parts = Err (BadDepend word)

unfoldable pub target_of : List ℕ → Result (List ℕ) DescError
target_of word = target_in word (slice_split (λ b. b == 58) word)

-- the targets of words, or the first word's fault
abbrev pub targets_of : List (List ℕ) → Result (List (List ℕ)) DescError
targets_of [] = Ok []
targets_of (word ∷ more) = do
  target ← target_of word
  targets ← targets_of more
  Ok (target ∷ targets)

-- each text once, where it first stands
abbrev pub each_once : List (List ℕ) → List (List ℕ)
each_once [] = []
each_once (text ∷ more) = text ∷ filter (λ other. not (bytes_eq text other)) (each_once more)

-- the entries of a kind with these targets; those of TEST_DEPENDS are dropped
abbrev pub entries_with : Option DepKind → List (List ℕ) → List Entry
entries_with None targets = []
entries_with (Some kind) targets = map (λ target. record { kind = kind; target = target }) (each_once targets)

-- the entries of dependency variables, or the first fault
abbrev pub entries_among : Values → Option (List ℕ) → List (List ℕ) → List (Option DepKind) → Result (List Entry) DescError
entries_among values flavor on [] = Ok []
entries_among values flavor on (kind ∷ more) = do
  targets ← targets_of (words_for values flavor on (depends_variable kind))
  entries ← entries_among values flavor on more
  Ok (entries_with kind targets ++ entries)

-- two entries of one kind with one target
abbrev pub is_same : Entry → Entry → Bool
is_same a b = (kind_number a.kind == kind_number b.kind) && bytes_eq a.target b.target

-- what holds of every port's entries: each names a node, none comes twice, and there are at most 256
pub record AreEntries (entries : List Entry) : Type 0 where
  pub nodes : AllByRecursion (λ entry. IsNode entry.target) entries
  pub once : IsDistinct is_same entries
  pub few : length entries ≤ 256

-- at most 256 entries
abbrev pub few : List Entry → Result (List Entry) DescError
few entries = if nat_le (length entries) 256 then Ok entries else Err (Limit (length entries))

-- what a port depends on, with a flavor and with some options on, or the first refusal
unfoldable pub entries_of : Values → Option (List ℕ) → List (List ℕ) → Result (List Entry) DescError
entries_of values flavor on = do
  entries ← entries_among values flavor on variables
  few entries
