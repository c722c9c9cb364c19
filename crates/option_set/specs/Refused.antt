-- When a port's options have no state (Porter's Handbook, "Options"; docs/FORMATS.md).
use Rattle.std.specs.Prelude.{ℕ, Bool, not, ◌==◌, nat_lt, nat_le, List, [], ◌∷◌, ◌++◌, length, filter, find, codes, slice_get, if◌then◌else◌}
use Rattle.std.specs.declared.option.Option.{Option}
use Rattle.std.specs.declared.option.Option.TheVariants.{None, Some}
use Rattle.std.specs.Option.{option_map, option_or}
use Rattle.std.specs.List.{flat_map}
use Rattle.port_vars.specs.Variables.{Vars}
use Rattle.port_name.specs.Sets.{is_among}
use Rattle.option_set.specs.declared.fault.OptionError.{OptionError}
use Rattle.option_set.specs.declared.fault.OptionError.TheVariants.{Undefined, Group as WrongGroup, Prevented, Limit}
use Rattle.option_set.specs.declared.defining.Group.{Group}
use Rattle.option_set.specs.declared.defining.Defining.{Defining}
use Rattle.option_set.specs.declared.group.Kind.{Kind}
use Rattle.option_set.specs.declared.group.Kind.TheVariants.{Single, Radio, Multi}
use Rattle.bulk_base.specs.Order.{in_order}
use Rattle.bulk_base.specs.Names.{is_option_name}
use Rattle.port_vars.specs.ValueWords.{words_in}
use Rattle.option_set.specs.Defined.{defining_words}
use Rattle.option_set.specs.Implied.{implied_by}

-- the first answer that a question gives for one of these
abbrev pub first_some : {A B : Type 0} → (A → Option B) → List A → Option B
first_some ask [] = None
first_some ask (x ∷ xs) = option_or (ask x) (first_some ask xs)

-- more than 256 options
abbrev pub too_many : List (List ℕ) → Option OptionError
too_many options = if nat_le (length options) 256 then None else Some (Limit (length options))

-- the first word of the defining variables that is no option's name
abbrev pub no_name : List (List ℕ) → Option (List ℕ)
no_name words = find (λ word. not (is_option_name word)) words

-- the words of X_PREVENTS
abbrev pub prevented_by : Vars → List ℕ → List (List ℕ)
prevented_by vars option = words_in vars (option ++ codes "_PREVENTS")

-- the words that name options: of OPTIONS_DEFAULT, then of X_IMPLIES and X_PREVENTS for each X
abbrev pub naming_words : Vars → List (List ℕ) → List (List ℕ)
naming_words vars options = words_in vars (codes "OPTIONS_DEFAULT") ++ flat_map (λ option. implied_by vars option ++ prevented_by vars option) options

-- the first of some words that is no option
abbrev pub not_defined : (List ℕ → Bool) → List (List ℕ) → Option (List ℕ)
not_defined is_option words = find (λ word. not (is_option word)) words

abbrev pub undefined : Option (List ℕ) → Option OptionError
undefined word = option_map (λ name. Undefined name) word

-- the first refusal of words
unfoldable pub words_refused : Vars → Defining → List (List ℕ) → Option OptionError
words_refused vars d options =
    option_or (too_many options)
    (option_or (undefined (no_name (defining_words d)))
    (undefined (not_defined (is_among options) (naming_words vars options))))

-- how many members of a group may be on: just one, one at most, one at least
abbrev pub allows : Kind → ℕ → Bool
allows Single count = count == 1
allows Radio count = nat_le count 1
allows Multi count = nat_lt 0 count

-- the members of a group that are on, in byte order
abbrev pub members_on : (List ℕ → Bool) → Group → List (List ℕ)
members_on is_on group = in_order (filter is_on group.members)

-- a group with too many or too few members on
abbrev pub wrong : Kind → (List ℕ → Bool) → Group → Option OptionError
wrong kind is_on group =
    let on = members_on is_on group in
    if allows kind (length on) then None else Some (WrongGroup group.name on)

-- the first such group: those of OPTIONS_SINGLE, then of OPTIONS_RADIO, then of OPTIONS_MULTI
abbrev pub group_refused : Defining → (List ℕ → Bool) → Option OptionError
group_refused d is_on =
    option_or (first_some (wrong Single is_on) d.single)
    (option_or (first_some (wrong Radio is_on) d.radio)
    (first_some (wrong Multi is_on) d.multi))

-- what an option prevents that is on: the least such option
abbrev pub prevents : Vars → (List ℕ → Bool) → List ℕ → Option OptionError
prevents vars is_on a = option_map (λ b. Prevented a b) (slice_get (in_order (filter is_on (prevented_by vars a))) 0)

-- the first refusal of the options that are on
unfoldable pub state_refused : Vars → Defining → List (List ℕ) → Option OptionError
state_refused vars d on = option_or (group_refused d (is_among on)) (first_some (prevents vars (is_among on)) on)
