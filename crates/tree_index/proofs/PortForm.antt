-- The nodes of one port are in form.
use Rattle.std.proofs.Common.{◌≡◌, ℕ, ◌+◌, Bool, true, false, List, [], ◌∷◌, ◌++◌, length, ap, subst, sym, ◌∙◌, refl, arith, Ok, Err, Option, Some, None, Result}
use Rattle.std.specs.Prelude.{map, filter, cond, nat_le, bytes_eq, IfSome, codes}
use Rattle.std.specs.List.{AllByRecursion, IsDistinct}
use Rattle.std.specs.FinMap as finite
use Rattle.std.proofs.lemmas.Bool.Decides.{nat_tests}
use Rattle.bulk_base.specs.Names.{IsPackageName, is_flavor, node_of}
use Rattle.bulk_base.specs.declared.file.Switch.{Switch}
use Rattle.bulk_model.specs.Facts.{IsOptionList}
use Rattle.port_vars.specs.Reference.{Values}
use Rattle.port_vars.specs.Variables.{Vars}
use Rattle.port_vars.specs.Assignment.{◌>>=◌}
use Rattle.port_name.specs.declared.fault.NamePart.{NamePart}
use Rattle.port_name.specs.declared.fault.NamePart.TheVariants.{Portname}
use Rattle.port_name.specs.declared.package.NameParts.{NameParts}
use Rattle.port_name.specs.declared.place.Origin.{Origin}
use Rattle.port_name.specs.Package.{name_of, bad_part, bad_whole, first_fault}
use Rattle.port_name.proofs.Spelled.{name_in_form}
use Rattle.port_desc.specs.declared.description.Desc.{Desc}
use Rattle.port_desc.specs.declared.fault.DescError.{DescError}
use Rattle.port_desc.specs.declared.fault.DescError.TheVariants.{Missing, BadValue}
use Rattle.port_desc.specs.Values.{names_on, words_in}
use Rattle.port_desc.specs.Naming.{missing, parts_for, variable_of, named, name_for}
use Rattle.port_desc.specs.Dependencies.{AreEntries, entries_of}
use Rattle.port_desc.specs.Description.{described, desc_with}
use Rattle.port_desc.specs.Flavors.{AreFlavors, flavors_of}
use Rattle.port_desc.proofs.Named.{name_missing, name_known}
use Rattle.port_desc.proofs.Described.{desc_with-name, desc_with-entries}
use Rattle.port_desc.proofs.EntryLaws.{entries_sound}
use Rattle.port_desc.proofs.FlavorLaws.{flavors_sound}
use Rattle.port_desc.proofs.Lists.{all_mapped, distinct_mapped}
use Rattle.port_desc.proofs.Refused.{same_ok, no_err}
use Rattle.tree_index.specs.declared.node.NodeInfo.{NodeInfo}
use Rattle.tree_index.specs.Facts.{IsPlace, IsNodeInfo, ArePortNodes}
use Rattle.tree_index.specs.Places.{origin_name}
use Rattle.tree_index.specs.PortNodes.{node_with, other_flavor, with_default, nodes_for, checked_flavors}
use Rattle.tree_index.proofs.Steps.{ok_parts}

-- the package's name
abbrev by_fault : NameParts → Option NamePart → Result (List ℕ) DescError
by_fault parts fault = elim fault [
  | None ↦ Ok (name_of parts)
  | Some part ↦ Err (BadValue (variable_of part))
]

no_fault : (parts : NameParts) (name : List ℕ) (fault : Option NamePart) → by_fault parts fault ≡ Ok name → (fault ≡ None) × (name_of parts ≡ name)
no_fault parts name None h = (refl, same_ok (name_of parts) name h)
no_fault parts name (Some part) h = absurd (no_err (BadValue (variable_of part)) name h)

abbrev whole_or : Option NamePart → Option NamePart → Option NamePart
whole_or bad whole = elim bad [
  | Some part ↦ Some part
  | None ↦ whole
]

neither : (bad whole : Option NamePart) → whole_or bad whole ≡ None → (bad ≡ None) × (whole ≡ None)
neither None whole h = (refl, h)
neither (Some part) whole h = cc

short_whole : (n : ℕ) (b : Bool) → nat_le n 200 ≡ b → (let bad : Option NamePart = cond b None (Some Portname) in bad) ≡ None → nat_le n 200 ≡ true
short_whole n true e h = e
short_whole n false e h = cc

named_sound : (parts : NameParts) (name : List ℕ) → named parts ≡ Ok name → IsPackageName name
named_sound parts name h =
    let m = no_fault parts name (first_fault parts) h in
    let good = neither (bad_part parts) (bad_whole parts) m.0 in
    let short : nat_le (length (name_of parts)) 200 ≡ true = short_whole (length (name_of parts)) (nat_le (length (name_of parts)) 200) refl good.1 in
    subst IsPackageName m.1 (name_in_form parts good.0 (grind (arith, nat_tests)))

name_case : (values : Values) (flavor : Option (List ℕ)) (name : List ℕ) (lack : Option (List ℕ)) → missing values ≡ lack → name_for values flavor ≡ Ok name → IsPackageName name
name_case values flavor name None e h = named_sound (parts_for values flavor) name (sym (name_known values flavor e) ∙ h)
name_case values flavor name (Some lack) e h = absurd (no_err (Missing lack) name (sym (name_missing values flavor lack e) ∙ h))

record IsDescInForm (desc : Desc) : Type 0 where
  name : IsPackageName desc.name
  entries : AreEntries desc.entries

described_sound : (values : Values) (flavor : Option (List ℕ)) (options : List Switch) (desc : Desc) → described values flavor options ≡ Ok desc → IsDescInForm desc
unfolding described
described_sound values flavor options desc h =
    let on = names_on options in
    let one = ok_parts (name_for values flavor) (λ name. entries_of values flavor on >>= λ entries. Ok (desc_with values flavor on name entries)) desc h in
    let two = ok_parts (entries_of values flavor on) (λ entries. Ok (desc_with values flavor on one.0 entries)) desc one.2 in
    subst IsDescInForm (same_ok (desc_with values flavor on one.0 two.0) desc two.2) (record {
      name = subst IsPackageName (sym (desc_with-name values flavor on one.0 two.0)) (name_case values flavor one.0 (missing values) refl one.1);
      entries = subst AreEntries (sym (desc_with-entries values flavor on one.0 two.0)) (entries_sound values flavor on two.0 two.1);
    })

-- flavors, each with whether it is the default
abbrev pub Flavored : Type 0
Flavored = Option (List ℕ) × Bool

module _ (try_broken : Bool) (origin : Origin) (vars : Vars) (options : List Switch) where
  abbrev node_name : Flavored → List ℕ
  node_name flavor = node_of (origin_name origin) flavor.0

  -- nodes are those of some flavors
  record AreNodesOf (flavors : List Flavored) (nodes : List NodeInfo) : Type 0 where
    forms : AllByRecursion IsNodeInfo nodes
    origins : AllByRecursion (λ node. node.origin ≡ origin) nodes
    names : map (λ node. node.node) nodes ≡ map node_name flavors
    defaults : map (λ node. node.is_default) nodes ≡ map (λ flavor. flavor.1) flavors

  node_sound : IsPlace origin → IsOptionList options → (flavor : Flavored) (desc : Desc) → IfSome flavor.0 (λ f. is_flavor f ≡ true) → IsDescInForm desc → IsNodeInfo (node_with try_broken origin flavor.0 flavor.1 options desc)
  node_sound place good flavor desc form d = record { origin = place; flavor = form; spelled = refl; name = d.name; entries = d.entries; options = good }

  nodes_sound : IsPlace origin → IsOptionList options → (flavors : List Flavored) (nodes : List NodeInfo) → AllByRecursion (λ flavor. IfSome flavor.0 (λ f. is_flavor f ≡ true)) flavors
      → nodes_for try_broken origin vars options flavors ≡ Ok nodes → AreNodesOf flavors nodes
  nodes_sound place good [] nodes form h = subst (AreNodesOf []) (same_ok [] nodes h) (record { forms = tt; origins = tt; names = refl; defaults = refl })
  nodes_sound place good (flavor ∷ more) nodes form h =
      let one = ok_parts (described (finite.get vars) flavor.0 options) (λ desc. nodes_for try_broken origin vars options more >>= λ nodes. Ok (node_with try_broken origin flavor.0 flavor.1 options desc ∷ nodes)) nodes h in
      let node = node_with try_broken origin flavor.0 flavor.1 options one.0 in
      let two = ok_parts (nodes_for try_broken origin vars options more) (λ nodes. Ok (node ∷ nodes)) nodes one.2 in
      let rest = nodes_sound place good more two.0 form.1 two.1 in
      subst (AreNodesOf (flavor ∷ more)) (same_ok (node ∷ two.0) nodes two.2) (record {
        forms = (node_sound place good flavor one.0 form.0 (described_sound (finite.get vars) flavor.0 options one.0 one.1), rest.forms);
        origins = (refl, rest.origins);
        names = ap (λ names. node_name flavor ∷ names) rest.names;
        defaults = ap (λ defaults. flavor.1 ∷ defaults) rest.defaults;
      })

-- names behind one beginning differ as the names do
bytes_eq-behind : (front a b : List ℕ) → bytes_eq a b ≡ false → bytes_eq (front ++ a) (front ++ b) ≡ false
bytes_eq-behind [] a b h = h
bytes_eq-behind (x ∷ front) a b h = grind (arith, nat_tests, bytes_eq-behind front a b h)

names_apart : (origin : List ℕ) (flavors : List (List ℕ)) → IsDistinct bytes_eq flavors → IsDistinct bytes_eq (map (λ (f : Flavored). node_of origin f.0) (with_default flavors))
unfolding IsDistinct
names_apart origin [] d = (tt, tt)
names_apart origin (first ∷ more) d =
    subst (IsDistinct bytes_eq) (spelled more) (distinct_mapped bytes_eq bytes_eq (λ f. origin ++ 64 ∷ f) (λ a b h. bytes_eq-behind origin (64 ∷ a) (64 ∷ b) h) (first ∷ more) d)
  where
    spelled : (more : List (List ℕ)) → map (λ f. origin ++ 64 ∷ f) (first ∷ more) ≡ map (λ (f : Flavored). node_of origin f.0) (with_default (first ∷ more))
    spelled more = ap (λ names. (origin ++ 64 ∷ first) ∷ names) (others more)
      where
        others : (more : List (List ℕ)) → map (λ f. origin ++ 64 ∷ f) more ≡ map (λ (f : Flavored). node_of origin f.0) (map other_flavor more)
        others [] = refl
        others (f ∷ more) = ap (λ names. (origin ++ 64 ∷ f) ∷ names) (others more)

-- how many pass is known by the answers
count_one : {X : Type 0} (x : X) (xs : List X) (b : Bool) → length (cond b (x ∷ xs) xs) ≡ length (cond b (b ∷ []) []) + length xs
count_one x xs true = omega arith
count_one x xs false = omega arith

abbrev count : List Bool → ℕ
count [] = 0
count (b ∷ bs) = length (cond b (b ∷ []) []) + count bs

counted : {X : Type 0} (p : X → Bool) (xs : List X) → length (filter p xs) ≡ count (map p xs)
counted p [] = refl
counted p (x ∷ xs) = count_one x (filter p xs) (p x) ∙ ap (λ n. length (cond (p x) (p x ∷ []) []) + n) (counted p xs)

no_default : (more : List (List ℕ)) → count (map (λ (f : Flavored). f.1) (map other_flavor more)) ≡ 0
no_default [] = refl
no_default (f ∷ more) = omega (arith, no_default more)

one_default : (flavors : List (List ℕ)) → count (map (λ (f : Flavored). f.1) (with_default flavors)) ≡ 1
one_default [] = refl
one_default (first ∷ more) = ap (λ n. 1 + n) (no_default more)

forms_with_default : (flavors : List (List ℕ)) → AllByRecursion (λ f. is_flavor f ≡ true) flavors → AllByRecursion (λ (f : Flavored). IfSome f.0 (λ n. is_flavor n ≡ true)) (with_default flavors)
forms_with_default [] h = (tt, tt)
forms_with_default (first ∷ more) h = (h.0, all_mapped (λ (f : Flavored). IfSome f.0 (λ n. is_flavor n ≡ true)) other_flavor more h.1)

-- the nodes of a port's flavors
pub port_sound : (try_broken : Bool) (origin : Origin) (vars : Vars) (options : List Switch) (flavors : List (List ℕ)) (nodes : List NodeInfo)
    → IsPlace origin → IsOptionList options → AreFlavors flavors → nodes_for try_broken origin vars options (with_default flavors) ≡ Ok nodes → ArePortNodes origin nodes
port_sound try_broken origin vars options flavors nodes place good form h =
    let all = nodes_sound try_broken origin vars options place good (with_default flavors) nodes (forms_with_default flavors form.forms) h in
    record {
      forms = all.forms;
      origins = all.origins;
      once = subst (IsDistinct bytes_eq) (sym all.names) (names_apart (origin_name origin) flavors form.once);
      one_default = counted (λ node. node.is_default) nodes ∙ ap count all.defaults ∙ one_default flavors;
    }

-- the flavors that a port's variables give
abbrev by_missing : Vars → Option (List ℕ) → Result (List (List ℕ)) DescError
by_missing vars lack = elim lack [
  | None ↦ flavors_of (finite.get vars)
  | Some name ↦ Err (Missing name)
]

by_flavors : (values : Values) (flavors : List (List ℕ)) → flavors_of values ≡ Ok flavors → AreFlavors flavors
unfolding flavors_of
by_flavors values flavors h = flavors_sound (words_in values (codes "FLAVORS")) flavors h

by_lack : (vars : Vars) (flavors : List (List ℕ)) (lack : Option (List ℕ)) → by_missing vars lack ≡ Ok flavors → AreFlavors flavors
by_lack vars flavors None h = by_flavors (finite.get vars) flavors h
by_lack vars flavors (Some name) h = absurd (no_err (Missing name) flavors h)

pub checked_sound : (vars : Vars) (flavors : List (List ℕ)) → checked_flavors vars ≡ Ok flavors → AreFlavors flavors
checked_sound vars flavors h = by_lack vars flavors (missing (finite.get vars)) h
