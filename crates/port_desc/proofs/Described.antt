-- A description, step by step.
use Rattle.std.proofs.Common.{◌≡◌, ℕ, List, ◌∙◌, refl, Ok, Err, Option}
use Rattle.bulk_base.specs.declared.file.Switch.{Switch}
use Rattle.port_vars.specs.Reference.{Values}
use Rattle.port_vars.specs.Assignment.{◌>>=◌}
use Rattle.port_desc.specs.declared.fault.DescError.{DescError}
use Rattle.port_desc.specs.declared.entry.Entry.{Entry}
use Rattle.port_desc.specs.Values.{names_on}
use Rattle.port_desc.specs.Naming.{name_for}
use Rattle.port_desc.specs.Dependencies.{entries_of}
use Rattle.port_desc.specs.Description.{desc_with, described}
use Rattle.port_desc.proofs.Refused.{ok_then, err_then}

module _ (values : Values) (flavor : Option (List ℕ)) (options : List Switch) where
  pub name_refused : (e : DescError) → name_for values flavor ≡ Err e → described values flavor options ≡ Err e
  unfolding described
  name_refused e h = err_then (name_for values flavor) (λ name. entries_of values flavor (names_on options) >>= λ entries. Ok (desc_with values flavor (names_on options) name entries)) e h

  pub entries_refused : (name : List ℕ) (e : DescError) → name_for values flavor ≡ Ok name → entries_of values flavor (names_on options) ≡ Err e → described values flavor options ≡ Err e
  unfolding described
  entries_refused name e n h =
      ok_then (name_for values flavor) (λ name. entries_of values flavor (names_on options) >>= λ entries. Ok (desc_with values flavor (names_on options) name entries)) name n
      ∙ err_then (entries_of values flavor (names_on options)) (λ entries. Ok (desc_with values flavor (names_on options) name entries)) e h

  pub all_good : (name : List ℕ) (entries : List Entry) → name_for values flavor ≡ Ok name → entries_of values flavor (names_on options) ≡ Ok entries
      → described values flavor options ≡ Ok (desc_with values flavor (names_on options) name entries)
  unfolding described
  all_good name entries n h =
      ok_then (name_for values flavor) (λ name. entries_of values flavor (names_on options) >>= λ entries. Ok (desc_with values flavor (names_on options) name entries)) name n
      ∙ ok_then (entries_of values flavor (names_on options)) (λ entries. Ok (desc_with values flavor (names_on options) name entries)) entries h

pub desc_with-name : (values : Values) (flavor : Option (List ℕ)) (on : List (List ℕ)) (name : List ℕ) (entries : List Entry) → (desc_with values flavor on name entries).name ≡ name
unfolding desc_with
desc_with-name values flavor on name entries = refl

pub desc_with-entries : (values : Values) (flavor : Option (List ℕ)) (on : List (List ℕ)) (name : List ℕ) (entries : List Entry) → (desc_with values flavor on name entries).entries ≡ entries
unfolding desc_with
desc_with-entries values flavor on name entries = refl
