-- The options of a port are in form.
use Rattle.std.proofs.Common.{◌≡◌, ℕ, Bool, true, false, List, [], ◌∷◌, ◌++◌, ap, subst, sym, ◌∙◌, refl, Ok, Option, Some, None}
use Rattle.std.specs.Prelude.{map, not, cond, codes}
use Rattle.std.specs.Option.{option_or}
use Rattle.std.specs.List.{list_all}
use Rattle.std.proofs.lemmas.Bool.{and_parts, and_from}
use Rattle.std.proofs.lemmas.List.Folds.{list_all-append}
use Rattle.bulk_base.specs.Names as names
use Rattle.bulk_base.specs.declared.file.Switch.{Switch}
use Rattle.bulk_model.specs.Facts.{IsOptionList}
use Rattle.outside.specs.Contents.{IsAscending}
use Rattle.port_vars.specs.Variables.{Vars}
use Rattle.port_desc.proofs.Refused.{same_ok, no_err}
use Rattle.option_set.specs.declared.fault.OptionError.{OptionError}
use Rattle.option_set.specs.declared.layers.Layers.{Layers}
use Rattle.bulk_base.specs.Names.{is_option_name}
use Rattle.option_set.specs.Defined.{defining, defining_words, option_words, options_of, groups_in, words_of_groups, members_of}
use Rattle.port_vars.specs.ValueWords.{words_in}
use Rattle.option_set.specs.Implied.{on_in}
use Rattle.option_set.specs.Refused.{words_refused, state_refused, no_name, too_many, undefined, not_defined, naming_words}
use Rattle.option_set.specs.Chosen.{chosen, switches, unless}
use Rattle.port_name.specs.Sets.{is_among}
use Rattle.bulk_base.proofs.InOrder.{list_all-in_order, in_order-ascends}

none_bad : (good : Bool) (word : List ℕ) (rest : Option (List ℕ)) → cond (not good) (Some word) rest ≡ None → (good ≡ true) × (rest ≡ None)
none_bad true word rest h = (refl, h)
none_bad false word rest h = cc

all_named : (words : List (List ℕ)) → no_name words ≡ None → list_all is_option_name words ≡ true
all_named [] h = refl
all_named (word ∷ words) h =
    let m = none_bad (is_option_name word) word (no_name words) h in
    and_from (is_option_name word) (list_all is_option_name words) m.0 (all_named words m.1)

-- what all defining words pass, all options pass
module _ (p : List ℕ → Bool) where
  halves : (a b : List (List ℕ)) → list_all p (a ++ b) ≡ true → (list_all p a ≡ true) × (list_all p b ≡ true)
  halves a b h = and_parts (list_all p a) (list_all p b) (sym (list_all-append p a b) ∙ h)

  joined : (a b : List (List ℕ)) → list_all p a ≡ true → list_all p b ≡ true → list_all p (a ++ b) ≡ true
  joined a b h k = list_all-append p a b ∙ and_from (list_all p a) (list_all p b) h k

  -- words of which some name groups
  without_names : (words options names members : List (List ℕ)) → (list_all p words ≡ true → list_all p options ≡ true)
      → list_all p (words ++ (names ++ members)) ≡ true → list_all p (options ++ members) ≡ true
  without_names words options names members f h =
      let m = halves words (names ++ members) h in
      joined options members (f m.0) (halves names members m.1).1

  module _ (vars : Vars) where
    behind_groups : (words options : List (List ℕ)) (variable prefix : List ℕ) → (list_all p words ≡ true → list_all p options ≡ true)
        → list_all p (words ++ words_of_groups (groups_in vars variable prefix)) ≡ true → list_all p (options ++ members_of (groups_in vars variable prefix)) ≡ true
    behind_groups words options variable prefix f h =
        without_names words options (map (λ group. group.name) (groups_in vars variable prefix)) (members_of (groups_in vars variable prefix)) f h

    abbrev any_words : List (List ℕ)
    any_words = words_in vars (codes "OPTIONS_DEFINE") ++ words_of_groups (groups_in vars (codes "OPTIONS_GROUP") (codes "OPTIONS_GROUP_"))

    abbrev any_options : List (List ℕ)
    any_options = words_in vars (codes "OPTIONS_DEFINE") ++ members_of (groups_in vars (codes "OPTIONS_GROUP") (codes "OPTIONS_GROUP_"))

    abbrev single_words : List (List ℕ)
    single_words = any_words ++ words_of_groups (groups_in vars (codes "OPTIONS_SINGLE") (codes "OPTIONS_SINGLE_"))

    abbrev single_options : List (List ℕ)
    single_options = any_options ++ members_of (groups_in vars (codes "OPTIONS_SINGLE") (codes "OPTIONS_SINGLE_"))

    abbrev radio_words : List (List ℕ)
    radio_words = single_words ++ words_of_groups (groups_in vars (codes "OPTIONS_RADIO") (codes "OPTIONS_RADIO_"))

    abbrev radio_options : List (List ℕ)
    radio_options = single_options ++ members_of (groups_in vars (codes "OPTIONS_RADIO") (codes "OPTIONS_RADIO_"))

    options_pass : list_all p (defining_words (defining vars)) ≡ true → list_all p (option_words (defining vars)) ≡ true
    options_pass =
        behind_groups radio_words radio_options (codes "OPTIONS_MULTI") (codes "OPTIONS_MULTI_")
        (behind_groups single_words single_options (codes "OPTIONS_RADIO") (codes "OPTIONS_RADIO_")
        (behind_groups any_words any_options (codes "OPTIONS_SINGLE") (codes "OPTIONS_SINGLE_")
        (behind_groups (words_in vars (codes "OPTIONS_DEFINE")) (words_in vars (codes "OPTIONS_DEFINE")) (codes "OPTIONS_GROUP") (codes "OPTIONS_GROUP_") (λ h. h))))

first_none : {A : Type 0} (a b : Option A) → option_or a b ≡ None → (a ≡ None) × (b ≡ None)
first_none None b h = (refl, h)
first_none (Some x) b h = cc

no_word : (word : Option (List ℕ)) → undefined word ≡ None → word ≡ None
no_word None h = refl
no_word (Some word) h = cc

names_good : (vars : Vars) (options : List (List ℕ)) → words_refused vars (defining vars) options ≡ None → no_name (defining_words (defining vars)) ≡ None
unfolding words_refused
names_good vars options h =
    let a = first_none (too_many options) (option_or (undefined (no_name (defining_words (defining vars)))) (undefined (not_defined (is_among options) (naming_words vars options)))) h in
    let b = first_none (undefined (no_name (defining_words (defining vars)))) (undefined (not_defined (is_among options) (naming_words vars options))) a.1 in
    no_word (no_name (defining_words (defining vars))) b.0

allowed : {A : Type 0} (refusal : Option OptionError) (a b : A) → unless refusal a ≡ Ok b → (refusal ≡ None) × (a ≡ b)
allowed None a b h = (refl, same_ok a b h)
allowed (Some e) a b h = absurd (no_err e b h)

switched : (options on : List (List ℕ)) → map (λ (s : Switch). s.name) (switches options on) ≡ options
switched [] on = refl
switched (name ∷ options) on = ap (λ names. name ∷ names) (switched options on)

-- options that are chosen
pub chosen_sound : (vars : Vars) (layers : Layers) (options : List Switch) → chosen vars layers ≡ Ok options → IsOptionList options
unfolding chosen
chosen_sound vars layers options h =
    let defined = options_of (defining vars) in
    let words = option_words (defining vars) in
    let on = on_in vars defined layers in
    let m = allowed (option_or (words_refused vars (defining vars) defined) (state_refused vars (defining vars) on)) (switches defined on) options h in
    let refused = first_none (words_refused vars (defining vars) defined) (state_refused vars (defining vars) on) m.0 in
    let named : list_all is_option_name defined ≡ true = list_all-in_order is_option_name words (options_pass is_option_name vars (all_named (defining_words (defining vars)) (names_good vars defined refused.0))) in
    subst IsOptionList m.1 (record {
      order = subst IsAscending (sym (switched defined on)) (in_order-ascends words);
      forms = ap (list_all names.is_option_name) (switched defined on) ∙ named;
    })
