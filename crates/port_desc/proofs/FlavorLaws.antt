-- What holds of every list of flavors that FLAVORS gives.
use Rattle.std.proofs.Common.{◌≡◌, ℕ, Bool, true, false, List, [], ◌∷◌, ◌++◌, cond, ap, sym, subst, ◌∙◌, refl, Ok, Err, Option, Some, None, Result}
use Rattle.std.specs.Prelude.{not, ◌||◌, bytes_eq, codes}
use Rattle.std.specs.List.{AllByRecursion, IsDistinct}
use Rattle.std.specs.Cmp.Lexicographic.{nat_list_eq_equiv}
use Rattle.std.proofs.lemmas.List.Folds.{list_any-append}
use Rattle.bulk_base.specs.Names.{is_flavor}
use Rattle.port_name.specs.Sets.{is_among}
use Rattle.port_desc.specs.declared.fault.DescError.{DescError}
use Rattle.port_desc.specs.declared.fault.DescError.TheVariants.{BadFlavor}
use Rattle.port_desc.specs.Flavors.{is_bad_flavor, first_bad_flavor, checked_flavors, AreFlavors}
use Rattle.port_desc.proofs.Lists.{all_weaker}
use Rattle.port_desc.proofs.Refused.{same_ok, no_err}

good_word : (a b c : Bool) → (not a || b || c) ≡ false → (a ≡ true) × (b ≡ false) × (c ≡ false)
good_word true false false h = (refl, refl, refl)
good_word true false true h = cc
good_word true true c h = cc
good_word false b c h = cc

-- a word that may stand behind some flavors
abbrev Stands : List (List ℕ) → List ℕ → Type 0
Stands before word = (is_flavor word ≡ true) × (bytes_eq word (codes "all") ≡ false) × (is_among before word ≡ false)

apart : (a b : Bool) → (a || (b || false)) ≡ false → (a ≡ false) × (b ≡ false)
apart true b h = cc
apart false true h = cc
apart false false h = (refl, refl)

not_among : (before : List (List ℕ)) (word other : List ℕ) → is_among (before ++ word ∷ []) other ≡ false → (is_among before other ≡ false) × (bytes_eq word other ≡ false)
not_among before word other h =
    let parts = apart (is_among before other) (bytes_eq other word) (sym (list_any-append (bytes_eq other) before (word ∷ [])) ∙ h) in
    (parts.0, nat_list_eq_equiv.symm word other ∙ parts.1)

not_bad : (before : List (List ℕ)) (word : List ℕ) (more : List (List ℕ)) (b : Bool) → is_bad_flavor before word ≡ b
    → cond b (Some word) (first_bad_flavor (before ++ word ∷ []) more) ≡ None → (is_bad_flavor before word ≡ false) × (first_bad_flavor (before ++ word ∷ []) more ≡ None)
not_bad before word more true e h = cc
not_bad before word more false e h = (e, h)

-- where none is bad each may stand behind those before it
all_stand : (before words : List (List ℕ)) → first_bad_flavor before words ≡ None → AllByRecursion (Stands before) words × IsDistinct bytes_eq words
unfolding IsDistinct
all_stand before [] h = (tt, tt)
all_stand before (word ∷ more) h =
    let here = not_bad before word more (is_bad_flavor before word) refl h in
    let rest = all_stand (before ++ word ∷ []) more here.1 in (
      (
        good_word (is_flavor word) (bytes_eq word (codes "all")) (is_among before word) here.0,
        all_weaker (Stands (before ++ word ∷ [])) (Stands before) (λ other s. (s.0, s.1, (not_among before word other s.2).0)) more rest.0,
      ),
      (all_weaker (Stands (before ++ word ∷ [])) (λ other. bytes_eq word other ≡ false) (λ other s. (not_among before word other s.2).1) more rest.0, rest.1),
    )

abbrev by_bad : List (List ℕ) → Option (List ℕ) → Result (List (List ℕ)) DescError
by_bad words first = elim first [
  | None ↦ Ok words
  | Some word ↦ Err (BadFlavor word)
]

told : (words : List (List ℕ)) (first : Option (List ℕ)) → first_bad_flavor [] words ≡ first → checked_flavors words ≡ by_bad words first
told words first e = ap (by_bad words) e

by_first : (words flavors : List (List ℕ)) (first : Option (List ℕ)) → first_bad_flavor [] words ≡ first → checked_flavors words ≡ Ok flavors → (first_bad_flavor [] words ≡ None) × (words ≡ flavors)
by_first words flavors None e h = (e, same_ok words flavors (sym (told words None e) ∙ h))
by_first words flavors (Some word) e h = absurd (no_err (BadFlavor word) flavors (sym (told words (Some word) e) ∙ h))

-- what FLAVORS gives
pub flavors_sound : (words flavors : List (List ℕ)) → checked_flavors words ≡ Ok flavors → AreFlavors flavors
flavors_sound words flavors h =
    let good = by_first words flavors (first_bad_flavor [] words) refl h in
    let all = all_stand [] words good.0 in
    subst AreFlavors good.1 (record {
      forms = all_weaker (Stands []) (λ flavor. is_flavor flavor ≡ true) (λ flavor s. s.0) words all.0;
      none_all = all_weaker (Stands []) (λ flavor. bytes_eq flavor (codes "all") ≡ false) (λ flavor s. s.1) words all.0;
      once = all.1;
    })
