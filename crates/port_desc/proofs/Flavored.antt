-- What the loop over FLAVORS keeps.
use Rattle.std.proofs.Common.{◌≡◌, ℕ, ◌+◌, ◌<◌, ◌≤◌, true, false, List, [], ◌∷◌, ◌++◌, length, get_or, take, drop, cond, ap, sym, ◌∙◌, refl, Ok, Err, Option, Some, None, Result}
use Rattle.std.specs.Prelude.{not, ◌||◌, bytes_eq, codes}
use Rattle.std.proofs.lemmas.List.{drop_all}
use Rattle.std.proofs.lemmas.List.Folds.{list_any-append}
use Rattle.bulk_base.specs.Names.{is_flavor}
use Rattle.port_name.specs.Sets.{is_among}
use Rattle.port_desc.specs.declared.fault.DescError.{DescError}
use Rattle.port_desc.specs.declared.fault.DescError.TheVariants.{BadFlavor}
use Rattle.port_desc.specs.Flavors.{is_bad_flavor, first_bad_flavor, checked_flavors}
use Rattle.port_desc.proofs.Turns.{taken_more, left_more}

-- the same texts are among two lists
abbrev pub Alike : List (List ℕ) → List (List ℕ) → Type 0
Alike a b = (name : List ℕ) → is_among a name ≡ is_among b name

-- lists with the same texts have the same with one more
pub alike_more : (a b c d : List (List ℕ)) (text : List ℕ) → Alike a b → Alike c (a ++ text ∷ []) → d ≡ b ++ text ∷ [] → Alike c d
alike_more a b c d text same more e = λ name.
    more name ∙ list_any-append (bytes_eq name) a (text ∷ [])
    ∙ ap (λ t. t || is_among (text ∷ []) name) (same name)
    ∙ sym (list_any-append (bytes_eq name) b (text ∷ []))
    ∙ ap (λ texts. is_among texts name) (sym e)

bad_alike : (a b : List (List ℕ)) (word : List ℕ) → Alike a b → is_bad_flavor a word ≡ is_bad_flavor b word
bad_alike a b word same = ap (λ t. not (is_flavor word) || bytes_eq word (codes "all") || t) (same word)

-- the flavors so far are known, and no word so far is bad
pub record FlavorsSoFar (words before : List (List ℕ)) (at : ℕ) : Type 0 where
  pub same : Alike before (take at words)
  pub rest : first_bad_flavor (take at words) (drop at words) ≡ first_bad_flavor [] words

pub flavors_begin : (words before : List (List ℕ)) → before ≡ [] → FlavorsSoFar words before 0
flavors_begin words before e = record { same = λ name. ap (λ texts. is_among texts name) e; rest = refl }

next_is : (words before : List (List ℕ)) (at : ℕ) (word : List ℕ) → at < length words → word ≡ get_or words at word → FlavorsSoFar words before at
    → cond (is_bad_flavor before word) (Some word) (first_bad_flavor (take (at + 1) words) (drop (at + 1) words)) ≡ first_bad_flavor [] words
next_is words before at word l e so_far =
    ap (λ b. cond b (Some word) (first_bad_flavor (take (at + 1) words) (drop (at + 1) words))) (bad_alike before (take at words) word so_far.same)
    ∙ ap (λ front. cond (is_bad_flavor (take at words) word) (Some word) (first_bad_flavor front (drop (at + 1) words))) (taken_more words at word l e)
    ∙ ap (first_bad_flavor (take at words)) (sym (left_more words at word l e))
    ∙ so_far.rest

pub flavors_more : (words before longer : List (List ℕ)) (at : ℕ) (word : List ℕ) → at < length words → word ≡ get_or words at word → is_bad_flavor before word ≡ false
    → Alike longer (before ++ word ∷ []) → FlavorsSoFar words before at → FlavorsSoFar words longer (at + 1)
flavors_more words before longer at word l e good more so_far = record {
  same = alike_more before (take at words) longer (take (at + 1) words) word so_far.same more (taken_more words at word l e);
  rest =
      sym (ap (λ b. cond b (Some word) (first_bad_flavor (take (at + 1) words) (drop (at + 1) words))) good)
      ∙ next_is words before at word l e so_far;
}

abbrev by_first : List (List ℕ) → Option (List ℕ) → Result (List (List ℕ)) DescError
by_first words first = elim first [
  | None ↦ Ok words
  | Some word ↦ Err (BadFlavor word)
]

pub flavor_refused : (words before : List (List ℕ)) (at : ℕ) (word : List ℕ) → at < length words → word ≡ get_or words at word → is_bad_flavor before word ≡ true
    → FlavorsSoFar words before at → checked_flavors words ≡ Err (BadFlavor word)
flavor_refused words before at word l e bad so_far =
    ap (by_first words)
    (sym (next_is words before at word l e so_far)
    ∙ ap (λ b. cond b (Some word) (first_bad_flavor (take (at + 1) words) (drop (at + 1) words))) bad)

pub flavors_end : (words before : List (List ℕ)) (at : ℕ) → length words ≤ at → FlavorsSoFar words before at → checked_flavors words ≡ Ok words
flavors_end words before at l so_far =
    ap (by_first words) (sym so_far.rest ∙ ap (first_bad_flavor (take at words)) (drop_all at words l))
