-- Words in byte order, each once, are known by which words there are.
use Rattle.std.proofs.Common.{◌≡◌, ℕ, Bool, true, false, List, [], ◌∷◌, ◌∙◌, ap, refl, sym, cond, subst, arith}
use Rattle.std.specs.Prelude.{Option, Some, None, map, is_some, bytes_eq, ◌||◌}
use Rattle.std.specs.List.{fold, list_any}
use Rattle.std.specs.Ordering.{nat_cmp, eq_by_cmp}
use Rattle.std.specs.Cmp.Lexicographic.{slice_cmp, nat_list_cmp_total, texts_ties}
use Rattle.std.specs.FinMap as finite
use Rattle.std.specs.FinMap.{slice_cmp-IsAntisymmetric, nat_cmp-IsAntisymmetric, same_map, get-insert, contains_key-keys}
use Rattle.std.specs.List.Sorted.{IsStrictlySortedBy}
use Rattle.bulk_base.proofs.MapView.{order, view, entries-view}
use Rattle.port_name.specs.Sets.{is_among}
use Rattle.port_name.proofs.SetView.{among_keys}
use Rattle.bulk_base.specs.Order.{TextSet as Words, set_of, in_order}

insert_case : (t : Bool) (o : Option (Unit {0})) → is_some (cond t (Some tt) o) ≡ (t || is_some o)
insert_case true o = refl
insert_case false o = refl

has_inserted : (set : Words) (word name : List ℕ) → finite.contains_key (finite.insert set word tt) name ≡ (bytes_eq name word || finite.contains_key set name)
has_inserted set word name =
    ap is_some (get-insert nat_list_cmp_total set word tt name) ∙ insert_case (eq_by_cmp order name word) (finite.get set name)
    ∙ ap (λ t. t || finite.contains_key set name) (sym (texts_ties name word))

turned : (a b c : Bool) → (a || (b || c)) ≡ ((b || a) || c)
turned a b c = grind arith

has_folded : (words : List (List ℕ)) (set : Words) (name : List ℕ) → finite.contains_key (fold (λ words word. finite.insert words word tt) set words) name
    ≡ (is_among words name || finite.contains_key set name)
has_folded [] set name = refl
has_folded (word ∷ words) set name =
    has_folded words (finite.insert set word tt) name ∙ ap (λ b. is_among words name || b) (has_inserted set word name)
    ∙ turned (is_among words name) (bytes_eq name word) (finite.contains_key set name)

or_false : (a : Bool) → (a || false) ≡ a
or_false a = grind arith

has_words : (words : List (List ℕ)) (name : List ℕ) → finite.contains_key (set_of words) name ≡ is_among words name
has_words words name =
    has_folded words finite.empty name ∙ ap (λ o. is_among words name || is_some o) (finite.get-empty order name) ∙ or_false (is_among words name)

same_unit : (a b : Option (Unit {0})) → is_some a ≡ is_some b → a ≡ b
same_unit None None e = refl
same_unit (Some x) (Some y) e = refl
same_unit None (Some y) e = cc
same_unit (Some x) None e = cc

abbrev with_units : List (List ℕ) → List (List ℕ × Unit {0})
with_units names = map (λ name. (name, tt)) names

keys_with_units : (names : List (List ℕ)) → map (λ e. e.0) (with_units names) ≡ names
keys_with_units [] = refl
keys_with_units (name ∷ names) = ap (λ more. name ∷ more) (keys_with_units names)

keys_again : (names : List (List ℕ)) → IsStrictlySortedBy order names → finite.keys (view (with_units names)) ≡ names
keys_again names sorted =
    ap (map (λ e. e.0)) (entries-view (with_units names) (subst (IsStrictlySortedBy order) (sym (keys_with_units names)) sorted)) ∙ keys_with_units names

-- names in byte order, each once, are some words in order where they are the same
pub in_order_are : (words names : List (List ℕ)) → IsStrictlySortedBy (slice_cmp nat_cmp) names → ((name : List ℕ) → is_among names name ≡ is_among words name) → names ≡ in_order words
unfolding in_order
in_order_are words names sorted same =
    sym (keys_again names sorted)
    ∙ ap finite.keys (same_map nat_list_cmp_total (slice_cmp-IsAntisymmetric nat_cmp-IsAntisymmetric) (view (with_units names)) (set_of words) (λ name.
    same_unit (finite.get (view (with_units names)) name) (finite.get (set_of words) name)
    (contains_key-keys (view (with_units names)) name ∙ ap (list_any (eq_by_cmp order name)) (keys_again names sorted) ∙ among_keys name names ∙ same name ∙ sym (has_words words name))))
