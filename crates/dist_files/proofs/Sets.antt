-- A name is in the set of the entries' files where an entry has it.
use Rattle.std.proofs.Common.{◌≡◌, ℕ, Bool, List, [], ◌∷◌, ap, ap₂, sym, ◌∙◌, refl}
use Rattle.std.specs.Prelude.{map as each, filter, not, ◌||◌, bytes_eq}
use Rattle.std.specs.List.{list_any}
use Rattle.std.specs.Ordering.{eq_by_cmp}
use Rattle.std.specs.Cmp.{eq_by_cmp_equiv}
use Rattle.std.specs.Cmp.Lexicographic.{nat_list_cmp_total, texts_ties}
use Rattle.std.specs.FinMap as map
use Rattle.std.proofs.Math.Path.{fun_ext}
use Rattle.bulk_base.specs.Order.{TextSet, set_of, in_order}
use Rattle.bulk_base.proofs.InOrder.{list_any-set_of}
use Rattle.bulk_base.proofs.MapView.{order}
use Rattle.dist_files.specs.declared.dist.Dist.{Dist}
use Rattle.dist_files.specs.Checked.{is_named, is_in_set, unnamed}

same_name : (key name : List ℕ) → eq_by_cmp order name key ≡ bytes_eq key name
same_name key name = (eq_by_cmp_equiv nat_list_cmp_total).symm name key ∙ sym (texts_ties key name)

any_named : (dists : List Dist) (name : List ℕ) → list_any (eq_by_cmp order name) (each (λ d. d.file) dists) ≡ is_named dists name
any_named [] name = refl
any_named (d ∷ dists) name = ap₂ (λ a b. a || b) (same_name d.file name) (any_named dists name)

named_is : (dists : List Dist) (name : List ℕ) → is_in_set (set_of (each (λ d. d.file) dists)) name ≡ is_named dists name
named_is dists name =
    map.contains_key-keys (set_of (each (λ d. d.file) dists)) name
    ∙ list_any-set_of (eq_by_cmp order name) (each (λ d. d.file) dists)
    ∙ any_named dists name

pub unnamed_is : (names left : List (List ℕ)) (dists : List Dist) (files : TextSet) → files ≡ set_of (each (λ d. d.file) dists)
    → left ≡ filter (λ name. not (is_in_set files name)) names → in_order left ≡ unnamed names dists
unnamed_is names left dists files e h =
    ap in_order h
    ∙ ap (λ set. in_order (filter (λ name. not (is_in_set set name)) names)) e
    ∙ ap (λ (test : List ℕ → Bool). in_order (filter (λ name. not (test name)) names)) (fun_ext (named_is dists))
