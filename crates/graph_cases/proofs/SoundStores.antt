-- The empty store is sound, and so is that of one port without dependencies.
use Rattle.std.proofs.Common.{◌≡◌, ℕ, suc, zero, List, [], ◌∷◌, length, arith, refl, ap, sym, subst, ◌∙◌}
use Rattle.std.specs.Prelude.{codes, Contains}
use Rattle.std.specs.List.Sorted.{IsStrictlySortedBy}
use Rattle.std.specs.Prelude.{filter, map}
use Rattle.std.specs.List.{filter_map}
use Rattle.std.specs.Cmp.Lexicographic.{slice_cmp}
use Rattle.std.specs.Ordering.{nat_cmp}
use Rattle.std.specs.FinMap.{empty, entries, len-entries, len-empty}
use Rattle.std.proofs.lemmas.List.{nil_from_length}
use Rattle.bulk_base.specs.Path.{is_below}
use Rattle.outside.specs.Contents.{Contents}
use Rattle.bulk_model.specs.declared.outcome.Outcome.TheVariants.{Built}
use Rattle.bulk_model.specs.Among.{Installed, direct, later, AreInstalls, AreInOrder}
use Rattle.bulk_model.specs.Bake.{bake, packed, first_folder}
use Rattle.bulk_model.specs.Files.{file_at}
use Rattle.bulk_model.specs.Sound.{Recipe, IsMade, IsSound, recipe_of}
use Rattle.bulk_model.specs.Views.{PackageView}
use Rattle.graph_cases.specs.Examples.{still, port, plain}

pub empty_is_sound : (table : List Recipe) → IsSound still table []
empty_is_sound table some within closed p c = let k = within p c in absurd (omega (arith, k.1))

abbrev x : PackageView
x = plain (codes "x")

-- nothing is installed for a package without dependencies
none_installed : (members : List PackageView) (p q : PackageView) → p.depends ≡ [] → Installed members p q → ⊥
none_installed members p q e (direct depend c m r) = let k = c.1 in let s = ap length e in absurd (omega arith)
none_installed members p q e (later depend i c l m r) = none_installed members p _ e i

none_in_order : AreInOrder []
unfolding IsStrictlySortedBy
none_in_order = tt

no_installs : (members : List PackageView) → AreInstalls members x []
no_installs members = record {
  order = none_in_order;
  only = λ q c. absurd (let k = c.1 in omega arith);
  all = λ q i. absurd (none_installed members x q refl i);
}

only_member : (p : PackageView) → Contains (x ∷ []) p → p ≡ x
only_member p (zero, l, e) = sym e
only_member p (suc k, l, e) = absurd (omega arith)

entries-empty : entries (empty {X = List ℕ} {R = slice_cmp nat_cmp}) ≡ []
entries-empty = nil_from_length _ (sym (len-entries empty) ∙ len-empty (slice_cmp nat_cmp) (List ℕ))

folder : Contents
folder = first_folder [] [] (port (codes "x"))

built : bake still [] (port (codes "x")) [] ≡ Built x
unfolding folder
built =
    ap (λ (es : List (List ℕ × List ℕ)). packed [] (port (codes "x")) [] (filter_map (file_at (codes "stage") folder) (filter (is_below (codes "stage")) (map (λ e. e.0) es))))
    entries-empty

made : (some : List PackageView) → IsMade still (recipe_of [] (port (codes "x")) ∷ []) some x
made some = record {
  recipe = recipe_of [] (port (codes "x"));
  stands = (0, omega arith, refl);
  digest = refl;
  packages = [];
  installed = no_installs some;
  made = built;
}

pub one_is_sound : IsSound still (recipe_of [] (port (codes "x")) ∷ []) (x ∷ [])
one_is_sound some within closed p c = subst (IsMade still (recipe_of [] (port (codes "x")) ∷ []) some) (sym (only_member p (within p c))) (made some)
