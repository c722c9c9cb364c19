-- A package without an own reason is the one that its node would have.
use Rattle.std.proofs.Common.{◌≡◌, ℕ, ◌<◌, Bool, true, false, not, List, [], ◌∷◌, length, map, get_or, refl, ap, ap₂, sym, ◌∙◌, arith, cond}
use Rattle.std.specs.Prelude.{Option, Some, None, ◌&&◌, ◌==◌, is_some, bytes_eq, position, slice_get, slice_index_or}
use Rattle.std.specs.Option.{option_or, option_and_then, option_map_or}
use Rattle.std.specs.Cmp.Lexicographic.{pointwise}
use Rattle.std.proofs.lemmas.Bool.{and_parts, eqb-true, not-false}
use Rattle.std.proofs.lemmas.List.{map-id}
use Rattle.std.proofs.lemmas.List.Quantifiers.{position-Some}
use Rattle.std.proofs.lemmas.Option.{slice_get-get_or}
use Rattle.std.proofs.lemmas.Slice.Eq.{bytes_eq-Decides}
use Rattle.bulk_base.specs.declared.file.Switch.{Switch}
use Rattle.bulk_model.specs.Digests.{is_same}
use Rattle.bulk_model.specs.Facts.{kind_number}
use Rattle.bulk_model.specs.Views.{PackageView, need_of, node_of_package}
use Rattle.bulk_model.specs.declared.depend.Depend.{Depend}
use Rattle.bulk_model.specs.declared.depend.DepKind.{DepKind}
use Rattle.bulk_model.specs.declared.depend.DepKind.TheVariants.{Pkg, Fetch, Extract, Patch, Build, Lib, Run}
use Rattle.bulk_model.specs.declared.depend.Recorded.{Recorded}
use Rattle.bulk_model.specs.declared.digest.Digest.{Digest}
use Rattle.bulk_model.specs.declared.digest.Recipes.{Recipes}
use Rattle.bulk_model.specs.declared.reason.Reason.{Reason}
use Rattle.bulk_model.specs.declared.reason.Reason.TheVariants.{NoPort}
use Rattle.dep_graph.specs.Graphs.{has}
use Rattle.tree_index.specs.Depends.{depends_of}
use Rattle.tree_index.specs.Index.{IndexView}
use Rattle.tree_index.specs.declared.node.NodeInfo.{NodeInfo}
use Rattle.stale_check.specs.Current.{IsCurrent, NoReasonIsCurrent}
use Rattle.stale_check.specs.Own.{number_of, is_same_option, is_need, has_depends, has_recipe, early_reason, late_reason, reason_of, reason_at, own}

-- ---- tests that hold make equal

kind_at : ℕ → DepKind
kind_at n =
    cond (n == 0) Pkg (cond (n == 1) Fetch (cond (n == 2) Extract (cond (n == 3) Patch (cond (n == 4) Build (cond (n == 5) Lib Run)))))

kind_back : (kind : DepKind) → kind_at (kind_number kind) ≡ kind
unfolding kind_at
kind_back Pkg = refl
kind_back Fetch = refl
kind_back Extract = refl
kind_back Patch = refl
kind_back Build = refl
kind_back Lib = refl
kind_back Run = refl

same_kind : (a b : DepKind) → (kind_number a == kind_number b) ≡ true → a ≡ b
same_kind a b h = sym (kind_back a) ∙ ap kind_at (eqb-true (kind_number a) (kind_number b) h) ∙ kind_back b

need : DepKind → List ℕ → List ℕ → Depend
need kind node name = record { kind = kind; node = node; name = name }

same_need : (r : Recorded) (d : Depend) → is_need r d ≡ true → need_of r ≡ d
unfolding need
same_need r d h =
    let kinds = and_parts (kind_number r.kind == kind_number d.kind) (bytes_eq r.node d.node && bytes_eq r.name d.name) h in
    let names = and_parts (bytes_eq r.node d.node) (bytes_eq r.name d.name) kinds.1 in
    ap (λ k. need k r.node r.name) (same_kind r.kind d.kind kinds.0)
    ∙ ap₂ (need d.kind) ((bytes_eq-Decides r.node d.node).0 names.0) ((bytes_eq-Decides r.name d.name).0 names.1)

same_state : (a b : Bool) → cond a b (not b) ≡ true → a ≡ b
same_state true true h = refl
same_state true false h = absurd cc
same_state false true h = absurd cc
same_state false false h = refl

switch : List ℕ → Bool → Switch
switch name on = record { name = name; on = on }

same_switch : (a b : Switch) → is_same_option a b ≡ true → a ≡ b
unfolding switch
same_switch a b h =
    let both = and_parts (bytes_eq a.name b.name) (cond a.on b.on (not b.on)) h in
    ap₂ switch ((bytes_eq-Decides a.name b.name).0 both.0) (same_state a.on b.on both.1)

digest : List ℕ → Digest
digest bytes = record { bytes = bytes }

same_digest : (a b : Digest) → is_same a b ≡ true → a ≡ b
unfolding digest
same_digest a b h = ap digest ((bytes_eq-Decides a.bytes b.bytes).0 h)

all_same : {A B : Type 0} (E : A → B → Bool) (f : A → B) → ((x : A) (y : B) → E x y ≡ true → f x ≡ y) → (xs : List A) (ys : List B) → pointwise E xs ys ≡ true → map f xs ≡ ys
all_same E f same [] [] h = refl
all_same E f same [] (y ∷ ys) h = absurd cc
all_same E f same (x ∷ xs) [] h = absurd cc
all_same E f same (x ∷ xs) (y ∷ ys) h =
    let both = and_parts (E x y) (pointwise E xs ys) h in
    ap₂ (λ z zs. z ∷ zs) (same x y both.0) (all_same E f same xs ys both.1)

-- ---- none of the reasons holds

unless : (b : Bool) (reason : Reason) (rest : Option Reason) → cond b (Some reason) rest ≡ None → (b ≡ false) × (rest ≡ None)
unless true reason rest e = absurd cc
unless false reason rest e = (refl, e)

neither : (a b : Option Reason) → option_or a b ≡ None → (a ≡ None) × (b ≡ None)
neither None b e = (refl, e)
neither (Some x) b e = absurd cc

position_below : {X : Type 0} (p : X → Bool) (xs : List X) (n : ℕ) → position p xs ≡ Some n → n < length xs
position_below p [] n e = absurd cc
position_below p (x ∷ xs) n e = (position-Some p (x ∷ xs) n x e).0

some_of : {X : Type 0} (xs : List X) (n : ℕ) → n < length xs → (x : X) × (slice_get xs n ≡ Some x)
some_of [] n l = absurd (omega arith)
some_of (x ∷ xs) n l = (get_or (x ∷ xs) n x, slice_get-get_or (x ∷ xs) n x l)

module _ (index : IndexView) (asked : List ℕ) (recipes : Recipes) (p : PackageView) (n : ℕ) where
  depends_case : (o : Option (List Depend)) → depends_of index n ≡ o → option_map_or (pointwise is_need p.depends) o false ≡ true → depends_of index n ≡ Some (map need_of p.depends)
  depends_case None e h = absurd cc
  depends_case (Some ds) e h = e ∙ ap Some (sym (all_same is_need need_of same_need p.depends ds h))

  recipe_case : (o : Option Digest) → slice_index_or recipes.digests n None ≡ o → option_map_or (is_same p.recipe) o false ≡ true → slice_index_or recipes.digests n None ≡ Some p.recipe
  recipe_case None e h = absurd cc
  recipe_case (Some d) e h = e ∙ ap Some (sym (same_digest p.recipe d h))

  current : (node : NodeInfo) → number_of index.nodes p ≡ Some n → slice_get index.nodes n ≡ Some node → reason_of index asked recipes p n node ≡ None → IsCurrent index asked recipes p n node
  current node number there e =
      let both = neither (early_reason (has asked n) node p) (late_reason index recipes p n) e in
      let a = unless (has asked n) _ _ both.0 in
      let b = unless (is_some node.ignored) _ _ a.1 in
      let c = unless (not (bytes_eq p.name node.desc.name)) _ _ b.1 in
      let d = unless (not (pointwise is_same_option p.options node.options)) _ _ c.1 in
      let f = unless (not (has_depends index p n)) _ _ both.1 in
      let g = unless (not (has_recipe recipes p n)) _ _ f.1 in
      record {
        number = number;
        there = there;
        unasked = a.0;
        allowed = b.0;
        name = (bytes_eq-Decides p.name node.desc.name).0 (not-false (bytes_eq p.name node.desc.name) c.0);
        options = sym (map-id p.options) ∙ all_same is_same_option (λ o. o) same_switch p.options node.options (not-false (pointwise is_same_option p.options node.options) d.0);
        depends = depends_case (depends_of index n) refl (not-false (has_depends index p n) f.0);
        recipe = recipe_case (slice_index_or recipes.digests n None) refl (not-false (has_recipe recipes p n) g.0);
      }

  at_number : number_of index.nodes p ≡ Some n → reason_at index asked recipes p n ≡ None → (node : NodeInfo) × IsCurrent index asked recipes p n node
  unfolding reason_at
  at_number number e =
      let within : n < length index.nodes = position_below (λ node. bytes_eq (node_of_package p) node.node) index.nodes n number in
      let at = some_of index.nodes n within in
      (at.0, current at.0 number at.1 (sym (ap (option_and_then (reason_of index asked recipes p n)) at.1) ∙ e))

by_number : (index : IndexView) (asked : List ℕ) (recipes : Recipes) (p : PackageView) (o : Option ℕ) → number_of index.nodes p ≡ o
    → option_map_or (reason_at index asked recipes p) o (Some NoPort) ≡ None → (n : ℕ) × (node : NodeInfo) × IsCurrent index asked recipes p n node
by_number index asked recipes p None number e = absurd cc
by_number index asked recipes p (Some n) number e = let at = at_number index asked recipes p n number e in (n, at.0, at.1)

pub no_reason_is_current : NoReasonIsCurrent
unfolding own
no_reason_is_current index asked recipes p e = by_number index asked recipes p (number_of index.nodes p) refl e
