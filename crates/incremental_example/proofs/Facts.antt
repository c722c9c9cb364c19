-- The diamond is a plan of its tree, and the recipes are a table of both trees.
use Rattle.std.proofs.Common.{◌≡◌, ℕ, zero, suc, ◌<◌, Bool, true, false, List, [], ◌∷◌, refl, ap, sym, subst, ◌∙◌, arith, inl, inr}
use Rattle.std.specs.Prelude.{map, bytes_eq, IsTrue, Contains}
use Rattle.std.specs.List.{IsDistinct, AllByRecursion, All}
use Rattle.std.specs.List.Sorted.{IsStrictlySortedBy}
use Rattle.std.specs.Cmp.Lexicographic.{slice_cmp}
use Rattle.std.specs.Ordering.{nat_cmp, is_lt}
use Rattle.std.proofs.lemmas.Bool.{true≢false}
use Rattle.std.proofs.lemmas.Slice.Eq.{bytes_eq-Decides}
use Rattle.bulk_base.proofs.Members.{contains_cases, contains_none, contains_map, map_contains, Source}
use Rattle.bulk_model.specs.PlanFacts.{IsPlan}
use Rattle.bulk_model.specs.PlanView.{job_at, node_at, edges_from, is_ignored}
use Rattle.bulk_model.specs.Sound.{Recipe, IsTable, Agrees, recipe_of}
use Rattle.bulk_model.specs.Trees.{IsOrderly, IsTree, IsOfTree, need_at}
use Rattle.bulk_model.specs.Views.{JobView, node_of_job}
use Rattle.bulk_model.proofs.PlanTests.{targets_tested, without_tested}
use Rattle.incremental_example.specs.Ports.{bot, left, right, top, tree, diamond}
use Rattle.incremental_example.specs.Diamond.{ports, recipes, HaveOwnDigests}

-- ---- members of different names are different

each : {X : Type 0} (f : X → List ℕ) (k : List ℕ) (xs : List X) → AllByRecursion (λ n. bytes_eq k n ≡ false) (map f xs) → (y : X) → Contains xs y → bytes_eq k (f y) ≡ false
each f k [] all y c = absurd (contains_none y c)
each f k (x ∷ xs) all y c = elim (contains_cases x xs y c) [ inl e ↦ subst (λ z. bytes_eq k (f z) ≡ false) e all.0 | inr m ↦ each f k xs all.1 y m ]

pub differs : {X : Type 0} (f : X → List ℕ) (x : X) (xs : List X) → IsDistinct bytes_eq (map f (x ∷ xs)) → (y : X) → Contains xs y → f x ≡ f y → ⊥
unfolding IsDistinct
differs f x xs d y c e = true≢false (sym ((bytes_eq-Decides (f x) (f y)).1 e) ∙ each f (f x) xs d.0 y c)

pub apart_by : {X : Type 0} (f : X → List ℕ) (xs : List X) → IsDistinct bytes_eq (map f xs) → (a b : X) → Contains xs a → Contains xs b → f a ≡ f b → a ≡ b
unfolding IsDistinct
apart_by f [] d a b c h e = absurd (contains_none a c)
apart_by f (x ∷ xs) d a b c h e =
    elim (contains_cases x xs a c) [
      | inl here ↦ elim (contains_cases x xs b h) [
        | inl there ↦ sym here ∙ there
        | inr more ↦ absurd (differs f x xs d b more (ap f here ∙ e))
      ]
      | inr more ↦ elim (contains_cases x xs b h) [
        | inl there ↦ absurd (differs f x xs d a more (ap f there ∙ sym e))
        | inr both ↦ apart_by f xs d.1 a b more both e
      ]
    ]

-- ---- the plan

none_ascend : IsStrictlySortedBy (slice_cmp nat_cmp) []
unfolding IsStrictlySortedBy
none_ascend = tt

names_differ : (on : Bool) → IsDistinct bytes_eq (map (λ (job : JobView). job.name) (tree on))
unfolding IsDistinct
names_differ on = ((refl, (refl, (refl, tt))), ((refl, (refl, tt)), ((refl, tt), (tt, tt))))

nodes_differ : (on : Bool) → IsDistinct bytes_eq (map node_of_job (tree on))
unfolding IsDistinct
nodes_differ on = ((refl, (refl, (refl, tt))), ((refl, (refl, tt)), ((refl, tt), (tt, tt))))

top_wanted : All (λ n. n < 4) (3 ∷ [])
top_wanted zero d l = omega arith
top_wanted (suc k) d l = absurd (omega arith)

pub is_plan : (on : Bool) → IsPlan (diamond on)
is_plan on =
    record {
      few = omega arith;
      edges = refl;
      ignored = refl;
      boosted = refl;
      targets = targets_tested (diamond on) refl;
      wanted = top_wanted;
      without = without_tested (diamond on) refl;
      loopless = refl;
      names = names_differ on;
      base = record { form = record { order = none_ascend; apart = refl; short = refl }; free = refl };
    }

ascend : (on : Bool) (a b : ℕ) → a < b → b < 4 → IsTrue (is_lt (slice_cmp nat_cmp (node_at (diamond on) a) (node_at (diamond on) b)))
ascend on zero zero l m = absurd (omega arith)
ascend on zero (suc zero) l m = refl
ascend on zero (suc (suc zero)) l m = refl
ascend on zero (suc (suc (suc zero))) l m = refl
ascend on zero (suc (suc (suc (suc b)))) l m = absurd (omega arith)
ascend on (suc zero) zero l m = absurd (omega arith)
ascend on (suc zero) (suc zero) l m = absurd (omega arith)
ascend on (suc zero) (suc (suc zero)) l m = refl
ascend on (suc zero) (suc (suc (suc zero))) l m = refl
ascend on (suc zero) (suc (suc (suc (suc b)))) l m = absurd (omega arith)
ascend on (suc (suc zero)) zero l m = absurd (omega arith)
ascend on (suc (suc zero)) (suc zero) l m = absurd (omega arith)
ascend on (suc (suc zero)) (suc (suc zero)) l m = absurd (omega arith)
ascend on (suc (suc zero)) (suc (suc (suc zero))) l m = refl
ascend on (suc (suc zero)) (suc (suc (suc (suc b)))) l m = absurd (omega arith)
ascend on (suc (suc (suc a))) b l m = absurd (omega arith)

needs_are : (on : Bool) (n : ℕ) → n < 4 → map (need_at (diamond on)) (edges_from (diamond on) n) ≡ (job_at (diamond on) n).depends
needs_are on zero l = refl
needs_are on (suc zero) l = refl
needs_are on (suc (suc zero)) l = refl
needs_are on (suc (suc (suc zero))) l = refl
needs_are on (suc (suc (suc (suc n)))) l = absurd (omega arith)

pub is_orderly : (on : Bool) → IsOrderly (diamond on)
is_orderly on = record { order = ascend on; needs = λ n l free. needs_are on n l }

pub is_tree : (on : Bool) → IsTree (tree on)
is_tree on = record { nodes = apart_by node_of_job (tree on) (nodes_differ on); names = apart_by (λ (job : JobView). job.name) (tree on) (names_differ on) }

stands : (on : Bool) (n : ℕ) → n < 4 → Contains (tree on) (job_at (diamond on) n)
stands on zero l = (0, omega arith, refl)
stands on (suc zero) l = (1, omega arith, refl)
stands on (suc (suc zero)) l = (2, omega arith, refl)
stands on (suc (suc (suc zero))) l = (3, omega arith, refl)
stands on (suc (suc (suc (suc n)))) l = absurd (omega arith)

pub allowed : (on : Bool) (n : ℕ) → n < 4 → is_ignored (diamond on) n ≡ false
allowed on zero l = refl
allowed on (suc zero) l = refl
allowed on (suc (suc zero)) l = refl
allowed on (suc (suc (suc zero))) l = refl
allowed on (suc (suc (suc (suc n)))) l = absurd (omega arith)

pub is_of_tree : (on : Bool) → IsOfTree (diamond on) (tree on)
is_of_tree on = record { built = λ n l free. stands on n l; ignored = λ n job l barred c e. true≢false (sym barred ∙ allowed on n l) }

-- ---- the table

pub within : (on : Bool) (job : JobView) → Contains (tree on) job → Contains ports job
within on job c =
    elim (contains_cases bot (left ∷ right on ∷ top ∷ []) job c) [
      | inl e ↦ subst (Contains ports) e (0, omega arith, refl)
      | inr c ↦ elim (contains_cases left (right on ∷ top ∷ []) job c) [
        | inl e ↦ subst (Contains ports) e (1, omega arith, refl)
        | inr c ↦ elim (contains_cases (right on) (top ∷ []) job c) [
          | inl e ↦ subst (Contains ports) e (either on)
          | inr c ↦ elim (contains_cases top [] job c) [
            | inl e ↦ subst (Contains ports) e (3, omega arith, refl)
            | inr c ↦ absurd (contains_none job c)
          ]
        ]
      ]
    ]
  where
    either : (on : Bool) → Contains ports (right on)
    either false = (2, omega arith, refl)
    either true = (4, omega arith, refl)

pub agrees : (on : Bool) → Agrees recipes (tree on) []
agrees on job c = contains_map (recipe_of []) ports job (within on job c)

pub is_table : HaveOwnDigests → IsTable recipes
is_table apart = record {
  one = λ a b c d e.
      let f : Source (recipe_of []) ports a = map_contains (recipe_of []) ports a c in
      let g : Source (recipe_of []) ports b = map_contains (recipe_of []) ports b d in
      let same : f.one ≡ g.one = apart f.one g.one f.is g.is (ap (λ (r : Recipe). r.digest) f.gives ∙ e ∙ sym (ap (λ (r : Recipe). r.digest) g.gives)) in
      sym f.gives ∙ ap (recipe_of []) same ∙ g.gives;
}
