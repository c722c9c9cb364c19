-- The plans of three ports are plans.
use Rattle.std.proofs.Common.{◌≡◌, ℕ, Bool, false, List, [], ◌∷◌, length, map, replicate, codes, refl, ap, sym, subst, arith, None, Option}
use Rattle.std.specs.Prelude.{bytes_eq}
use Rattle.std.specs.List.{IsDistinct}
use Rattle.std.specs.List.Sorted.{IsStrictlySortedBy}
use Rattle.std.specs.Cmp.Lexicographic.{slice_cmp}
use Rattle.std.specs.Ordering.{nat_cmp}
use Rattle.bulk_base.specs.Names.{IsPackageName, IsOrigin}
use Rattle.bulk_base.specs.declared.file.FileItem.{FileItem}
use Rattle.bulk_base.specs.declared.file.Switch.{Switch}
use Rattle.bulk_model.specs.declared.depend.Depend.{Depend}
use Rattle.bulk_model.specs.declared.depend.DepKind.{DepKind}
use Rattle.bulk_model.specs.declared.plan.Edge.{Edge}
use Rattle.bulk_model.specs.declared.steps.Steps.{Steps}
use Rattle.bulk_model.specs.Facts.{IsJob, IsOptionList, IsDependList, IsFileList}
use Rattle.bulk_model.specs.Views.{JobView}
use Rattle.bulk_model.specs.PlanView.{PlanView}
use Rattle.bulk_model.specs.PlanFacts.{IsPlan, IsBase}
use Rattle.bulk_model.proofs.PlanTests.{targets_tested, without_tested, none_wanted}
use Rattle.graph_cases.specs.Threes.{chain_edges, fan_edges, three_names}

none_ascend : IsStrictlySortedBy (slice_cmp nat_cmp) []
unfolding IsStrictlySortedBy
none_ascend = tt

no_options : IsOptionList []
no_options = record { order = none_ascend; forms = refl }

no_depends : IsDependList []
no_depends = record { order = refl; nodes = tt; names = tt }

no_files : (most : ℕ) → IsFileList most []
no_files most = record { order = none_ascend; apart = refl; short = refl }

an_origin : IsOrigin (codes "a/x")
an_origin = record { category = codes "a"; port = codes "x"; category_form = refl; port_form = refl; spelled = refl }

pub name_a : IsPackageName (codes "a-1")
name_a = record { base = codes "a"; version = codes "1"; revision = None; epoch = None; base_form = refl; version_form = refl; revision_form = tt; epoch_form = tt; short = omega arith; spelled = refl }

pub name_b : IsPackageName (codes "b-1")
name_b = record { base = codes "b"; version = codes "1"; revision = None; epoch = None; base_form = refl; version_form = refl; revision_form = tt; epoch_form = tt; short = omega arith; spelled = refl }

pub name_c : IsPackageName (codes "c-1")
name_c = record { base = codes "c"; version = codes "1"; revision = None; epoch = None; base_form = refl; version_form = refl; revision_form = tt; epoch_form = tt; short = omega arith; spelled = refl }

pub is_job : (name origin : List ℕ) (options : List Switch) (depends : List Depend) (steps : Steps) (files : List FileItem) → IsPackageName name → origin ≡ codes "a/x" → options ≡ [] → depends ≡ [] → files ≡ []
    → IsJob (record { name = name; origin = origin; flavor = None; options = options; depends = depends; steps = steps; files = files })
is_job name origin options depends steps files form o p d f = record {
  name = form;
  origin = subst IsOrigin (sym o) an_origin;
  flavor = tt;
  options = subst IsOptionList (sym p) no_options;
  depends = subst IsDependList (sym d) no_depends;
  files = subst (IsFileList 1019) (sym f) (no_files 1019);
}

distinct_names : IsDistinct bytes_eq (codes "a-1" ∷ codes "b-1" ∷ codes "c-1" ∷ [])
unfolding IsDistinct
distinct_names = ((refl, (refl, tt)), ((refl, tt), (tt, tt)))

no_base : IsBase []
no_base = record { form = no_files 1024; free = refl }

abbrev made : List (List Edge) → List JobView → PlanView
made edges jobs = record { jobs = jobs; edges = edges; ignored = None ∷ None ∷ None ∷ []; wanted = []; base = []; boosted = replicate 3 false }

chain_is : (a b : DepKind) (jobs : List JobView) → map (λ job. job.name) jobs ≡ three_names → IsPlan (made (chain_edges a b) jobs)
chain_is a b [] e = absurd (omega (arith, ap length e))
chain_is a b (x ∷ []) e = absurd (omega (arith, ap length e))
chain_is a b (x ∷ y ∷ []) e = absurd (omega (arith, ap length e))
chain_is a b (x ∷ y ∷ z ∷ []) e = record {
  few = omega arith;
  edges = refl;
  ignored = refl;
  boosted = refl;
  targets = targets_tested (made (chain_edges a b) (x ∷ y ∷ z ∷ [])) refl;
  wanted = none_wanted 3;
  without = without_tested (made (chain_edges a b) (x ∷ y ∷ z ∷ [])) refl;
  loopless = refl;
  names = subst (IsDistinct bytes_eq) (sym e) distinct_names;
  base = no_base;
}
chain_is a b (x ∷ y ∷ z ∷ w ∷ more) e = absurd (omega (arith, ap length e))

fan_is : (a b : DepKind) (jobs : List JobView) → map (λ job. job.name) jobs ≡ three_names → IsPlan (made (fan_edges a b) jobs)
fan_is a b [] e = absurd (omega (arith, ap length e))
fan_is a b (x ∷ []) e = absurd (omega (arith, ap length e))
fan_is a b (x ∷ y ∷ []) e = absurd (omega (arith, ap length e))
fan_is a b (x ∷ y ∷ z ∷ []) e = record {
  few = omega arith;
  edges = refl;
  ignored = refl;
  boosted = refl;
  targets = targets_tested (made (fan_edges a b) (x ∷ y ∷ z ∷ [])) refl;
  wanted = none_wanted 3;
  without = without_tested (made (fan_edges a b) (x ∷ y ∷ z ∷ [])) refl;
  loopless = refl;
  names = subst (IsDistinct bytes_eq) (sym e) distinct_names;
  base = no_base;
}
fan_is a b (x ∷ y ∷ z ∷ w ∷ more) e = absurd (omega (arith, ap length e))

module _ (jobs : List JobView) (edges : List (List Edge)) (ignored : List (Option (List ℕ))) (wanted : List ℕ) (base : List FileItem) (boosted : List Bool)
    (names : map (λ job. job.name) jobs ≡ three_names) (i : ignored ≡ None ∷ None ∷ None ∷ []) (w : wanted ≡ []) (b : base ≡ []) (m : boosted ≡ replicate 3 false) where
  abbrev plan : PlanView
  plan = record { jobs = jobs; edges = edges; ignored = ignored; wanted = wanted; base = base; boosted = boosted }

  is_made : (others : List (List Edge)) → edges ≡ others → plan ≡ made others jobs
  is_made others e k = record { jobs = jobs; edges = e k; ignored = i k; wanted = w k; base = b k; boosted = m k }

  pub is_chain : (first second : DepKind) → edges ≡ chain_edges first second → IsPlan plan
  is_chain first second e = subst IsPlan (sym (is_made (chain_edges first second) e)) (chain_is first second jobs names)

  pub is_fan : (first second : DepKind) → edges ≡ fan_edges first second → IsPlan plan
  is_fan first second e = subst IsPlan (sym (is_made (fan_edges first second) e)) (fan_is first second jobs names)
