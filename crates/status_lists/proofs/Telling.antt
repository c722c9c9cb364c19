-- What is told of nodes, one after another in an order of dependencies.
use Rattle.std.proofs.Common.{◌≡◌, ℕ, ◌+◌, ◌<◌, ◌≤◌, Bool, true, false, List, [], ◌∷◌, length, get_or, set, take, refl, ap, sym, subst, ◌∙◌, arith}
use Rattle.std.specs.Prelude.{◌==◌, ◌||◌}
use Rattle.std.proofs.lemmas.Bool.{eqb-true, eqb-false}
use Rattle.std.proofs.lemmas.List.{take_more, take_all, ext_get_or, get_or-set_same, get_or-set_other, length-set}
use Rattle.std.proofs.lemmas.List.Elements.{All-get_or, All-from_get_or}
use Rattle.std.proofs.lemmas.List.FromFn.{get_or-map-range_with_len, length-map-range_with_len}
use Rattle.bulk_model.specs.declared.results.Status.{Status}
use Rattle.bulk_model.specs.declared.results.Status.TheVariants.{Kept as KeptStatus, Built as BuiltStatus, Failed as FailedStatus, Ignored as IgnoredStatus, Skipped as SkippedStatus}
use Rattle.bulk_model.specs.Cause.{cause}
use Rattle.bulk_model.specs.Fit.{FitsResults, status_in, is_skipped}
use Rattle.bulk_model.specs.PlanFacts.{IsPlan}
use Rattle.bulk_model.specs.PlanView.{PlanView, count, depends, edges_from}
use Rattle.bulk_model.specs.declared.plan.Edge.{Edge}
use Rattle.bulk_base.proofs.Members.{all_passes, below_range}
use Rattle.bulk_model.specs.declared.plan.Kept.{Kept as KeptPackages}
use Rattle.bulk_model.specs.DryLists.{dry_statuses}
use Rattle.dep_graph.specs.Graphs.{has, nodes_of, targets}
use Rattle.dep_graph.specs.Order.{IsInOrder, IsDependencyOrder, IsLooplessPart, is_free}
use Rattle.dep_graph.proofs.OrderLaws.{loopless_plan}
use Rattle.dep_graph.proofs.Waiting.{or_none}
use Rattle.dep_graph.proofs.Members.{has-append, all_has, all_from_has}
use Rattle.model_laws.proofs.Blaming.{causes_are_to_blame}
use Rattle.status_lists.specs.declared.fate.Fate.{Fate}
use Rattle.status_lists.specs.declared.fate.Fate.TheVariants.{Kept}
use Rattle.status_lists.specs.Fates.{AreFates, NamesNode, fate_by, fate_at, fate_in, fates_of, told_by, dry_fate}
use Rattle.status_lists.proofs.Causes.{AreTold, told_is, dry_is}

-- so many nodes of an order are told
pub record SoFar (plan : PlanView) (statuses : List Status) (order : List ℕ) (done : ℕ)
    (fates : List Fate) : Type 0 where
  pub size : length fates ≡ count plan
  pub told : (n : ℕ) → has (take done order) n ≡ true → fate_in fates n ≡ fate_at plan statuses n

-- a plan's graph has no loop, so its loopless part has all nodes
pub whole_order : (plan : PlanView) → IsPlan plan → (graph : List (List Edge)) → graph ≡ plan.edges
    → (order : List ℕ) → IsLooplessPart graph order → IsDependencyOrder plan.edges order
whole_order plan is graph same order part =
    let p : IsLooplessPart plan.edges order = subst (λ g. IsLooplessPart g order) same part in
    record {
      all = λ n l.
          p.free n l
          ∙ all_passes (is_free plan.edges) (nodes_of plan.edges) n (sym (loopless_plan plan is.edges) ∙ is.loopless) (below_range (length plan.edges) n l);
      in_order = p.in_order;
    }

module _ (plan : PlanView) (statuses : List Status) (order : List ℕ) where
  pub so_far_none : (fates : List Fate) → length fates ≡ count plan
      → SoFar plan statuses order 0 fates
  so_far_none fates size = record { size = size; told = λ n h. absurd (cc h) }

  module _ (is : IsPlan plan) (ordered : IsInOrder plan.edges order) (done : ℕ) (l : done < length order) where
    -- the next node
    pub next_below : get_or order done 0 < count plan
    next_below =
        let size : length plan.edges ≡ count plan = is.edges in
        let below : get_or order done 0 < length plan.edges = All-get_or (λ n. n < length plan.edges) order done 0 l ordered.nodes in
        omega arith

    pub next_told : (fates : List Fate) → SoFar plan statuses order done fates
        → AreTold plan statuses fates (get_or order done 0)
    next_told fates so =
        all_from_has (λ d. fate_in fates d ≡ fate_at plan statuses d) (depends plan (get_or order done 0))
        (λ d h. so.told d (all_has (λ d. has (take done order) d ≡ true) (depends plan (get_or order done 0)) d (ordered.behind done l) h))

    more_case : (before : List Fate) (fate : Fate) → SoFar plan statuses order done before
        → fate ≡ fate_at plan statuses (get_or order done 0)
        → (m : ℕ) → (b : Bool) → (m == get_or order done 0) ≡ b
        → (has (take done order) m || (b || false)) ≡ true
        → fate_in (set before (get_or order done 0) fate) m ≡ fate_at plan statuses m
    more_case before fate so e m true same h =
        let here : m ≡ get_or order done 0 = eqb-true m (get_or order done 0) same in
        let size : length before ≡ count plan = so.size in
        ap (fate_in (set before (get_or order done 0) fate)) here
        ∙ get_or-set_same before (get_or order done 0) fate Kept (let b : get_or order done 0 < count plan = next_below in omega arith)
        ∙ e ∙ ap (fate_at plan statuses) (sym here)
    more_case before fate so e m false same h =
        get_or-set_other before (get_or order done 0) m fate Kept (eqb-false m (get_or order done 0) same)
        ∙ so.told m (sym (or_none (has (take done order) m)) ∙ h)

    pub so_far_more : (before after : List Fate) (fate : Fate) → SoFar plan statuses order done before
        → fate ≡ fate_at plan statuses (get_or order done 0)
        → after ≡ set before (get_or order done 0) fate
        → SoFar plan statuses order (done + 1) after
    so_far_more before after fate so e t = record {
      size = ap length t ∙ length-set before (get_or order done 0) fate ∙ so.size;
      told = λ m h.
          ap (λ fates. fate_in fates m) t
          ∙ more_case before fate so e m (m == get_or order done 0) refl
          (sym (has-append (take done order) (get_or order done 0 ∷ []) m) ∙ ap (λ xs. has xs m) (sym (take_more order done 0 l)) ∙ h);
    }

names_case : (plan : PlanView) (statuses : List Status) (n : ℕ)
    → (is_skipped (status_in statuses n) ≡ true → cause plan statuses n < count plan)
    → (s : Status) → status_in statuses n ≡ s → NamesNode (count plan) (fate_by plan statuses n s)
names_case plan statuses n below (KeptStatus p) e = tt
names_case plan statuses n below (BuiltStatus p) e = tt
names_case plan statuses n below (FailedStatus phase code) e = tt
names_case plan statuses n below IgnoredStatus e = tt
names_case plan statuses n below SkippedStatus e = below (ap is_skipped e)

pub so_far_all : (plan : PlanView) (is : IsPlan plan) (statuses : List Status)
    → FitsResults plan statuses → (order : List ℕ) → IsDependencyOrder plan.edges order
    → (done : ℕ) → length order ≤ done → (fates : List Fate)
    → SoFar plan statuses order done fates → AreFates plan statuses fates
so_far_all plan is statuses fits order ordered done l fates so =
    let told : (n : ℕ) → n < count plan → fate_in fates n ≡ fate_at plan statuses n =
    λ n b. so.told n (ap (λ xs. has xs n) (take_all done order l) ∙ ordered.all n (let size : length plan.edges ≡ count plan = is.edges in omega arith)) in
    let size : length fates ≡ count plan = so.size in
    let all : fates ≡ fates_of plan statuses =
    ext_get_or Kept fates (fates_of plan statuses)
    (so.size ∙ sym (length-map-range_with_len (fate_at plan statuses) 0 (count plan)))
    (λ i b. told i (omega arith) ∙ sym (get_or-map-range_with_len (fate_at plan statuses) 0 (count plan) i i Kept (omega arith) (omega arith))) in
    record {
      size = so.size;
      told = all;
      causes = All-from_get_or (NamesNode (count plan)) fates Kept
          (λ i b. subst (NamesNode (count plan)) (sym (told i (omega arith)))
          (names_case plan statuses i (λ skipped. (causes_are_to_blame plan statuses is fits i (omega arith) skipped).0) (status_in statuses i) refl));
    }

-- the turn of a node by its status
pub told_turn : (plan : PlanView) (is : IsPlan plan) (statuses : List Status)
    → FitsResults plan statuses → (order : List ℕ) → IsInOrder plan.edges order
    → (done : ℕ) → done < length order → (fates read after : List Fate) (status : Status) (fate : Fate) (edges : List Edge)
    → SoFar plan statuses order done fates → read ≡ fates
    → status ≡ status_in statuses (get_or order done 0) → edges ≡ edges_from plan (get_or order done 0)
    → fate ≡ told_by status (get_or order done 0) read (targets edges)
    → after ≡ set fates (get_or order done 0) fate
    → SoFar plan statuses order (done + 1) after
told_turn plan is statuses fits order ordered done l fates read after status fate edges so r s e f a =
    so_far_more plan statuses order is ordered done l fates after fate so
    (f ∙ ap (λ x. told_by x (get_or order done 0) read (targets edges)) s
    ∙ ap (λ x. told_by (status_in statuses (get_or order done 0)) (get_or order done 0) x (targets edges)) r
    ∙ ap (λ x. told_by (status_in statuses (get_or order done 0)) (get_or order done 0) fates (targets x)) e
    ∙ told_is plan is statuses fits fates (get_or order done 0) (next_below plan statuses order is ordered done l) (next_told plan statuses order is ordered done l fates so))
    a

-- and where each build succeeds
pub dry_turn : (plan : PlanView) (is : IsPlan plan) (kept : KeptPackages) (order : List ℕ)
    → IsInOrder plan.edges order → (done : ℕ) → done < length order
    → (fates read after : List Fate) (fate : Fate)
    → SoFar plan (dry_statuses plan kept) order done fates → read ≡ fates
    → fate ≡ dry_fate plan kept (get_or order done 0) read
    → after ≡ set fates (get_or order done 0) fate
    → SoFar plan (dry_statuses plan kept) order (done + 1) after
dry_turn plan is kept order ordered done l fates read after fate so r f a =
    so_far_more plan (dry_statuses plan kept) order is ordered done l fates after fate so
    (f ∙ ap (dry_fate plan kept (get_or order done 0)) r
    ∙ dry_is plan is kept fates (get_or order done 0) (next_below plan (dry_statuses plan kept) order is ordered done l) (next_told plan (dry_statuses plan kept) order is ordered done l fates so))
    a
