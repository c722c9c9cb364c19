-- The nodes that the queue gives are those of the model's order.
use Rattle.std.proofs.Common.{◌≡◌, ℕ, zero, suc, ◌+◌, ◌<◌, ◌≤◌, Bool, true, false, List, [], ◌∷◌, length, get_or, set, refl, ap, sym, subst, ◌∙◌, arith, cond, Option, Some, None, inl, inr, ◌⊎◌}
use Rattle.std.specs.Prelude.{◌==◌, ◌&&◌, ◌||◌, not, nat_lt, map, is_some}
use Rattle.std.specs.List.{list_all}
use Rattle.std.specs.Option.{option_map_or}
use Rattle.std.proofs.lemmas.Bool.{true≢false, and_parts, eq-eqb, ne_eqb, cases_eq}
use Rattle.std.proofs.lemmas.List.{get_or-set_same, get_or-set_other, length-set}
use Rattle.std.proofs.lemmas.List.FromFn.{length-map-range_with_len, get_or-map-range_with_len, fill_by_all}
use Rattle.bulk_base.proofs.Members.{list_all_agree}
use Rattle.bulk_model.specs.declared.outcome.Outcome.{Outcome}
use Rattle.bulk_model.specs.declared.outcome.Outcome.TheVariants.{Built as MadePackage, Failed as FailedBuild}
use Rattle.bulk_model.specs.declared.results.Status.{Status}
use Rattle.bulk_model.specs.declared.results.Status.TheVariants.{Kept, Ignored, Skipped}
use Rattle.bulk_model.specs.declared.plan.Kept.{Kept as KeptPackages}
use Rattle.bulk_model.specs.Views.{PackageView}
use Rattle.bulk_model.specs.PlanView.{PlanView, count, nodes, depends, is_ignored}
use Rattle.bulk_model.specs.PlanFacts.{IsPlan}
use Rattle.bulk_model.specs.Installs.{has}
use Rattle.bulk_model.specs.Fit.{status_in}
use Rattle.bulk_model.specs.Order.{bucket, better as better_of, best_below as best_of, is_tried, may_follow, order_from, order}
use Rattle.bulk_model.specs.Results.{kept_at, is_kept, is_good, status_of_outcome, status_at}
use Rattle.model_laws.proofs.Following.{results_unfold, results_stand}
use Rattle.model_laws.proofs.Graph.{target_below}
use Rattle.bucket_queue.specs.declared.mark.Mark.{Mark}
use Rattle.bucket_queue.specs.declared.mark.Mark.TheVariants.{Kept as KeptMark, Ignored as IgnoredMark, Free, Done, Bad}
use Rattle.bucket_queue.specs.QueueView.{QueueView, first_queue, better, best_below, next_of, with_mark, is_free, has_package, mark_at, is_ready}
use Rattle.bucket_queue.specs.Taking.{AreResults, end_by, taken_within, taken}
use Rattle.bucket_queue.proofs.Best.{found_best}

zero_more : (n : ℕ) → 0 + n ≡ n
zero_more n = omega arith

-- the mark of a node by what is known of it, once some nodes have ended
abbrev pub mark_by : Bool → Bool → Bool → Mark → Mark
mark_by kept ignored listed end = cond kept KeptMark (cond ignored IgnoredMark (cond listed end Free))

abbrev status_by : Option PackageView → Bool → Bool → Outcome → Status
status_by k i g o = option_map_or Kept k (cond i Ignored (cond g (status_of_outcome o) Skipped))

done_case : (x : Bool) → has_package (cond x Done Bad) ≡ (x && true)
done_case true = refl
done_case false = refl

and_none : (x : Bool) → false ≡ (x && false)
and_none true = refl
and_none false = refl

package_case : (k : Option PackageView) (i b g : Bool) (o : Outcome)
    → has_package (mark_by (is_some k) i b (cond (is_good (status_by k i g o)) Done Bad)) ≡ (is_good (status_by k i g o) && (is_some k || b))
package_case (Some p) i b g o = refl
package_case None true b g o = refl
package_case None false true g o = done_case (is_good (cond g (status_of_outcome o) Skipped))
package_case None false false g o = and_none (is_good (cond g (status_of_outcome o) Skipped))

tried_case : (g r : Bool) (o : Outcome) → (g && r) ≡ (is_tried (cond g (status_of_outcome o) Skipped) && r)
tried_case true r (MadePackage p) = refl
tried_case true r (FailedBuild phase code) = refl
tried_case false r o = refl

ready_case : (k : Option PackageView) (i b g r : Bool) (o : Outcome) (end : Mark) → is_free end ≡ false
    → (is_free (mark_by (is_some k) i b end) && (g && r)) ≡ (is_tried (status_by k i g o) && (not b && r))
ready_case (Some p) i b g r o end e = refl
ready_case None true b g r o end e = refl
ready_case None false true g r o end e = ap (λ x. x && (g && r)) e ∙ and_none (is_tried (cond g (status_of_outcome o) Skipped))
ready_case None false false g r o end e = tried_case g r o

pub ends_not_free : (x : Bool) → is_free (cond x Done Bad) ≡ false
ends_not_free true = refl
ends_not_free false = refl

free_parts : (k i b : Bool) (end : Mark) → is_free end ≡ false → is_free (mark_by k i b end) ≡ true → (k ≡ false) × (i ≡ false) × (b ≡ false)
free_parts true i b end e h = absurd (true≢false (sym h))
free_parts false true b end e h = absurd (true≢false (sym h))
free_parts false false true end e h = absurd (true≢false (sym h ∙ e))
free_parts false false false end e h = (refl, refl, refl)

shuffle : (a b c d : Bool) → ((a && b) && (c && d)) ≡ ((a && c) && (b && d))
shuffle true true c d = refl
shuffle true false true d = refl
shuffle true false false d = refl
shuffle false b c d = refl

all_of_both : {X : Type 0} (p q : X → Bool) (xs : List X) → list_all (λ x. p x && q x) xs ≡ (list_all p xs && list_all q xs)
all_of_both p q [] = refl
all_of_both p q (x ∷ xs) =
    ap (λ b. (p x && q x) && b) (all_of_both p q xs) ∙ shuffle (p x) (q x) (list_all p xs) (list_all q xs)

-- the best of some nodes, by a list of buckets and by the plan
module _ (plan : PlanView) where
  abbrev pub buckets_of : List ℕ
  buckets_of = map (bucket plan) (nodes plan)

  bucket_at : (n : ℕ) → n < count plan → get_or buckets_of n 0 ≡ bucket plan n
  bucket_at n l = get_or-map-range_with_len (bucket plan) 0 (count plan) n n 0 l (zero_more n)

  push_some : (c : Bool) (k b : ℕ) → cond c (Some k) (Some b) ≡ Some (cond c k b)
  push_some true k b = refl
  push_some false k b = refl

  better_same : (k : ℕ) (found : Option ℕ) → ((b : ℕ) → found ≡ Some b → b < count plan) → k < count plan
      → better buckets_of found k ≡ Some (option_map_or (λ best. better_of plan best k) found k)
  better_same k None below l = refl
  better_same k (Some b) below l =
      ap (λ t. cond (nat_lt t (get_or buckets_of k 0)) (Some k) (Some b)) (bucket_at b (below b refl))
      ∙ ap (λ t. cond (nat_lt (bucket plan b) t) (Some k) (Some b)) (bucket_at k l)
      ∙ push_some (nat_lt (bucket plan b) (bucket plan k)) k b

  step_case : (b : Bool) (x y u v : Option ℕ) → x ≡ u → y ≡ v → cond b x y ≡ cond b u v
  step_case true x y u v e f = e
  step_case false x y u v e f = f

  pub best_same : (passes also : ℕ → Bool) (k : ℕ) → k ≤ count plan → ((n : ℕ) → n < k → passes n ≡ also n)
      → best_below passes buckets_of k ≡ best_of plan also k
  best_same passes also zero l same = refl
  best_same passes also (suc k) l same =
      let before : best_below passes buckets_of k ≡ best_of plan also k = best_same passes also k (omega arith) (λ n b. same n (omega arith)) in
      ap (λ b. cond b (better buckets_of (best_below passes buckets_of k) k) (best_below passes buckets_of k)) (same k (omega arith))
      ∙ step_case (also k) (better buckets_of (best_below passes buckets_of k) k) (best_below passes buckets_of k)
      (Some (option_map_or (λ best. better_of plan best k) (best_of plan also k) k)) (best_of plan also k)
      (better_same k (best_below passes buckets_of k) (λ b e. let h : (b < k) × (passes b ≡ true) = (found_best passes buckets_of k).is b e in omega (arith, h.0)) (omega arith)
      ∙ ap (λ found. Some (option_map_or (λ best. better_of plan best k) found k)) before)
      before

module _ (plan : PlanView) (is : IsPlan plan) (kept : KeptPackages) (statuses : List Status) (results : AreResults plan kept statuses) where
  abbrev s : ℕ → Status
  s = status_at results.bakes plan kept

  abbrev pub mark_now : List ℕ → ℕ → Mark
  mark_now listed n = mark_by (is_kept kept n) (is_ignored plan n) (has listed n) (end_by statuses n)

  -- the queue once some nodes have ended
  abbrev pub queue_after : List ℕ → QueueView
  queue_after listed = record { edges = plan.edges; buckets = map (bucket plan) (nodes plan); marks = map (mark_now listed) (nodes plan); halted = false }

  pub begins : queue_after [] ≡ first_queue plan kept
  begins = refl

  pub marks_size : (listed : List ℕ) → length (queue_after listed).marks ≡ count plan
  marks_size listed = length-map-range_with_len (mark_now listed) 0 (count plan)

  mark_is : (listed : List ℕ) (n : ℕ) → n < count plan → mark_at (queue_after listed).marks n ≡ mark_now listed n
  mark_is listed n l = get_or-map-range_with_len (mark_now listed) 0 (count plan) n n IgnoredMark l (zero_more n)

  pub stands : (n : ℕ) → n < count plan → status_in statuses n ≡ s n
  stands n l = ap (λ xs. status_in xs n) results.are ∙ results_stand results.bakes plan kept n l

  abbrev good_at : ℕ → Bool
  good_at n = list_all (λ d. is_good (s d)) (depends plan n)

  status_is : (n : ℕ) → n < count plan → (o : Outcome) × (status_in statuses n ≡ status_by (kept_at kept n) (is_ignored plan n) (good_at n) o)
  status_is n l = (_, stands n l ∙ results_unfold results.bakes plan kept is n l)

  package_is : (listed : List ℕ) (d : ℕ) → d < count plan
      → has_package (mark_at (queue_after listed).marks d) ≡ (is_good (status_in statuses d) && (is_kept kept d || has listed d))
  package_is listed d l =
      ap has_package (mark_is listed d l)
      ∙ subst (λ x. has_package (mark_by (is_kept kept d) (is_ignored plan d) (has listed d) (cond (is_good x) Done Bad)) ≡ (is_good x && (is_kept kept d || has listed d)))
      (sym (status_is d l).1)
      (package_case (kept_at kept d) (is_ignored plan d) (has listed d) (good_at d) (status_is d l).0)

  abbrev there : List ℕ → ℕ → Bool
  there listed n = list_all (λ d. is_kept kept d || has listed d) (depends plan n)

  packages_are : (listed : List ℕ) (n : ℕ) → n < count plan
      → list_all (λ d. has_package (mark_at (queue_after listed).marks d)) (depends plan n) ≡ (good_at n && there listed n)
  packages_are listed n l =
      list_all_agree (λ d. has_package (mark_at (queue_after listed).marks d)) (λ d. is_good (s d) && (is_kept kept d || has listed d)) (depends plan n)
      (λ d c. package_is listed d (target_below plan is n d l c) ∙ ap (λ x. is_good x && (is_kept kept d || has listed d)) (stands d (target_below plan is n d l c)))
      ∙ all_of_both (λ d. is_good (s d)) (λ d. is_kept kept d || has listed d) (depends plan n)

  ready_is : (listed : List ℕ) (n : ℕ) → n < count plan → is_ready (queue_after listed) n ≡ may_follow plan kept statuses listed n
  ready_is listed n l =
      ap (λ m. is_free m && list_all (λ d. has_package (mark_at (queue_after listed).marks d)) (depends plan n)) (mark_is listed n l)
      ∙ ap (λ b. is_free (mark_now listed n) && b) (packages_are listed n l)
      ∙ ready_case (kept_at kept n) (is_ignored plan n) (has listed n) (good_at n) (there listed n) (status_is n l).0 (end_by statuses n) (ends_not_free (is_good (status_in statuses n)))
      ∙ ap (λ x. is_tried x && (not (has listed n) && there listed n)) (sym (status_is n l).1)

  pub next_is : (listed : List ℕ) → next_of (queue_after listed) ≡ best_of plan (may_follow plan kept statuses listed) (count plan)
  next_is listed =
      ap (best_below (is_ready (queue_after listed)) (buckets_of plan)) (marks_size listed)
      ∙ best_same plan (is_ready (queue_after listed)) (may_follow plan kept statuses listed) (count plan) (omega arith) (λ n l. ready_is listed n l)

  -- what is known of a node that the queue gives
  pub record Next (listed : List ℕ) (n : ℕ) : Type 0 where
    pub node : n < count plan
    pub kept_not : is_kept kept n ≡ false
    pub ignored_not : is_ignored plan n ≡ false
    pub new : has listed n ≡ false
    pub tried : is_tried (status_in statuses n) ≡ true

  pub next_node : (listed : List ℕ) (n : ℕ) → next_of (queue_after listed) ≡ Some n → Next listed n
  next_node listed n e =
      let found : (n < length (queue_after listed).marks) × (is_ready (queue_after listed) n ≡ true) =
      (found_best (is_ready (queue_after listed)) (buckets_of plan) (length (queue_after listed).marks)).is n e in
      let l : n < count plan = subst (λ k. n < k) (marks_size listed) found.0 in
      let free : is_free (mark_now listed n) ≡ true =
      ap is_free (sym (mark_is listed n l)) ∙ (and_parts (is_free (mark_at (queue_after listed).marks n)) (list_all (λ d. has_package (mark_at (queue_after listed).marks d)) (depends plan n)) found.1).0 in
      let parts : (is_kept kept n ≡ false) × (is_ignored plan n ≡ false) × (has listed n ≡ false) =
      free_parts (is_kept kept n) (is_ignored plan n) (has listed n) (end_by statuses n) (ends_not_free (is_good (status_in statuses n))) free in
      record {
        node = l;
        kept_not = parts.0;
        ignored_not = parts.1;
        new = parts.2;
        tried = (and_parts (is_tried (status_in statuses n)) (not (has listed n) && there listed n) (sym (ready_is listed n l) ∙ found.1)).0;
      }

  ended_case : (listed : List ℕ) (n : ℕ) → Next listed n → (m : ℕ) → m < count plan → (m ≡ n) ⊎ (m ≡ n → ⊥)
      → get_or (set (queue_after listed).marks n (end_by statuses n)) m IgnoredMark ≡ mark_now (n ∷ listed) m
  ended_case listed n next m l (inl same) =
      ap (λ x. get_or (set (queue_after listed).marks n (end_by statuses n)) x IgnoredMark) same
      ∙ get_or-set_same (queue_after listed).marks n (end_by statuses n) IgnoredMark (subst (λ k. n < k) (sym (marks_size listed)) next.node)
      ∙ sym (ap (mark_now (n ∷ listed)) same
      ∙ ap (λ b. mark_by b (is_ignored plan n) ((n == n) || has listed n) (end_by statuses n)) next.kept_not
      ∙ ap (λ b. mark_by false b ((n == n) || has listed n) (end_by statuses n)) next.ignored_not
      ∙ ap (λ b. mark_by false false (b || has listed n) (end_by statuses n)) (eq-eqb n n refl))
  ended_case listed n next m l (inr apart) =
      get_or-set_other (queue_after listed).marks n m (end_by statuses n) IgnoredMark apart
      ∙ mark_is listed m l
      ∙ ap (λ b. mark_by (is_kept kept m) (is_ignored plan m) (b || has listed m) (end_by statuses m)) (sym (ne_eqb n m (λ e. apart (sym e))))

  pub ended : (listed : List ℕ) (n : ℕ) → Next listed n → with_mark (queue_after listed) n (end_by statuses n) ≡ queue_after (n ∷ listed)
  ended listed n next =
      ap (λ marks. record { edges = plan.edges; buckets = map (bucket plan) (nodes plan); marks = marks; halted = false })
      (fill_by_all (mark_now (n ∷ listed)) (set (queue_after listed).marks n (end_by statuses n)) (count plan) IgnoredMark
      (length-set (queue_after listed).marks n (end_by statuses n) ∙ marks_size listed)
      (λ m l. ended_case listed n next m l (cases_eq m n)))

  taken_case : (steps : ℕ) (listed : List ℕ) → ((more : List ℕ) → taken_within statuses steps (queue_after more) ≡ order_from plan kept statuses steps more)
      → (o : Option ℕ) → next_of (queue_after listed) ≡ o
      → option_map_or (λ n. n ∷ taken_within statuses steps (with_mark (queue_after listed) n (end_by statuses n))) o [] ≡ option_map_or (λ n. n ∷ order_from plan kept statuses steps (n ∷ listed)) o []
  taken_case steps listed more None e = refl
  taken_case steps listed more (Some n) e =
      ap (λ rest. n ∷ rest) (ap (taken_within statuses steps) (ended listed n (next_node listed n e)) ∙ more (n ∷ listed))

  pub taken_is : (steps : ℕ) (listed : List ℕ) → taken_within statuses steps (queue_after listed) ≡ order_from plan kept statuses steps listed
  taken_is zero listed = refl
  taken_is (suc steps) listed =
      taken_case steps listed (taken_is steps) (next_of (queue_after listed)) refl
      ∙ ap (λ o. option_map_or (λ n. n ∷ order_from plan kept statuses steps (n ∷ listed)) o []) (next_is listed)

  pub queue_gives_order : taken statuses (first_queue plan kept) ≡ order plan kept statuses
  queue_gives_order = ap (λ steps. taken_within statuses steps (queue_after [])) (marks_size []) ∙ taken_is (count plan) []
