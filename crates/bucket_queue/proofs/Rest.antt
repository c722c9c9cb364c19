-- The order that is left, as nodes are taken one after another.
use Rattle.std.proofs.Common.{◌≡◌, ℕ, zero, suc, ◌+◌, ◌<◌, ◌≤◌, Bool, true, false, List, [], ◌∷◌, ◌++◌, length, get_or, set, refl, ap, sym, ◌∙◌, arith, cond, Some, None, append_assoc}
use Rattle.std.specs.Prelude.{◌&&◌}
use Rattle.std.specs.List.{count_by, list_all}
use Rattle.std.specs.Option.{option_map_or}
use Rattle.std.proofs.lemmas.Bool.{true≢false}
use Rattle.std.proofs.lemmas.List.{append-nil, length-set}
use Rattle.std.proofs.lemmas.List.Sums.{sum_by-set, sum_by-cons}
use Rattle.bulk_model.specs.declared.results.Status.{Status}
use Rattle.bulk_model.specs.declared.plan.Kept.{Kept as KeptPackages}
use Rattle.bulk_model.specs.Fit.{status_in}
use Rattle.bulk_model.specs.Order.{order, order_from, best_below as best_of, may_follow}
use Rattle.bulk_model.specs.PlanFacts.{IsPlan}
use Rattle.bulk_model.specs.PlanView.{PlanView, count}
use Rattle.bulk_model.specs.Results.{is_good}
use Rattle.bucket_queue.specs.declared.mark.Mark.TheVariants.{Ignored as IgnoredMark, Taken, Done, Bad}
use Rattle.bucket_queue.specs.QueueView.{QueueView, first_queue, next_of, with_mark, is_free, mark_at, is_ready, has_package}
use Rattle.dep_graph.specs.Graphs.{depends_at}
use Rattle.bucket_queue.specs.Taking.{AreResults, TellWell}
use Rattle.bucket_queue.proofs.Best.{found_best}
use Rattle.bucket_queue.proofs.Counting.{one_if}
use Rattle.bucket_queue.proofs.Taking.{queue_after, next_is, next_node, ended, marks_size, ends_not_free}

pub set_twice : {X : Type 0} (xs : List X) (i : ℕ) (a b : X) → set (set xs i a) i b ≡ set xs i b
set_twice [] i a b = refl
set_twice (x ∷ xs) zero a b = refl
set_twice (x ∷ xs) (suc i) a b = ap (λ l. x ∷ l) (set_twice xs i a b)

count_at_most : {X : Type 0} (p : X → Bool) (xs : List X) → count_by p xs ≤ length xs
count_at_most p [] = omega arith
count_at_most p (x ∷ xs) =
    let more : count_by p (x ∷ xs) ≡ one_if (p x) + count_by p xs = sum_by-cons (λ y. cond (p y) 1 0) x xs in
    let rest : count_by p xs ≤ length xs = count_at_most p xs in
    let one : one_if (p x) ≤ 1 = one_most (p x) in
    (let z : count_by p (x ∷ xs) ≤ suc (length xs) = omega arith in z)
  where
    one_most : (b : Bool) → one_if b ≤ 1
    one_most true = omega arith
    one_most false = omega arith

-- a node that is given was not taken
pub record IsGiven (queue : QueueView) (n : ℕ) : Type 0 where
  pub node : n < length queue.marks
  pub free : is_free (mark_at queue.marks n) ≡ true

ready_free : (halted a b : Bool) → (halted && (a && b)) ≡ true → a ≡ true
ready_free true true b h = refl
ready_free true false b h = absurd (true≢false (sym h))
ready_free false a b h = absurd (true≢false (sym h))

pub given_is : (queue : QueueView) (n : ℕ) → next_of queue ≡ Some n → IsGiven queue n
given_is queue n e =
    let found : (n < length queue.marks) × (is_ready queue n ≡ true) = (found_best (is_ready queue) queue.buckets (length queue.marks)).is n e in
    record { node = found.0; free = ready_free _ (is_free (mark_at queue.marks n)) (list_all (λ d. has_package (mark_at queue.marks d)) (depends_at queue.edges n)) found.1 }

-- a turn: a node was given, and has ended
module _ (queue next after : QueueView) (n : ℕ) (well : Bool) (e : next_of queue ≡ Some n) (t : next ≡ with_mark queue n Taken) (d : after ≡ with_mark next n (cond well Done Bad)) where
  pub turned : after ≡ with_mark queue n (cond well Done Bad)
  turned =
      d ∙ ap (λ q. with_mark q n (cond well Done Bad)) t
      ∙ ap (λ marks. record { edges = queue.edges; buckets = queue.buckets; marks = marks; halted = queue.halted }) (set_twice queue.marks n Taken (cond well Done Bad))

  pub turned_size : length after.marks ≡ length queue.marks
  turned_size = ap (λ q. length q.marks) turned ∙ length-set queue.marks n (cond well Done Bad)

  pub turned_less : count_by is_free queue.marks ≡ suc (count_by is_free after.marks)
  turned_less =
      let g : IsGiven queue n = given_is queue n e in
      let sums : count_by is_free (set queue.marks n (cond well Done Bad)) + one_if (is_free (mark_at queue.marks n)) ≡ count_by is_free queue.marks + one_if (is_free (cond well Done Bad)) =
      sum_by-set (λ m. cond (is_free m) 1 0) queue.marks n (cond well Done Bad) IgnoredMark g.node in
      let one : one_if (is_free (mark_at queue.marks n)) ≡ 1 = ap one_if g.free in
      let none : one_if (is_free (cond well Done Bad)) ≡ 0 = ap one_if (ends_not_free well) in
      let there : count_by is_free after.marks ≡ count_by is_free (set queue.marks n (cond well Done Bad)) = ap (λ q. count_by is_free q.marks) turned in
      omega arith

-- what a queue gave so far, and the rest, are the order
pub record IsSoFar (plan : PlanView) (is : IsPlan plan) (kept : KeptPackages) (statuses : List Status) (results : AreResults plan kept statuses) (queue : QueueView) (numbers : List ℕ) : Type 0 where
  pub listed : List ℕ
  pub steps : ℕ
  pub queue_is : queue ≡ queue_after plan is kept statuses results listed
  pub enough : count_by is_free queue.marks ≤ steps
  pub rest : numbers ++ order_from plan kept statuses steps listed ≡ order plan kept statuses

module _ (plan : PlanView) (is : IsPlan plan) (kept : KeptPackages) (statuses : List Status) (results : AreResults plan kept statuses) where
  pub so_far_none : (queue : QueueView) → queue ≡ first_queue plan kept → IsSoFar plan is kept statuses results queue []
  so_far_none queue e = record {
    listed = [];
    steps = count plan;
    queue_is = e;
    enough = (let most : count_by is_free queue.marks ≤ length queue.marks = count_at_most is_free queue.marks in
        let size : length queue.marks ≡ count plan = ap (λ q. length q.marks) e ∙ marks_size plan is kept statuses results [] in omega arith);
    rest = refl;
  }

  none_from : (steps : ℕ) (listed : List ℕ) → best_of plan (may_follow plan kept statuses listed) (count plan) ≡ None → order_from plan kept statuses steps listed ≡ []
  none_from zero listed e = refl
  none_from (suc steps) listed e = ap (λ o. option_map_or (λ n. n ∷ order_from plan kept statuses steps (n ∷ listed)) o []) e

  pub so_far_all : (queue : QueueView) (numbers : List ℕ) → next_of queue ≡ None → IsSoFar plan is kept statuses results queue numbers → numbers ≡ order plan kept statuses
  so_far_all queue numbers e f =
      sym (append-nil numbers)
      ∙ ap (λ rest. numbers ++ rest) (sym (none_from f.steps f.listed (sym (next_is plan is kept statuses results f.listed) ∙ ap next_of (sym f.queue_is) ∙ e)))
      ∙ f.rest

  module _ (queue after : QueueView) (n : ℕ) (well : Bool) (e : next_of queue ≡ Some n) (t : after ≡ with_mark queue n (cond well Done Bad))
      (less : count_by is_free queue.marks ≡ suc (count_by is_free after.marks)) (numbers now : List ℕ) (more : now ≡ numbers ++ n ∷ []) where
    steps_case : (f : IsSoFar plan is kept statuses results queue numbers) → well ≡ is_good (status_in statuses n) → (steps : ℕ) → f.steps ≡ steps
        → IsSoFar plan is kept statuses results after now
    steps_case f w zero s = absurd (let enough : count_by is_free queue.marks ≤ f.steps = f.enough in omega arith)
    steps_case f w (suc steps) s =
        let next : next_of (queue_after plan is kept statuses results f.listed) ≡ Some n = ap next_of (sym f.queue_is) ∙ e in
        record {
          listed = n ∷ f.listed;
          steps = steps;
          queue_is = t ∙ ap (λ q. with_mark q n (cond well Done Bad)) f.queue_is ∙ ap (λ b. with_mark (queue_after plan is kept statuses results f.listed) n (cond b Done Bad)) w
              ∙ ended plan is kept statuses results f.listed n (next_node plan is kept statuses results f.listed n next);
          enough = (let enough : count_by is_free queue.marks ≤ f.steps = f.enough in omega arith);
          rest = ap (λ list. list ++ order_from plan kept statuses steps (n ∷ f.listed)) more ∙ append_assoc numbers (n ∷ []) (order_from plan kept statuses steps (n ∷ f.listed))
              ∙ ap (λ rest. numbers ++ rest)
              (sym (ap (λ k. order_from plan kept statuses k f.listed) s
              ∙ ap (λ o. option_map_or (λ n. n ∷ order_from plan kept statuses steps (n ∷ f.listed)) o []) (sym (next_is plan is kept statuses results f.listed) ∙ next)))
              ∙ f.rest;
        }

    pub so_far_more : (all : List Bool) → TellWell plan statuses all → well ≡ get_or all n false → IsSoFar plan is kept statuses results queue numbers → IsSoFar plan is kept statuses results after now
    so_far_more all tell w f =
        let next : next_of (queue_after plan is kept statuses results f.listed) ≡ Some n = ap next_of (sym f.queue_is) ∙ e in
        steps_case f (w ∙ tell n (next_node plan is kept statuses results f.listed n next).node (next_node plan is kept statuses results f.listed n next).tried) f.steps refl
