-- One builder's turns.
use Rattle.std.proofs.Common.{◌≡◌, ℕ, suc, ◌<◌, Bool, true, false, List, [], ◌∷◌, ◌++◌, length, get_or, set, refl, ap, sym, subst, ◌∙◌, arith, cond, Option, Some, None, inl, inr, ◌⊎◌, append_assoc, nat_eq}
use Rattle.std.specs.Prelude.{not, map, is_some, Contains}
use Rattle.std.specs.List.{count_by, list_any, IsDistinct}
use Rattle.std.specs.Cmp.{nat_eq_equiv}
use Rattle.std.proofs.lemmas.Bool.{true≢false, both_ways, ne_eqb, cases_eq}
use Rattle.std.proofs.lemmas.List.{get_or-set_same, get_or-set_other, length-set, get_or-map, append-nil, map_push}
use Rattle.std.proofs.lemmas.List.Elements.{filter-append, Contains-append_cases, Contains-append_left, Contains-push}
use Rattle.std.proofs.lemmas.Map.Keys.{IsDistinct-push}
use Rattle.bulk_base.proofs.Members.{any_member, filter_out_of, contains_cases, contains_none}
use Rattle.bulk_model.specs.declared.outcome.Outcome.{Outcome}
use Rattle.bulk_model.specs.declared.outcome.Outcome.TheVariants.{Built as MadePackage, Failed as FailedBuild}
use Rattle.bulk_model.specs.declared.plan.Kept.{Kept as KeptPackages}
use Rattle.bulk_model.specs.declared.results.Status.{Status}
use Rattle.bulk_model.specs.declared.results.Status.TheVariants.{Skipped}
use Rattle.bulk_model.specs.Bake.{Runs}
use Rattle.bulk_model.specs.Baked.{IsBuildOf}
use Rattle.bulk_model.specs.Fit.{FitsKept, FitsPartial, status_in, outcome_at}
use Rattle.bulk_model.specs.PlanView.{PlanView, count, job_at}
use Rattle.bulk_model.specs.PlanFacts.{IsPlan}
use Rattle.bulk_model.specs.Results.{is_good, status_of_outcome}
use Rattle.model_laws.specs.Results.{packages_at}
use Rattle.bucket_queue.specs.declared.mark.Mark.TheVariants.{Taken, Done, Bad}
use Rattle.bucket_queue.specs.QueueView.{QueueView, next_of, with_mark, is_free}
use Rattle.bucket_queue.specs.Taking.{AreResults}
use Rattle.bucket_queue.proofs.Rest.{IsSoFar, turned, turned_less, so_far_more}
use Rattle.bucket_queue.proofs.Telling.{results_size, statuses_tell}
use Rattle.bulk_core.specs.Builder.{Outcomes, names_at, left, Began, MayBegin}
use Rattle.bulk_core.specs.Turns.{is_made, Had, Baked, Turn, Agrees, AreBuilds}
use Rattle.bulk_core.proofs.Marks.{queue_of, within, Next, next_is, at_node, elsewhere, ended_view, fits_more}
use Rattle.bulk_core.proofs.Packages.{packages_same}

-- statuses that agree with one outcome more
pub agrees_before : (plan : PlanView) (kept : KeptPackages) (outcomes : Outcomes) (n : ℕ) (outcome : Outcome) → outcome_at outcomes n ≡ None → (statuses : List Status)
    → Agrees plan kept (set outcomes n (Some outcome)) statuses → Agrees plan kept outcomes statuses
agrees_before plan kept outcomes n outcome new statuses a = record {
  keeps = a.keeps;
  ends = λ m o e. a.ends m o (before m o e (cases_eq m n));
}
  where
    before : (m : ℕ) (o : Outcome) → outcome_at outcomes m ≡ Some o → (m ≡ n) ⊎ (m ≡ n → ⊥) → outcome_at (set outcomes n (Some outcome)) m ≡ Some o
    before m o e (inl same) = let z : Some o ≡ None = sym e ∙ ap (outcome_at outcomes) same ∙ new in cc
    before m o e (inr apart) = get_or-set_other outcomes n m (Some outcome) None apart ∙ e

made_good : (o : Outcome) → is_made o ≡ is_good (status_of_outcome o)
made_good (MadePackage p) = refl
made_good (FailedBuild phase code) = refl

-- a node more, at the end of those that are left
left_more : (given : Outcomes) (numbers : List ℕ) (n : ℕ) (o : Option Outcome) → outcome_at given n ≡ o → left given (numbers ++ n ∷ []) ≡ cond (not (is_some o)) (left given numbers ++ n ∷ []) (left given numbers)
left_more given numbers n o e =
    filter-append (λ m. not (is_some (outcome_at given m))) numbers (n ∷ [])
    ∙ ap (λ x. left given numbers ++ cond (not (is_some x)) (n ∷ []) []) e
    ∙ pushed o
  where
    pushed : (o : Option Outcome) → left given numbers ++ cond (not (is_some o)) (n ∷ []) [] ≡ cond (not (is_some o)) (left given numbers ++ n ∷ []) (left given numbers)
    pushed None = refl
    pushed (Some x) = append-nil (left given numbers)

module _ (tells : Bool) (runs : Runs) (plan : PlanView) (kept : KeptPackages) (given : Outcomes) (before : List (List ℕ)) where
  -- what is known between two turns; `ended` are the outcomes of the nodes that were taken, and `numbers` these nodes
  pub record IsRun (outcomes : Outcomes) (queue : QueueView) (now : List (List ℕ)) : Type 0 where
    pub ended : Outcomes
    pub numbers : List ℕ
    pub queue_is : queue ≡ queue_of plan kept ended
    pub fits : FitsPartial plan kept ended
    pub size : length outcomes ≡ count plan
    pub same : (n : ℕ) (o : Outcome) → outcome_at ended n ≡ Some o → outcome_at outcomes n ≡ Some o
    pub rest : (n : ℕ) → outcome_at ended n ≡ None → outcome_at outcomes n ≡ outcome_at given n
    pub stays : (n : ℕ) (o : Outcome) → outcome_at given n ≡ Some o → outcome_at outcomes n ≡ Some o
    pub taken : (n : ℕ) → Contains numbers n → is_some (outcome_at ended n) ≡ true
    pub listed : (n : ℕ) (o : Outcome) → outcome_at ended n ≡ Some o → Contains numbers n
    pub once : IsDistinct nat_eq (left given numbers)
    pub builds : AreBuilds tells runs plan kept given ended
    pub so_far : (is : IsPlan plan) (statuses : List Status) (results : AreResults plan kept statuses) → Agrees plan kept ended statuses → IsSoFar plan is kept statuses results queue numbers
    pub begun : now ≡ before ++ names_at plan (left given numbers)

  module _ (is : IsPlan plan) (fit : FitsKept plan kept) (outcomes : Outcomes) (queue : QueueView) (now : List (List ℕ)) (run : IsRun outcomes queue now) where
    -- what was begun so far
    may_begin : (n : ℕ) (o : Option Outcome) → outcome_at run.ended n ≡ o → is_some o ≡ true → outcome_at given n ≡ None → MayBegin plan kept given n
    may_begin n None e h g = absurd (true≢false (sym h))
    may_begin n (Some o) e h g = record {
      node = subst (λ k. n < k) run.fits.places (within run.ended n o e);
      kept_not = (run.fits.own n o e).0;
      ignored_not = (run.fits.own n o e).1;
      new = g;
    }

    none_of : (o : Option Outcome) → not (is_some o) ≡ true → o ≡ None
    none_of None e = refl
    none_of (Some o) e = absurd (true≢false (sym e))

    pub those : (n : ℕ) → Contains (left given run.numbers) n → MayBegin plan kept given n
    those n c =
        let of : Contains run.numbers n × (not (is_some (outcome_at given n)) ≡ true) = filter_out_of (λ m. not (is_some (outcome_at given m))) run.numbers n c in
        may_begin n (outcome_at run.ended n) refl (run.taken n of.0) (none_of (outcome_at given n) of.1)

    pub began_now : Began plan kept given before now
    began_now = record { numbers = left given run.numbers; grew = run.begun; once = run.once; those = those }

    -- a node is taken
    module _ (n : ℕ) (e : Some n ≡ next_of queue) where
      pub next : Next plan is kept run.ended run.fits n
      next = next_is plan is kept run.ended run.fits n (ap next_of (sym run.queue_is) ∙ sym e)

      not_taken : (m : ℕ) → Contains run.numbers m → m ≡ n → ⊥
      not_taken m c same = true≢false (sym (run.taken m c) ∙ ap (λ x. is_some (outcome_at run.ended x)) same ∙ ap is_some next.new)

      none_there : (b : Bool) → list_any (nat_eq n) (left given run.numbers) ≡ b → b ≡ false
      none_there false f = refl
      none_there true f =
          let by = any_member (nat_eq n) (left given run.numbers) f in
          absurd (both_ways (nat_eq n by.one) (ne_eqb n by.one (λ q. not_taken by.one (filter_out_of (λ m. not (is_some (outcome_at given m))) run.numbers by.one by.is).0 (sym q))) by.does)

      pub once_more : IsDistinct nat_eq (left given run.numbers ++ n ∷ [])
      once_more = IsDistinct-push nat_eq_equiv (left given run.numbers) n run.once (none_there (list_any (nat_eq n) (left given run.numbers)) refl)

      names_more : names_at plan (left given run.numbers ++ n ∷ []) ≡ names_at plan (left given run.numbers) ++ (job_at plan n).name ∷ []
      names_more = map_push (λ m. (job_at plan m).name) (left given run.numbers) n

      grew_more : (after : List (List ℕ)) → after ≡ now ++ (job_at plan n).name ∷ [] → after ≡ before ++ names_at plan (left given run.numbers ++ n ∷ [])
      grew_more after f =
          f ∙ ap (λ x. x ++ (job_at plan n).name ∷ []) run.begun ∙ append_assoc before (names_at plan (left given run.numbers)) ((job_at plan n).name ∷ [])
          ∙ ap (λ x. before ++ x) (sym names_more)

      -- a build that has no answer
      new_node : outcome_at outcomes n ≡ None → MayBegin plan kept given n
      new_node new = record { node = next.node; kept_not = next.kept_not; ignored_not = next.ignored_not; new = sym (run.rest n next.new) ∙ new }

      those_more : outcome_at outcomes n ≡ None → (m : ℕ) → Contains (left given run.numbers) m ⊎ Contains (n ∷ []) m → MayBegin plan kept given m
      those_more new m (inl c) = those m c
      those_more new m (inr c) = one_case (contains_cases n [] m c)
        where
          one_case : (n ≡ m) ⊎ Contains [] m → MayBegin plan kept given m
          one_case (inl same) = subst (MayBegin plan kept given) same (new_node new)
          one_case (inr none) = absurd (contains_none m none)

      pub began_err : outcome_at outcomes n ≡ None → (after : List (List ℕ)) → (after ≡ now ++ (job_at plan n).name ∷ []) ⊎ (after ≡ now) → Began plan kept given before after
      began_err new after (inl f) = record {
        numbers = left given run.numbers ++ n ∷ [];
        grew = grew_more after f;
        once = once_more;
        those = λ m c. those_more new m (Contains-append_cases (left given run.numbers) (n ∷ []) m c);
      }
      began_err new after (inr f) = subst (Began plan kept given before) (sym f) began_now

      -- it has an outcome now
      module _ (outcome : Outcome) (used : Outcomes) (then : List (List ℕ)) (next_queue after : QueueView) (made : Bool)
          (t : next_queue ≡ with_mark queue n Taken) (a : after ≡ with_mark next_queue n (cond made Done Bad)) (m : made ≡ is_made outcome)
          (used_size : length used ≡ count plan) (used_here : outcome_at used n ≡ Some outcome) (used_else : (k : ℕ) → (k ≡ n → ⊥) → outcome_at used k ≡ outcome_at outcomes k)
          (given_here : (o : Outcome) → outcome_at given n ≡ Some o → Some outcome ≡ Some o)
          (build : (statuses : List Status) → Agrees plan kept run.ended statuses → outcome_at given n ≡ None → IsBuildOf tells runs plan.base (job_at plan n) (packages_at plan (status_in statuses) n) outcome)
          (once_now : IsDistinct nat_eq (left given (run.numbers ++ n ∷ []))) (begun_now : then ≡ before ++ names_at plan (left given (run.numbers ++ n ∷ []))) where
        abbrev ended_now : Outcomes
        ended_now = set run.ended n (Some outcome)

        here : outcome_at ended_now n ≡ Some outcome
        here = at_node plan is kept run.ended run.fits n next outcome

        else_where : (k : ℕ) → (k ≡ n → ⊥) → outcome_at ended_now k ≡ outcome_at run.ended k
        else_where k apart = elsewhere plan is kept run.ended run.fits n next outcome k apart

        is_turned : after ≡ with_mark queue n (cond made Done Bad)
        is_turned = turned queue next_queue after n made (sym e) t a

        queue_now : after ≡ queue_of plan kept ended_now
        queue_now =
            is_turned ∙ ap (λ q. with_mark q n (cond made Done Bad)) run.queue_is
            ∙ ap (λ b. with_mark (queue_of plan kept run.ended) n (cond b Done Bad)) m ∙ ended_view plan is kept run.ended run.fits n next outcome

        same_case : (k : ℕ) (o : Outcome) → outcome_at ended_now k ≡ Some o → (k ≡ n) ⊎ (k ≡ n → ⊥) → outcome_at used k ≡ Some o
        same_case k o f (inl same) = ap (outcome_at used) same ∙ used_here ∙ sym here ∙ ap (outcome_at ended_now) (sym same) ∙ f
        same_case k o f (inr apart) = used_else k apart ∙ run.same k o (sym (else_where k apart) ∙ f)

        rest_case : (k : ℕ) → outcome_at ended_now k ≡ None → (k ≡ n) ⊎ (k ≡ n → ⊥) → outcome_at used k ≡ outcome_at given k
        rest_case k f (inl same) = let z : Some outcome ≡ None = sym here ∙ ap (outcome_at ended_now) (sym same) ∙ f in cc
        rest_case k f (inr apart) = used_else k apart ∙ run.rest k (sym (else_where k apart) ∙ f)

        stays_case : (k : ℕ) (o : Outcome) → outcome_at given k ≡ Some o → (k ≡ n) ⊎ (k ≡ n → ⊥) → outcome_at used k ≡ Some o
        stays_case k o f (inl same) = ap (outcome_at used) same ∙ used_here ∙ given_here o (ap (outcome_at given) (sym same) ∙ f)
        stays_case k o f (inr apart) = used_else k apart ∙ run.stays k o f

        taken_case : (k : ℕ) → Contains run.numbers k ⊎ Contains (n ∷ []) k → (k ≡ n) ⊎ (k ≡ n → ⊥) → is_some (outcome_at ended_now k) ≡ true
        taken_case k c (inl same) = ap (λ x. is_some (outcome_at ended_now x)) same ∙ ap is_some here
        taken_case k (inl c) (inr apart) = ap is_some (else_where k apart) ∙ run.taken k c
        taken_case k (inr c) (inr apart) = one_case (contains_cases n [] k c)
          where
            one_case : (n ≡ k) ⊎ Contains [] k → is_some (outcome_at ended_now k) ≡ true
            one_case (inl same) = absurd (apart (sym same))
            one_case (inr none) = absurd (contains_none k none)

        listed_case : (k : ℕ) (o : Outcome) → outcome_at ended_now k ≡ Some o → (k ≡ n) ⊎ (k ≡ n → ⊥) → Contains (run.numbers ++ n ∷ []) k
        listed_case k o f (inl same) = subst (Contains (run.numbers ++ n ∷ [])) (sym same) (Contains-push run.numbers n)
        listed_case k o f (inr apart) = Contains-append_left run.numbers (n ∷ []) k (run.listed k o (sym (else_where k apart) ∙ f))

        agrees_then : (statuses : List Status) → Agrees plan kept ended_now statuses → Agrees plan kept run.ended statuses
        agrees_then statuses f = agrees_before plan kept run.ended n outcome next.new statuses f

        build_case : (statuses : List Status) → Agrees plan kept ended_now statuses → (k : ℕ) (o : Outcome) → outcome_at ended_now k ≡ Some o → outcome_at given k ≡ None → (k ≡ n) ⊎ (k ≡ n → ⊥)
            → IsBuildOf tells runs plan.base (job_at plan k) (packages_at plan (status_in statuses) k) o
        build_case statuses f k o h g (inl same) =
            let z : Some outcome ≡ Some o = sym here ∙ ap (outcome_at ended_now) (sym same) ∙ h in
            let one : outcome ≡ o = cc in
            subst (λ x. IsBuildOf tells runs plan.base (job_at plan x) (packages_at plan (status_in statuses) x) o) (sym same)
            (subst (IsBuildOf tells runs plan.base (job_at plan n) (packages_at plan (status_in statuses) n)) one (build statuses (agrees_then statuses f) (ap (outcome_at given) (sym same) ∙ g)))
        build_case statuses f k o h g (inr apart) = run.builds statuses (agrees_then statuses f) k o (sym (else_where k apart) ∙ h) g

        well_is : (statuses : List Status) → AreResults plan kept statuses → Agrees plan kept ended_now statuses → made ≡ get_or (map is_good statuses) n false
        well_is statuses results f =
            m ∙ made_good outcome ∙ ap is_good (sym (f.ends n outcome here))
            ∙ sym (get_or-map is_good statuses n Skipped false (subst (λ k. n < k) (sym (results_size plan kept statuses results)) next.node))

        pub less : count_by is_free queue.marks ≡ suc (count_by is_free after.marks)
        less = turned_less queue next_queue after n made (sym e) t a

        pub run_more : IsRun used after then
        run_more = record {
          ended = ended_now;
          numbers = run.numbers ++ n ∷ [];
          queue_is = queue_now;
          fits = fits_more plan is kept run.ended run.fits n next outcome;
          size = used_size;
          same = λ k o f. same_case k o f (cases_eq k n);
          rest = λ k f. rest_case k f (cases_eq k n);
          stays = λ k o f. stays_case k o f (cases_eq k n);
          taken = λ k c. taken_case k (Contains-append_cases run.numbers (n ∷ []) k c) (cases_eq k n);
          listed = λ k o f. listed_case k o f (cases_eq k n);
          once = once_now;
          builds = λ statuses f k o h g. build_case statuses f k o h g (cases_eq k n);
          so_far = λ is statuses results f.
              so_far_more plan is kept statuses results queue after n made (sym e) is_turned less run.numbers (run.numbers ++ n ∷ []) refl (map is_good statuses)
              (statuses_tell plan kept statuses results (map is_good statuses) refl) (well_is statuses results f) (run.so_far is statuses results (agrees_then statuses f));
          begun = begun_now;
        }

      -- a turn
      module _ (used : Outcomes) (then : List (List ℕ)) (next_queue after : QueueView) (made : Bool) (t : next_queue ≡ with_mark queue n Taken) (a : after ≡ with_mark next_queue n (cond made Done Bad)) where
        had_here : (h : Had plan n outcomes used now then made) → outcome_at given n ≡ Some h.outcome
        had_here h = sym (run.rest n next.new) ∙ h.there

        had_more : Had plan n outcomes used now then made → IsRun used after then
        had_more h =
            let left_same : left given (run.numbers ++ n ∷ []) ≡ left given run.numbers = left_more given run.numbers n (Some h.outcome) (had_here h) in
            run_more h.outcome used then next_queue after made t a h.made_is
            (ap length h.same ∙ run.size) (ap (λ x. outcome_at x n) h.same ∙ h.there) (λ k apart. ap (λ x. outcome_at x k) h.same)
            (λ o g. sym (had_here h) ∙ g)
            (λ statuses f g. absurd (let z : Some h.outcome ≡ None = sym (had_here h) ∙ g in cc))
            (subst (IsDistinct nat_eq) (sym left_same) run.once)
            (h.begun_is ∙ run.begun ∙ ap (λ x. before ++ names_at plan x) (sym left_same))

        baked_more : Baked tells runs plan kept n outcomes used now then made → IsRun used after then
        baked_more b =
            let given_none : outcome_at given n ≡ None = sym (run.rest n next.new) ∙ b.new in
            let left_now : left given (run.numbers ++ n ∷ []) ≡ left given run.numbers ++ n ∷ [] = left_more given run.numbers n None given_none in
            run_more b.outcome used then next_queue after made t a b.made_is
            (ap length b.after_is ∙ length-set outcomes n (Some b.outcome) ∙ run.size)
            (ap (λ x. outcome_at x n) b.after_is ∙ get_or-set_same outcomes n (Some b.outcome) None (subst (λ k. n < k) (sym run.size) next.node))
            (λ k apart. ap (λ x. outcome_at x k) b.after_is ∙ get_or-set_other outcomes n k (Some b.outcome) None apart)
            (λ o g. absurd (let z : Some o ≡ None = sym g ∙ given_none in cc))
            (λ statuses f g. subst (λ packages. IsBuildOf tells runs plan.base (job_at plan n) packages b.outcome)
            (packages_same plan is kept fit run.ended run.fits outcomes run.same statuses f n next.node next.behind) b.build)
            (subst (IsDistinct nat_eq) (sym left_now) once_more)
            (grew_more then b.begun_is ∙ ap (λ x. before ++ names_at plan x) (sym left_now))

        pub turn_more : Turn tells runs plan kept n outcomes used now then made → IsRun used after then
        turn_more (inl h) = had_more h
        turn_more (inr b) = baked_more b

        pub turn_less : Turn tells runs plan kept n outcomes used now then made → count_by is_free after.marks < count_by is_free queue.marks
        turn_less h = omega (arith, turned_less queue next_queue after n made (sym e) t a)
