-- What is built, begun and stored after some ports of a list.
use Rattle.std.proofs.Common.{◌≡◌, ℕ, zero, suc, ◌+◌, ◌<◌, ◌≤◌, Bool, List, [], ◌∷◌, ◌++◌, ◌∙◌, ap, sym, subst, refl, inl, inr, length, take, get_or, arith}
use Rattle.std.specs.Prelude.{◌⊎◌, Result, Ok, Err, OnOk, OnErr}
use Rattle.std.specs.List.{AllZip}
use Rattle.std.proofs.lemmas.List.{append_assoc, map-append, take_all, take_more}
use Rattle.std.proofs.lemmas.Slice.Zip.{all_zipped_more}
use Rattle.outside.specs.Changes.{Made, changed}
use Rattle.outside.specs.Contents.{Contents}
use Rattle.outside.specs.Outcomes.{GrewByAtMost}
use Rattle.outside.specs.declared.change.Change.{Change}
use Rattle.outside.specs.declared.outer.Outer.{Outer}
use Rattle.outside.specs.declared.outer.Outer.TheVariants.{Fault, NoMemory}
use Rattle.bulk_model.specs.declared.outcome.Outcome.{Outcome}
use Rattle.bulk_model.specs.Bake.{Runs}
use Rattle.bulk_model.specs.Views.{JobView}
use Rattle.one_port.specs.Ending.{BeganFirst}
use Rattle.one_port.specs.PortsWanted.{names_of}
use Rattle.one_port.specs.PortsRun.{IsBuildAlone, AreBuildsOf, HasStoredFirst, KeepsFirst}
use Rattle.one_port.specs.Report.{stored, stored_all}

pub in_error : {X E : Type 0} (result : Result X E) (P : Type 0) → P → OnErr result P
in_error (Ok x) P p = tt
in_error (Err e) P p = p

one_more_job : (jobs : List JobView) (i : ℕ) (job : JobView) → i < length jobs → job ≡ get_or jobs i job → take (i + 1) jobs ≡ take i jobs ++ job ∷ []
one_more_job jobs i job l e = take_more jobs i job l ∙ ap (λ j. take i jobs ++ j ∷ []) (sym e)

-- one more build
pub builds_more : (tells : Bool) (runs : Runs) (jobs : List JobView) (i : ℕ) (job : JobView) (outcomes more : List Outcome) (outcome : Outcome) → i < length jobs → job ≡ get_or jobs i job
    → AreBuildsOf tells runs (take i jobs) outcomes → IsBuildAlone tells runs job outcome → more ≡ outcomes ++ outcome ∷ [] → AreBuildsOf tells runs (take (i + 1) jobs) more
builds_more tells runs jobs i job outcomes more outcome l e h b m =
    subst (λ js. AreBuildsOf tells runs js more) (sym (one_more_job jobs i job l e))
    (subst (λ os. AreBuildsOf tells runs (take i jobs ++ job ∷ []) os) (sym m) (all_zipped_more (IsBuildAlone tells runs) (take i jobs) outcomes job outcome h b))

pub builds_of_all : (tells : Bool) (runs : Runs) (jobs : List JobView) (i : ℕ) (outcomes : List Outcome) → length jobs ≤ i → AreBuildsOf tells runs (take i jobs) outcomes → AreBuildsOf tells runs jobs outcomes
builds_of_all tells runs jobs i outcomes l h = subst (λ js. AreBuildsOf tells runs js outcomes) (take_all i jobs l) h

-- one more name
pub names_more : (jobs : List JobView) (i : ℕ) (job : JobView) (before mid now : List (List ℕ)) → i < length jobs → job ≡ get_or jobs i job
    → mid ≡ before ++ names_of (take i jobs) → now ≡ mid ++ job.name ∷ [] → now ≡ before ++ names_of (take (i + 1) jobs)
names_more jobs i job before mid now l e m n =
    n ∙ ap (λ b. b ++ job.name ∷ []) m ∙ append_assoc before (names_of (take i jobs)) (job.name ∷ [])
    ∙ ap (λ b. before ++ b) (sym (ap names_of (one_more_job jobs i job l e) ∙ map-append (λ j. j.name) (take i jobs) (job ∷ [])))

pub names_of_all : (jobs : List JobView) (i : ℕ) (before now : List (List ℕ)) → length jobs ≤ i → now ≡ before ++ names_of (take i jobs) → now ≡ before ++ names_of jobs
names_of_all jobs i before now l n = n ∙ ap (λ js. before ++ names_of js) (take_all i jobs l)

-- where one more name was begun, or none
pub began_more : (jobs : List JobView) (i : ℕ) (job : JobView) (before mid now : List (List ℕ)) → i < length jobs → job ≡ get_or jobs i job
    → mid ≡ before ++ names_of (take i jobs) → GrewByAtMost job.name mid now → BeganFirst jobs before now
began_more jobs i job before mid now l e m (inl n) = (i + 1, names_more jobs i job before mid now l e m n)
began_more jobs i job before mid now l e m (inr n) = (i, n ∙ m)

-- all names are the names of some first jobs
pub began_all : (jobs : List JobView) (before now : List (List ℕ)) → now ≡ before ++ names_of jobs → BeganFirst jobs before now
began_all jobs before now n = (length jobs, n ∙ ap (λ js. before ++ names_of js) (sym (take_all (length jobs) jobs (omega arith))))

-- a change that was made, and one that was made or not
pub made : {X : Type 0} (change : Change) (before now : Contents) (told_before told_now : List Change) (result : Result X Outer) (after : Contents)
    → Made change before now told_before told_now result → changed change before ≡ after → OnOk result (now ≡ after)
made change before now told_before told_now (Ok x) after h e = h.content ∙ e
made change before now told_before told_now (Err Fault) after h e = tt
made change before now told_before told_now (Err NoMemory) after h e = tt

pub made_or_not : {X : Type 0} (change : Change) (before now : Contents) (told_before told_now : List Change) (result : Result X Outer) (after : Contents)
    → Made change before now told_before told_now result → changed change before ≡ after → OnErr result ((now ≡ before) ⊎ (now ≡ after))
made_or_not change before now told_before told_now (Ok x) after h e = tt
made_or_not change before now told_before told_now (Err Fault) after (inl h) e = inr (h.content ∙ e)
made_or_not change before now told_before told_now (Err Fault) after (inr h) e = inl h.content
made_or_not change before now told_before told_now (Err NoMemory) after h e = inl h.content

-- one more package
stored_all-append : (front back : List Outcome) (store : Contents) → stored_all (front ++ back) store ≡ stored_all back (stored_all front store)
stored_all-append [] back store = refl
stored_all-append (outcome ∷ front) back store = stored_all-append front back (stored outcome store)

pub stored_more : (outcomes : List Outcome) (i : ℕ) (outcome : Outcome) (before mid now : Contents) → i < length outcomes → outcome ≡ get_or outcomes i outcome
    → mid ≡ stored_all (take i outcomes) before → now ≡ stored outcome mid → now ≡ stored_all (take (i + 1) outcomes) before
stored_more outcomes i outcome before mid now l e m n =
    n ∙ ap (stored outcome) m ∙ sym (ap (λ os. stored_all os before) (take_more outcomes i outcome l ∙ ap (λ o. take i outcomes ++ o ∷ []) (sym e)) ∙ stored_all-append (take i outcomes) (outcome ∷ []) before)

pub stored_of_all : (outcomes : List Outcome) (i : ℕ) (before now : Contents) → length outcomes ≤ i → now ≡ stored_all (take i outcomes) before → now ≡ stored_all outcomes before
stored_of_all outcomes i before now l n = n ∙ ap (λ os. stored_all os before) (take_all i outcomes l)

-- where one more package was stored, or none
pub kept_more : (outcomes : List Outcome) (i : ℕ) (outcome : Outcome) (before mid now : Contents) → i < length outcomes → outcome ≡ get_or outcomes i outcome
    → mid ≡ stored_all (take i outcomes) before → (now ≡ mid) ⊎ (now ≡ stored outcome mid) → KeepsFirst outcomes before now
kept_more outcomes i outcome before mid now l e m (inl n) = (i, n ∙ m)
kept_more outcomes i outcome before mid now l e m (inr n) = (i + 1, stored_more outcomes i outcome before mid now l e m n)

pub kept_so_far : (outcomes : List Outcome) (i : ℕ) (before now : Contents) → now ≡ stored_all (take i outcomes) before → KeepsFirst outcomes before now
kept_so_far outcomes i before now n = (i, n)

-- the first outcomes are those of the first jobs
AllZip-take : {A B : Type 0} (R : A → B → Type 0) (xs : List A) (ys : List B) (n : ℕ) → AllZip R xs ys → AllZip R (take n xs) (take n ys)
AllZip-take R xs ys zero h = tt
AllZip-take R [] [] (suc n) h = tt
AllZip-take R [] (y ∷ ys) (suc n) h = absurd h
AllZip-take R (x ∷ xs) [] (suc n) h = absurd h
AllZip-take R (x ∷ xs) (y ∷ ys) (suc n) h = (h.0, AllZip-take R xs ys n h.1)

pub has_stored_first : (tells : Bool) (runs : Runs) (jobs built : List JobView) (outcomes kept : List Outcome) (before now : Contents) → built ≡ jobs → kept ≡ outcomes
    → AreBuildsOf tells runs built outcomes → KeepsFirst kept before now → HasStoredFirst tells runs jobs before now
has_stored_first tells runs jobs built outcomes kept before now b k h (count, n) = record {
  count = count;
  stored = record {
    outcomes = take count outcomes;
    builds = AllZip-take (IsBuildAlone tells runs) jobs outcomes count (subst (λ js. AreBuildsOf tells runs js outcomes) b h);
    content = n ∙ ap (λ os. stored_all (take count os) before) k;
  };
}
