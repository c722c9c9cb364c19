-- The first package of each node, one package after another.
use Rattle.std.proofs.Common.{◌≡◌, ℕ, ◌+◌, ◌<◌, Bool, true, false, List, [], ◌∷◌, ◌++◌, length, map, take, get_or, refl, ap, sym, ◌∙◌, cond}
use Rattle.std.specs.Prelude.{Option, Some, None, bytes_eq}
use Rattle.std.specs.Borrow.{Bor}
use Rattle.std.specs.Option.{option_or, option_copied, is_some}
use Rattle.std.specs.List.{find}
use Rattle.std.specs.Ordering.{nat_cmp}
use Rattle.std.specs.Cmp.Lexicographic.{slice_cmp, nat_list_cmp_total, texts_ties, bytes_decides}
use Rattle.std.specs.FinMap as finite
use Rattle.std.proofs.lemmas.List.{take_more, map-append}
use Rattle.bulk_model.specs.Views.{JobView, PackageView, node_of_job, node_of_package}
use Rattle.run_store.specs.First.{Firsts, AreFirst, Gains}

or_none : {X : Type 0} (o : Option X) → option_or o None ≡ o
or_none None = refl
or_none (Some x) = refl

-- a look-up finds a package where the map has one
pub found_is : {X : Type 0} (o : Option (Bor X)) (found : Option X) → option_copied o ≡ found → is_some o ≡ is_some found
found_is None found e = ap is_some e
found_is (Some x) found e = ap is_some e

gains_first : {X : Type 0} (o : Option X) (x : X) → is_some o ≡ false → Some x ≡ option_or o (Some x)
gains_first None x e = refl
gains_first (Some y) x e = cc

keeps_first : {X : Type 0} (o : Option X) (x : X) → is_some o ≡ true → o ≡ option_or o (Some x)
keeps_first None x e = cc
keeps_first (Some y) x e = refl

module _ (firsts : Firsts) (node : List ℕ) (made : PackageView) where
  put_case : is_some (finite.get firsts node) ≡ false → (other : List ℕ) (t : Bool) → bytes_eq other node ≡ t
      → cond t (Some made) (finite.get firsts other) ≡ option_or (finite.get firsts other) (cond t (Some made) None)
  put_case h other true e = gains_first (finite.get firsts other) made (ap (λ n. is_some (finite.get firsts n)) ((bytes_decides other node).0 e) ∙ h)
  put_case h other false e = sym (or_none (finite.get firsts other))

  -- a node that has no package gains the one that is put
  pub gains_put : (new : Firsts) → is_some (finite.get firsts node) ≡ false → new ≡ finite.insert firsts node made → Gains firsts node made new
  gains_put new h e = λ other.
      ap (λ m. finite.get m other) e ∙ finite.get-insert nat_list_cmp_total firsts node made other
      ∙ ap (λ b. cond b (Some made) (finite.get firsts other)) (sym (texts_ties other node))
      ∙ put_case h other (bytes_eq other node) refl

  kept_case : is_some (finite.get firsts node) ≡ true → (other : List ℕ) (t : Bool) → bytes_eq other node ≡ t
      → finite.get firsts other ≡ option_or (finite.get firsts other) (cond t (Some made) None)
  kept_case h other true e = keeps_first (finite.get firsts other) made (ap (λ n. is_some (finite.get firsts n)) ((bytes_decides other node).0 e) ∙ h)
  kept_case h other false e = sym (or_none (finite.get firsts other))

  -- a node that has a package keeps it
  pub gains_kept : is_some (finite.get firsts node) ≡ true → Gains firsts node made firsts
  gains_kept h = λ other. kept_case h other (bytes_eq other node) refl

-- ---- one package more

find_push : {X : Type 0} (p : X → Bool) (xs : List X) (y : X) → find p (xs ++ y ∷ []) ≡ option_or (find p xs) (cond (p y) (Some y) None)
find_push p [] y = refl
find_push p (x ∷ xs) y = first (p x) (find_push p xs y)
  where
    first : (b : Bool) → find p (xs ++ y ∷ []) ≡ option_or (find p xs) (cond (p y) (Some y) None)
        → cond b (Some x) (find p (xs ++ y ∷ [])) ≡ option_or (cond b (Some x) (find p xs)) (cond (p y) (Some y) None)
    first true e = refl
    first false e = e

pub first_none : (firsts : Firsts) → firsts ≡ finite.empty → AreFirst [] firsts
first_none firsts e = λ node. ap (λ m. finite.get m node) e ∙ finite.get-empty (slice_cmp nat_cmp) node

pub first_more : (packages : List PackageView) (at : ℕ) (made : PackageView) (node : List ℕ) (old new : Firsts) → at < length packages → made ≡ get_or packages at made → node ≡ node_of_package made
    → AreFirst (take at packages) old → Gains old node made new → AreFirst (take (at + 1) packages) new
first_more packages at made node old new within is named so_far gains = λ other.
    let whole : take (at + 1) packages ≡ take at packages ++ made ∷ [] = take_more packages at made within ∙ ap (λ p. take at packages ++ p ∷ []) (sym is) in
    gains other
    ∙ ap (λ o. option_or o (cond (bytes_eq other node) (Some made) None)) (so_far other)
    ∙ ap (λ n. option_or (find (λ p. bytes_eq other (node_of_package p)) (take at packages)) (cond (bytes_eq other n) (Some made) None)) named
    ∙ sym (find_push (λ p. bytes_eq other (node_of_package p)) (take at packages) made)
    ∙ ap (find (λ p. bytes_eq other (node_of_package p))) (sym whole)

-- ---- the packages at jobs, one job after another

abbrev pub at_jobs : List PackageView → List JobView → List (Option PackageView)
at_jobs packages jobs = map (λ job. find (λ p. bytes_eq (node_of_job job) (node_of_package p)) packages) jobs

pub kept_more : (packages : List PackageView) (jobs : List JobView) (at : ℕ) (job : JobView) (node : List ℕ) (firsts : Firsts) (found : Option PackageView) (before after : List (Option PackageView))
    → at < length jobs → job ≡ get_or jobs at job → node ≡ node_of_job job → AreFirst packages firsts → found ≡ finite.get firsts node
    → before ≡ at_jobs packages (take at jobs) → after ≡ before ++ found ∷ [] → after ≡ at_jobs packages (take (at + 1) jobs)
kept_more packages jobs at job node firsts found before after within is named first e so_far step =
    let whole : take (at + 1) jobs ≡ take at jobs ++ job ∷ [] = take_more jobs at job within ∙ ap (λ j. take at jobs ++ j ∷ []) (sym is) in
    step
    ∙ ap (λ o. before ++ o ∷ []) (e ∙ first node ∙ ap (λ n. find (λ p. bytes_eq n (node_of_package p)) packages) named)
    ∙ ap (λ os. os ++ find (λ p. bytes_eq (node_of_job job) (node_of_package p)) packages ∷ []) so_far
    ∙ sym (map-append (λ job. find (λ p. bytes_eq (node_of_job job) (node_of_package p)) packages) (take at jobs) (job ∷ []))
    ∙ ap (at_jobs packages) (sym whole)
