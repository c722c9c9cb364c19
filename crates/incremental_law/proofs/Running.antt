-- A run over a content: after its deletions, and after each of its puts.
use Rattle.std.proofs.Common.{◌≡◌, ℕ, ◌<◌, ◌≤◌, Bool, true, false, List, [], ◌∷◌, ◌++◌, length, take, drop, ap, sym, subst, ◌∙◌, refl, arith, Option, Some, inl, inr, ◌⊎◌}
use Rattle.std.specs.Prelude.{◌||◌, ◌≢◌, nat_eq, map, bytes_eq, is_some, None, Contains, if◌then◌else◌}
use Rattle.std.specs.Option.{option_map_or}
use Rattle.std.specs.FinMap.{remove, insert}
use Rattle.std.specs.List.{list_all, take-map}
use Rattle.std.proofs.lemmas.Bool.{or_cases, cases_Bool, eqb-true, eq-eqb, true≢false}
use Rattle.std.proofs.lemmas.Slice.Eq.{bytes_eq-Decides}
use Rattle.std.proofs.lemmas.List.{take-append-drop, take_all, length-take, length-append}
use Rattle.std.proofs.lemmas.List.Elements.{Contains-append_left}
use Rattle.bulk_base.proofs.Members.{contains_here, contains_more, contains_cases, contains_none, all_passes, has_contains, contains_has}
use Rattle.outside.specs.Changes.{changed, replayed}
use Rattle.outside.specs.Contents.{Contents}
use Rattle.outside.specs.declared.change.Change.{Change}
use Rattle.outside.specs.declared.change.Change.TheVariants.{Put, Remove}
use Rattle.outside.proofs.Journals.{replayed-append}
use Rattle.bulk_model.specs.declared.plan.Kept.{Kept as KeptPackages}
use Rattle.bulk_model.specs.Bake.{Runs}
use Rattle.bulk_model.specs.FileNames.{package_file, catalogue_file}
use Rattle.bulk_model.specs.Installs.{has}
use Rattle.bulk_model.specs.Journal.{IsJournal, IsPutOf, ArePuts, removals, deleting, saving, ended}
use Rattle.bulk_model.specs.PlanView.{PlanView, count, depends, is_ignored}
use Rattle.bulk_model.specs.declared.results.Status.TheVariants.{Kept, Ignored}
use Rattle.bulk_model.specs.Results.{bakes_by, is_kept, kept_at, package_in, status_of_build}
use Rattle.bulk_model.specs.Sound.{Recipe, IsSound, IsClosed, IsWithin}
use Rattle.bulk_model.specs.Spelling.{spelling}
use Rattle.bulk_model.specs.Views.{JobView, PackageView}
use Rattle.bulk_model.proofs.FileNames.{package_file_apart}
use Rattle.pkg_record.specs.Stored.{packages_in}
use Rattle.record_laws.proofs.Storing.{after_a_put, after_a_removal, other_put}
use Rattle.model_laws.proofs.Following.{results_unfold}
use Rattle.model_laws.proofs.Graph.{target_below}
use Rattle.model_laws.proofs.Rounds.{fewer_stay_sound}
use Rattle.stale_check.specs.Fresh.{fresh}
use Rattle.stale_check.proofs.Passes.{fresh_is_greatest}
use Rattle.stale_check.specs.Kept.{kept_by}
use Rattle.incremental_law.specs.Stores.{IsStore}
use Rattle.incremental_law.specs.Runs.{put_nodes}
use Rattle.incremental_law.specs.Saves.{IsSave}
use Rattle.incremental_law.specs.Journals.{IsBuiltRecord, built_records, DeletesRest, IsPastDeletions}
use Rattle.incremental_law.proofs.Adding.{Comes, res, built_says}
use Rattle.incremental_law.proofs.Making.{fresh_made, placed, kept_at-among}
use Rattle.incremental_law.proofs.Matching.{kept_is}
use Rattle.incremental_law.proofs.Recording.{IsThere, has_depends}
use Rattle.incremental_law.proofs.Saving.{Holds, start, step, holds_same}

-- ---- deletions of packages' files

abbrev AreFiles : List (List ℕ) → Type 0
AreFiles files = (file : List ℕ) → Contains files file → (name : List ℕ) × (file ≡ package_file name)

pub left_after : (files : List (List ℕ)) (content : Contents) → AreFiles files → (q : PackageView)
    → Contains (packages_in (replayed (removals files) content)) q → Contains (packages_in content) q × (Contains files (package_file q.name) → ⊥)
left_after [] content are q c = (c, λ h. contains_none (package_file q.name) h)
left_after (file ∷ files) content are q c =
    let name = are file (contains_here file files) in
    let more = left_after files (remove content file) (λ f h. are f (contains_more file files f h)) q c in
    let other = (after_a_removal content name.0 q).0 (subst (λ f. Contains (packages_in (remove content f)) q) name.1 more.0) in (
      other.0,
      λ h. elim (contains_cases file files (package_file q.name) h) [
        | inl e ↦ other.1 (package_file_apart q.name name.0 (sym e ∙ name.1))
        | inr d ↦ more.1 d
      ],
    )

pub stays_after : (files : List (List ℕ)) (content : Contents) → AreFiles files → (q : PackageView)
    → Contains (packages_in content) q → (Contains files (package_file q.name) → ⊥) → Contains (packages_in (replayed (removals files) content)) q
stays_after [] content are q c free = c
stays_after (file ∷ files) content are q c free =
    let name = are file (contains_here file files) in
    let here : Contains (packages_in (remove content (package_file name.0))) q =
    (after_a_removal content name.0 q).1 (c, λ e. free (subst (λ f. Contains (file ∷ files) f) (name.1 ∙ ap package_file (sym e)) (contains_here file files))) in
    stays_after files (remove content file) (λ f h. are f (contains_more file files f h)) q
    (subst (λ f. Contains (packages_in (remove content f)) q) (sym name.1) here)
    (λ h. free (contains_more file files (package_file q.name) h))

-- some first deletions are deletions
front_of : {X : Type 0} (n : ℕ) (xs : List X) (x : X) → Contains (take n xs) x → Contains xs x
front_of n xs x h = subst (λ ys. Contains ys x) (take-append-drop n xs) (Contains-append_left (take n xs) (drop n xs) x h)

or_front : (a : Bool) → a ≡ true → (a || false) ≡ true
or_front true h = refl
or_front false h = h

or_more : (a b c : Bool) → (a || c) ≡ true → (a || (b || c)) ≡ true
or_more true b c h = refl
or_more false true c h = refl
or_more false false c h = h

or_this : (a b c : Bool) → b ≡ true → (a || (b || c)) ≡ true
or_this true b c h = refl
or_this false true c h = refl
or_this false false c h = absurd (cc h)

or_none : (a : Bool) → (a || false) ≡ true → a ≡ true
or_none true h = refl
or_none false h = h

or_new : (a : Bool) (n d : ℕ) (b : Bool) → (a || (nat_eq n d || b)) ≡ true → (n ≡ d) ⊎ ((a || b) ≡ true)
or_new true n d b h = inr refl
or_new false n d b h = elim (or_cases (nat_eq n d) b h) [ inl e ↦ inl (eqb-true n d e) | inr t ↦ inr t ]

decided : (a b : List ℕ) → (a ≡ b) ⊎ (a ≢ b)
decided a b = elim (cases_Bool (bytes_eq a b)) [
  | inl e ↦ inl ((bytes_eq-Decides a b).0 e)
  | inr f ↦ inr (λ e. true≢false (sym ((bytes_eq-Decides a b).1 e) ∙ f))
]

whole_front : {X : Type 0} (n : ℕ) (xs more : List X) → take n xs ≡ xs ++ more → take n xs ≡ xs
whole_front n xs more e = take_all n xs (omega (arith, length-take n xs, ap length e, length-append xs more))

module _ (runs : Runs) (table : List Recipe) (plan : PlanView) (tree : List JobView) (own : PackageView → Bool) (content : Contents) (deleted : List (List ℕ))
    (store : IsStore runs table plan tree own (packages_in content)) (rest : DeletesRest own (packages_in content) deleted) where
  abbrev kept : KeptPackages
  kept = kept_by plan own (packages_in content)

  abbrev left : List PackageView
  left = fresh own (packages_in content)

  abbrev HoldsAt : Contents → Type 0
  HoldsAt now = Holds runs table plan tree own (packages_in content) store (packages_in now)

  -- while files are deleted
  deleting_sound : (steps : ℕ) → IsSound runs table (packages_in (replayed (take steps (removals deleted)) content))
  deleting_sound steps =
      fewer_stay_sound runs table (packages_in content) (packages_in (replayed (take steps (removals deleted)) content)) store.sound
      (λ q c. (left_after (take steps deleted) content (λ f h. rest.files f (front_of steps deleted f h)) q
      (subst (λ cs. Contains (packages_in (replayed cs content)) q) (take-map Remove steps deleted) c)).0)

  -- when all are deleted
  abbrev begun : Contents
  begun = replayed (removals deleted) content

  deleted_holds : HoldsAt begun
  deleted_holds =
      holds_same runs table plan tree own (packages_in content) store left (packages_in begun)
      (λ q c. let h = left_after deleted content rest.files q c in elim (rest.gone q h.0) [ inl f ↦ f | inr d ↦ absurd (h.1 d) ])
      (λ q c. stays_after deleted content rest.files q ((fresh_is_greatest own (packages_in content)).within q c) (rest.spared q c))
      (start runs table plan tree own (packages_in content) store)

  abbrev AreThere : List ℕ → Contents → Type 0
  AreThere done now = (d : ℕ) → d < count plan → (is_kept kept d || has done d) ≡ true → IsThere runs plan kept (packages_in now) d

  -- the package that is kept at a node is left
  kept_there : (d : ℕ) → d < count plan → (now : Contents) → HoldsAt now → ((q : PackageView) → Contains left q → Contains (packages_in now) q) → is_kept kept d ≡ true → IsThere runs plan kept (packages_in now) d
  kept_there d l now h back k = kept_case (kept_at kept d) refl
    where
      kept_case : (o : Option PackageView) → kept_at kept d ≡ o → IsThere runs plan kept (packages_in now) d
      kept_case None e = absurd (let no : false ≡ true = ap is_some (sym e) ∙ k in cc)
      kept_case (Some p) e = record {
        one = p;
        comes = ap package_in (results_unfold (bakes_by runs plan) plan kept store.is_plan d l ∙ ap (λ o. option_map_or Kept o (if is_ignored plan d then Ignored else status_of_build (bakes_by runs plan) plan (res runs plan kept) d)) e);
        is = back p (kept_is plan store.is_plan store.orderly left (fresh_is_greatest own (packages_in content)).closed (placed runs table plan tree own (packages_in content) store) d p (sym (kept_at-among plan left d l) ∙ e)).0;
      }

  begun_there : AreThere [] begun
  begun_there d l k = kept_there d l begun deleted_holds (λ q c. stays_after deleted content rest.files q ((fresh_is_greatest own (packages_in content)).within q c) (rest.spared q c)) (or_none (is_kept kept d) k)

  -- ---- one put

  record Stands (done : List ℕ) (now : Contents) : Type 0 where
    holds : HoldsAt now
    there : AreThere done now

  module _ (done : List ℕ) (now : Contents) (before : Stands done now) (n : ℕ) (change : Change) (put : IsPutOf plan kept (built_records runs plan kept) done n change) where
    new : IsBuiltRecord runs plan kept n put.bytes
    new = put.passing

    says : Comes plan n new.built
    says = built_says runs plan kept store.is_plan n new.built put.node new.comes

    after : changed change now ≡ insert now (package_file new.built.name) (spelling new.built)
    after = ap (λ c. changed c now) put.is ∙ (λ t. insert now (package_file (sym says.says.name t)) (new.spelled t))

    save : IsSave runs plan kept (packages_in now) new.built
    save = record {
      node = n;
      below = put.node;
      built = new.comes;
      depends = has_depends runs table plan tree own kept (packages_in content) store (fresh_made runs table plan tree own (packages_in content) store) n new.built put.node new.comes (packages_in now)
          (λ d c. before.there d (target_below plan store.is_plan n d put.node c) (all_passes (λ x. is_kept kept x || has done x) (depends plan n) d put.behind c));
    }

    more : Holds runs table plan tree own (packages_in content) store (new.built ∷ packages_in now)
    more = step runs table plan tree own (packages_in content) store (packages_in now) new.built before.holds save

    into : (q : PackageView) → Contains (packages_in (changed change now)) q → Contains (new.built ∷ packages_in now) q
    into q c =
        elim ((after_a_put now new.built new.recorded q).0 (subst (λ m. Contains (packages_in m) q) after c)) [
          | inl e ↦ subst (λ x. Contains (new.built ∷ packages_in now) x) (sym e) (contains_here new.built (packages_in now))
          | inr o ↦ contains_more new.built (packages_in now) q o.0
        ]

    back_case : (q : PackageView) → Contains (new.built ∷ packages_in now) q → (q.name ≡ new.built.name) ⊎ (q.name ≢ new.built.name) → Contains (packages_in now) q → (q ≡ new.built) ⊎ (Contains (packages_in now) q × (q.name ≢ new.built.name))
    back_case q c (inl e) d = inl (more.names q new.built c (contains_here new.built (packages_in now)) e)
    back_case q c (inr o) d = inr (d, o)

    back : (q : PackageView) → Contains (new.built ∷ packages_in now) q → Contains (packages_in (changed change now)) q
    back q c =
        subst (λ m. Contains (packages_in m) q) (sym after)
        ((after_a_put now new.built new.recorded q).1
        (elim (contains_cases new.built (packages_in now) q c) [ inl e ↦ inl (sym e) | inr d ↦ back_case q c (decided q.name new.built.name) d ]))

    there_case : (d : ℕ) → d < count plan → (is_kept kept d || (nat_eq n d || has done d)) ≡ true → (n ≡ d) ⊎ ((is_kept kept d || has done d) ≡ true) → IsThere runs plan kept (packages_in (changed change now)) d
    there_case d l k (inl e) = subst (λ m. IsThere runs plan kept (packages_in (changed change now)) m) e (record { one = new.built; comes = ap package_in new.comes; is = back new.built (contains_here new.built (packages_in now)) })
    there_case d l k (inr h) =
        let t = before.there d l h in
        record { one = t.one; comes = t.comes; is = back t.one (contains_more new.built (packages_in now) t.one t.is) }

    next : Stands (n ∷ done) (changed change now)
    next = record {
      holds = holds_same runs table plan tree own (packages_in content) store (new.built ∷ packages_in now) (packages_in (changed change now)) into back more;
      there = λ d l k. there_case d l k (or_new (is_kept kept d) n d (has done d) k);
    }

  -- ---- all puts

  putting : (puts : List Change) (done : List ℕ) (now : Contents) → ArePuts plan kept (built_records runs plan kept) done puts → Stands done now → HoldsAt (replayed puts now)
  putting [] done now are before = before.holds
  putting (change ∷ puts) done now are before = putting puts (are.0 ∷ done) (changed change now) are.2 (next done now before are.0 change are.1)

  -- what is kept or put is there
  putting_there : (puts : List Change) (done : List ℕ) (now : Contents) (are : ArePuts plan kept (built_records runs plan kept) done puts) → Stands done now → (d : ℕ) → d < count plan
      → ((is_kept kept d || has done d) ≡ true) ⊎ Contains (put_nodes plan kept (built_records runs plan kept) done puts are) d → IsThere runs plan kept (packages_in (replayed puts now)) d
  putting_there [] done now are before d l (inl h) = before.there d l h
  putting_there [] done now are before d l (inr c) = absurd (contains_none d c)
  putting_there (change ∷ puts) done now are before d l h =
      putting_there puts (are.0 ∷ done) (changed change now) are.2 (next done now before are.0 change are.1) d l
      (elim h [
        | inl k ↦ inl (or_more (is_kept kept d) (nat_eq are.0 d) (has done d) k)
        | inr c ↦ elim (contains_cases are.0 (put_nodes plan kept (built_records runs plan kept) (are.0 ∷ done) puts are.2) d c) [
          | inl e ↦ inl (or_this (is_kept kept d) (nat_eq are.0 d) (has done d) (eq-eqb are.0 d e))
          | inr m ↦ inr m
        ]
      ])

  pub ended_there : (puts : List Change) (catalogue : List ℕ) (are : ArePuts plan kept (built_records runs plan kept) [] puts) (d : ℕ) → d < count plan
      → (is_kept kept d ≡ true) ⊎ Contains (put_nodes plan kept (built_records runs plan kept) [] puts are) d
      → IsThere runs plan kept (packages_in (replayed (removals deleted ++ puts ++ Put catalogue_file catalogue ∷ []) content)) d
  ended_there puts catalogue are d l h =
      let before = replayed puts begun in
      let t = putting_there puts [] begun are (record { holds = deleted_holds; there = begun_there }) d l (elim h [ inl k ↦ inl (or_front (is_kept kept d) k) | inr c ↦ inr c ]) in
      let all : replayed (removals deleted ++ puts ++ Put catalogue_file catalogue ∷ []) content ≡ insert before catalogue_file catalogue =
      replayed-append (removals deleted ++ puts) (Put catalogue_file catalogue ∷ []) content ∙ ap (λ c. insert c catalogue_file catalogue) (replayed-append (removals deleted) puts content) in
      record { one = t.one; comes = t.comes; is = subst (λ c. Contains (packages_in c) t.one) (sym all) ((other_put before catalogue_file catalogue refl t.one).1 t.is) }

  saved_holds : (puts : List Change) → ArePuts plan kept (built_records runs plan kept) [] puts → HoldsAt (replayed (removals deleted ++ puts) content)
  saved_holds puts are =
      subst HoldsAt (sym (replayed-append (removals deleted) puts content))
      (putting puts [] begun are (record { holds = deleted_holds; there = begun_there }))

  pub ended_holds : (puts : List Change) (catalogue : List ℕ) → ArePuts plan kept (built_records runs plan kept) [] puts → HoldsAt (replayed (removals deleted ++ puts ++ Put catalogue_file catalogue ∷ []) content)
  ended_holds puts catalogue are =
      let before = replayed (removals deleted ++ puts) content in
      let same = λ (q : PackageView). other_put before catalogue_file catalogue refl q in
      subst HoldsAt (sym (replayed-append (removals deleted ++ puts) (Put catalogue_file catalogue ∷ []) content))
      (holds_same runs table plan tree own (packages_in content) store (packages_in before) (packages_in (insert before catalogue_file catalogue)) (λ q c. (same q).0 c) (λ q c. (same q).1 c) (saved_holds puts are))

  pub sound_at : (changes : List Change) → IsJournal plan kept (built_records runs plan kept) deleted changes → IsSound runs table (packages_in (replayed changes content))
  sound_at changes (deleting steps) = deleting_sound steps
  sound_at changes (saving puts are) = (saved_holds puts are).sound
  sound_at changes (ended puts catalogue are) = (ended_holds puts catalogue are).sound

  all_deleted : (steps : ℕ) (more : List Change) → take steps (removals deleted) ≡ removals deleted ++ more → take steps (removals deleted) ≡ removals deleted
  all_deleted steps more e = whole_front steps (removals deleted) more e

  pub closed_at : (changes : List Change) → IsJournal plan kept (built_records runs plan kept) deleted changes → IsPastDeletions deleted changes → IsClosed (packages_in (replayed changes content))
  closed_at changes (deleting steps) past =
      subst (λ cs. IsClosed (packages_in (replayed cs content))) (sym (all_deleted steps past.0 past.1)) deleted_holds.closed
  closed_at changes (saving puts are) past = (saved_holds puts are).closed
  closed_at changes (ended puts catalogue are) past = (ended_holds puts catalogue are).closed
