-- The second run: what it keeps, deletes and puts before it is stopped.
use Rattle.std.proofs.Common.{◌≡◌, ◌≢◌, ℕ, zero, suc, Bool, true, false, not, List, [], ◌∷◌, refl, ap, sym, subst, ◌∙◌, arith, Option, Some, None, inl, inr, ◌⊎◌}
use Rattle.std.specs.Prelude.{◌&&◌, ◌||◌, codes, is_some, bytes_eq, Contains}
use Rattle.std.specs.List.{find, list_any}
use Rattle.std.specs.FinMap.{remove}
use Rattle.std.proofs.lemmas.Bool.{true≢false}
use Rattle.std.proofs.lemmas.Slice.Eq.{bytes_eq-Decides}
use Rattle.bulk_base.specs.declared.file.Switch.{Switch}
use Rattle.bulk_base.proofs.Members.{Member, any_member, member_any, all_passes, find_contains, contains_find, contains_here, contains_cases, contains_none}
use Rattle.outside.specs.Contents.{Contents}
use Rattle.outside.specs.declared.change.Change.{Change}
use Rattle.bulk_model.specs.declared.depend.DepKind.TheVariants.{Build, Lib}
use Rattle.bulk_model.specs.declared.depend.Recorded.{Recorded}
use Rattle.bulk_model.specs.declared.plan.Kept.{Kept as KeptPackages}
use Rattle.bulk_model.specs.declared.results.Status.TheVariants.{Kept}
use Rattle.bulk_model.specs.Among.{is_recorded_as}
use Rattle.bulk_model.specs.Bake.{Runs, recorded}
use Rattle.bulk_model.specs.FileNames.{package_file}
use Rattle.bulk_model.specs.Journal.{Passes, IsPutOf, ArePuts, saving}
use Rattle.bulk_model.specs.Results.{kept_at}
use Rattle.bulk_model.specs.Sound.{IsClosed, IsWithin, has_all}
use Rattle.bulk_model.specs.Spelling.{spelling, mark}
use Rattle.bulk_model.specs.Views.{JobView, PackageView, node_of_job, node_of_package}
use Rattle.pkg_record.specs.Stored.{packages_in}
use Rattle.stale_check.specs.Fresh.{fresh, IsFree, IsGreatest}
use Rattle.incremental_law.specs.Stores.{HasItsJob}
use Rattle.incremental_law.specs.Journals.{DeletesRest, built_records}
use Rattle.incremental_law.specs.Runs.{IsRunOver, kept_of_run}
use Rattle.incremental_example.specs.Ports.{name_of, bot, left, right, top, need, tree, diamond, bot_package, left_package, right_package, top_package}
use Rattle.incremental_example.specs.Diamond.{HaveOwnDigests, second, concerned, recipes, whole, stopped, save, own_reason, HoldsJust, KeepsJust}
use Rattle.record_laws.proofs.Storing.{after_a_put, after_a_removal}
use Rattle.stale_check.proofs.Passes.{fresh_is_greatest}
use Rattle.incremental_example.proofs.Facts.{is_plan, is_orderly, is_tree, is_of_tree, agrees, within}
use Rattle.incremental_example.proofs.Packages.{right_recorded, no_reason, its_job}
use Rattle.incremental_example.proofs.Still.{kept_status}
use Rattle.incremental_example.proofs.First.{four, full, right_is}

-- ---- what finds the packages at nodes

module _ {X : Type 0} (test : X → Bool) (xs : List X) where
  found : (x : X) → ((y : X) → Contains xs y → test y ≡ true → y ≡ x) → Contains xs x → test x ≡ true → find test xs ≡ Some x
  found x only c passes =
      let f = contains_find test xs x c passes in
      let its = find_contains test xs f.0 f.1 in
      f.1 ∙ ap Some (only f.0 its.0 its.1)

  none_found : ((y : X) → Contains xs y → test y ≡ true → ⊥) → find test xs ≡ None
  none_found none = by (find test xs) refl
    where
      by : (o : Option X) → find test xs ≡ o → find test xs ≡ None
      by None e = e
      by (Some y) e = absurd (let its = find_contains test xs y e in none y its.0 its.1)

-- ---- what passes leave

abbrev members : List PackageView
members = packages_in whole

abbrev own : PackageView → Bool
own = own_reason (tree true)

abbrev remains : List PackageView
remains = fresh own members

abbrev two : List PackageView
two = bot_package ∷ left_package ∷ []

greatest : IsGreatest own members remains
greatest = fresh_is_greatest own members

cases_of_two : (P : PackageView → Type 0) → P bot_package → P left_package → (p : PackageView) → Contains two p → P p
cases_of_two P b l p c =
    elim (contains_cases bot_package (left_package ∷ []) p c) [
      | inl e ↦ subst P e b
      | inr c ↦ elim (contains_cases left_package [] p c) [ inl e ↦ subst P e l | inr c ↦ absurd (contains_none p c) ]
    ]

cases_of_four : (P : PackageView → Type 0) → P bot_package → P left_package → P (right_package false) → P top_package → (p : PackageView) → Contains four p → P p
cases_of_four P b l r t p c =
    elim (contains_cases bot_package (left_package ∷ right_package false ∷ top_package ∷ []) p c) [
      | inl e ↦ subst P e b
      | inr c ↦ elim (contains_cases left_package (right_package false ∷ top_package ∷ []) p c) [
        | inl e ↦ subst P e l
        | inr c ↦ elim (contains_cases (right_package false) (top_package ∷ []) p c) [
          | inl e ↦ subst P e r
          | inr c ↦ elim (contains_cases top_package [] p c) [ inl e ↦ subst P e t | inr c ↦ absurd (contains_none p c) ]
        ]
      ]
    ]

bot_meant : is_recorded_as (recorded (bot_package ∷ []) (need Build (codes "bot"))) bot_package ≡ true
bot_meant = (bytes_eq-Decides (mark bot_package).bytes (mark bot_package).bytes).1 refl

two_within : IsWithin two members
two_within p c =
    (full p).1 (cases_of_two (Contains four) (0, omega arith, refl) (1, omega arith, refl) p c)

two_closed : IsClosed two
two_closed p c =
    cases_of_two (λ q. has_all two q ≡ true) refl
    (ap (λ b. b && true) (member_any (is_recorded_as (recorded (bot_package ∷ []) (need Build (codes "bot")))) two bot_package (contains_here bot_package (left_package ∷ [])) bot_meant)) p c

two_free : IsFree own two
two_free p c =
    cases_of_two (λ q. own q ≡ false) (no_reason (tree true) bot_package bot (0, omega arith, refl) refl refl)
    (no_reason (tree true) left_package left (1, omega arith, refl) refl refl) p c

bot_remains : Contains remains bot_package
bot_remains = greatest.greatest two two_within two_closed two_free bot_package (0, omega arith, refl)

left_remains : Contains remains left_package
left_remains = greatest.greatest two two_within two_closed two_free left_package (1, omega arith, refl)

-- the option tells the two jobs of `right` apart
first_is_off : List Switch → Bool
first_is_off [] = false
first_is_off (switch ∷ switches) = not switch.on

no_job_off : Contains (tree true) (right false) → ⊥
unfolding first_is_off
no_job_off c =
    let no : false ≡ true = all_passes (λ (job : JobView). not (first_is_off job.options)) (tree true) (right false) refl c in
    true≢false (sym no)

module _ (apart : HaveOwnDigests) where
  right_goes : Contains remains (right_package false) → ⊥
  right_goes c =
      let its : HasItsJob (tree true) [] (right_package false) = its_job (tree true) (right_package false) (greatest.free (right_package false) c) in
      no_job_off (subst (Contains (tree true)) (apart its.job (right false) (within true its.job its.stands) (2, omega arith, refl) its.digest) its.stands)

  abbrev on_right : Recorded
  on_right = recorded (left_package ∷ right_package false ∷ []) (need Lib (codes "right"))

  top_goes : Contains remains top_package → ⊥
  top_goes c =
      let has : list_any (is_recorded_as on_right) remains ≡ true =
      all_passes (λ d. list_any (is_recorded_as d) remains) top_package.depends on_right (greatest.closed top_package c) (1, omega arith, refl) in
      let m : Member (is_recorded_as on_right) remains = any_member (is_recorded_as on_right) remains has in
      cases_of_four (λ q. is_recorded_as on_right q ≡ true → Contains remains q → ⊥) (λ e h. true≢false (sym e)) (λ e h. true≢false (sym e)) (λ e h. right_goes h) (λ e h. true≢false (sym e))
      m.one ((full m.one).0 (greatest.within m.one m.is)) m.does m.is

  only_two : (q : PackageView) → Contains remains q → Contains two q
  only_two q c =
      cases_of_four (λ p. Contains remains p → Contains two p) (λ h. (0, omega arith, refl)) (λ h. (1, omega arith, refl)) (λ h. absurd (right_goes h)) (λ h. absurd (top_goes h))
      q ((full q).0 (greatest.within q c)) c

  -- ---- what is kept

  abbrev kept : KeptPackages
  kept = kept_of_run second whole

  keeps_bot : kept_at kept 0 ≡ Some bot_package
  keeps_bot =
      found (λ p. bytes_eq (node_of_job bot) (node_of_package p)) remains bot_package
      (λ q c e. cases_of_two (λ p. bytes_eq (node_of_job bot) (node_of_package p) ≡ true → p ≡ bot_package) (λ t. refl) (λ t. absurd (true≢false (sym t))) q (only_two q c) e) bot_remains refl

  keeps_left : kept_at kept 1 ≡ Some left_package
  keeps_left =
      found (λ p. bytes_eq (node_of_job left) (node_of_package p)) remains left_package
      (λ q c e. cases_of_two (λ p. bytes_eq (node_of_job left) (node_of_package p) ≡ true → p ≡ left_package) (λ t. absurd (true≢false (sym t))) (λ t. refl) q (only_two q c) e) left_remains refl

  builds_right : kept_at kept 2 ≡ None
  builds_right =
      none_found (λ p. bytes_eq (node_of_job (right true)) (node_of_package p)) remains
      (λ q c e. cases_of_two (λ p. bytes_eq (node_of_job (right true)) (node_of_package p) ≡ true → ⊥) (λ t. true≢false (sym t)) (λ t. true≢false (sym t)) q (only_two q c) e)

  builds_top : kept_at kept 3 ≡ None
  builds_top =
      none_found (λ p. bytes_eq (node_of_job top) (node_of_package p)) remains
      (λ q c e. cases_of_two (λ p. bytes_eq (node_of_job top) (node_of_package p) ≡ true → ⊥) (λ t. true≢false (sym t)) (λ t. true≢false (sym t)) q (only_two q c) e)

  pub keeps : KeepsJust second whole (Some bot_package ∷ Some left_package ∷ None ∷ None ∷ [])
  keeps zero l = keeps_bot
  keeps (suc zero) l = keeps_left
  keeps (suc (suc zero)) l = builds_right
  keeps (suc (suc (suc zero))) l = builds_top
  keeps (suc (suc (suc (suc n)))) l = absurd (omega arith)

  -- ---- what is deleted

  name_deleted : (file : List ℕ) → Contains concerned file → (name : List ℕ) × (file ≡ package_file name)
  name_deleted file c =
      elim (contains_cases (package_file (name_of (codes "right"))) (package_file (name_of (codes "top")) ∷ []) file c) [
        | inl e ↦ (name_of (codes "right"), sym e)
        | inr c ↦ elim (contains_cases (package_file (name_of (codes "top"))) [] file c) [ inl e ↦ (name_of (codes "top"), sym e) | inr c ↦ absurd (contains_none file c) ]
      ]

  not_deleted : (file : List ℕ) → list_any (λ other. bytes_eq other file) concerned ≡ false → Contains concerned file → ⊥
  not_deleted file none c = true≢false (sym (member_any (λ other. bytes_eq other file) concerned file c ((bytes_eq-Decides file file).1 refl)) ∙ none)

  rest : DeletesRest own members concerned
  rest = record {
    files = name_deleted;
    spared = λ p c. cases_of_two (λ q. Contains concerned (package_file q.name) → ⊥) (not_deleted (package_file bot_package.name) refl) (not_deleted (package_file left_package.name) refl) p (only_two p c);
    gone = λ p c. cases_of_four (λ q. Contains remains q ⊎ Contains concerned (package_file q.name)) (inl bot_remains) (inl left_remains) (inr (0, omega arith, refl)) (inr (1, omega arith, refl))
        p ((full p).0 c);
  }

  -- ---- what is put

  module _ (runs : Runs) where
    abbrev passes : Passes
    passes = built_records runs (diamond true) kept

    put_right : IsPutOf (diamond true) kept passes [] 2 (save (right_package true))
    put_right = record {
      node = omega arith;
      new = ap is_some builds_right;
      allowed = refl;
      behind = ap (λ (o : Option PackageView). (is_some o || false) && true) keeps_bot;
      bytes = spelling (right_package true);
      passing = record {
        built = right_package true;
        comes = right_is runs true kept builds_right (Kept bot_package) (kept_status runs (diamond true) kept (is_plan true) 0 (omega arith) bot_package keeps_bot) refl refl;
        recorded = right_recorded true;
        spelled = refl;
      };
      is = refl;
    }

    abbrev puts : List Change
    puts = save (right_package true) ∷ []

    abbrev are : ArePuts (diamond true) kept passes [] puts
    are = (2, put_right, tt)

    pub second_is : IsRunOver runs recipes second whole
    second_is = record {
      is_plan = is_plan true;
      orderly = is_orderly true;
      is_tree = is_tree true;
      of_tree = is_of_tree true;
      agrees = agrees true;
      current = λ p free. its_job (tree true) p free;
      rest = rest;
      journal = saving puts are;
    }

-- ---- what the stop leaves

abbrev three : List PackageView
three = bot_package ∷ left_package ∷ right_package true ∷ []

cases_of_three : (P : PackageView → Type 0) → P bot_package → P left_package → P (right_package true) → (p : PackageView) → Contains three p → P p
cases_of_three P b l r p c =
    elim (contains_cases bot_package (left_package ∷ right_package true ∷ []) p c) [
      | inl e ↦ subst P e b
      | inr c ↦ elim (contains_cases left_package (right_package true ∷ []) p c) [
        | inl e ↦ subst P e l
        | inr c ↦ elim (contains_cases (right_package true) [] p c) [ inl e ↦ subst P e r | inr c ↦ absurd (contains_none p c) ]
      ]
    ]

abbrev right_name : List ℕ
right_name = name_of (codes "right")

abbrev top_name : List ℕ
top_name = name_of (codes "top")

-- the contents behind the first removal and behind both
abbrev without_right : Contents
without_right = remove whole (package_file right_name)

abbrev without_both : Contents
without_both = remove without_right (package_file top_name)

other_name : (a b : List ℕ) → bytes_eq a b ≡ false → a ≢ b
other_name a b h e = true≢false (sym ((bytes_eq-Decides a b).1 e) ∙ h)

of_whole : (q : PackageView) → Contains (packages_in without_both) q → Contains three q
of_whole q c =
    let no_top = (after_a_removal without_right top_name q).0 c in
    let no_right = (after_a_removal whole right_name q).0 no_top.0 in
    cases_of_four (λ p. p.name ≢ right_name → p.name ≢ top_name → Contains three p) (λ n m. (0, omega arith, refl)) (λ n m. (1, omega arith, refl)) (λ n m. absurd (n refl)) (λ n m. absurd (m refl))
    q ((full q).0 no_right.0) no_right.1 no_top.1

stays_there : (q : PackageView) → Contains four q → bytes_eq q.name right_name ≡ false → bytes_eq q.name top_name ≡ false → Contains (packages_in stopped) q
stays_there q c n m =
    (after_a_put without_both (right_package true) (right_recorded true) q).1
    (inr (
      (after_a_removal without_right top_name q).1 ((after_a_removal whole right_name q).1 ((full q).1 c, other_name q.name right_name n), other_name q.name top_name m),
      other_name q.name right_name n,
    ))

pub leaves : HoldsJust stopped three
leaves q = (
  λ c. elim ((after_a_put without_both (right_package true) (right_recorded true) q).0 c) [
    | inl e ↦ subst (Contains three) (sym e) (2, omega arith, refl)
    | inr other ↦ of_whole q other.0
  ],
  λ c. cases_of_three (λ p. Contains (packages_in stopped) p) (stays_there bot_package (0, omega arith, refl) refl refl) (stays_there left_package (1, omega arith, refl) refl refl)
      ((after_a_put without_both (right_package true) (right_recorded true) (right_package true)).1 (inl refl)) q c,
)
