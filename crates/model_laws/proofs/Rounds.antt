-- What is installed for a package is the same in each closed set that has it, and rounds find all of it: so soundness
-- of closed sets and soundness by rounds are one.
use Rattle.std.proofs.Common.{◌≡◌, ℕ, zero, suc, Bool, true, List, length, sym, subst, ◌∙◌, inl, inr, ap}
use Rattle.std.specs.Prelude.{◌&&◌, Contains}
use Rattle.std.specs.List.{list_any}
use Rattle.std.proofs.lemmas.Bool.{and_parts, or_cases}
use Rattle.bulk_base.proofs.Members.{any_member, member_any, filter_into, filter_out_of}
use Rattle.bulk_model.specs.declared.depend.Recorded.{Recorded}
use Rattle.bulk_model.specs.Among.{is_recorded_as, Installed, direct, later, AreInOrder, AreInstalls, is_depend, later_records, installs_among}
use Rattle.bulk_model.specs.Bake.{Runs, bake}
use Rattle.bulk_model.specs.Grown.{grown}
use Rattle.bulk_model.specs.Installs.{is_needed_later}
use Rattle.bulk_model.specs.Sound.{Recipe, IsClosed, IsWithin, HasNames, IsMade, IsSound, by_node, closed_part, IsMadeAmong, IsSoundByRounds}
use Rattle.bulk_model.specs.Views.{PackageView}
use Rattle.model_laws.specs.Soundness.{IsGreatestClosed}
use Rattle.model_laws.proofs.Closing.{recorded_name, Meant, meant_in, part_within, part_closed, part_is_greatest, part_order}
use Rattle.model_laws.proofs.Growing.{grown_first, grown_adds, grown_full}
use Rattle.model_laws.proofs.Ordered.{filter_order, same_order, by_node_into, by_node_out_of, members_are_in_order}

module _ (all : List PackageView) (names : HasNames all) where
  -- a recorded dependency means the same package in each set
  pub means : (some : List PackageView) → IsWithin some all → IsClosed some
      → (p : PackageView) (depend : Recorded) (q : PackageView) → Contains some p
      → Contains p.depends depend → Contains all q
      → is_recorded_as depend q ≡ true → Contains some q
  means some within closed p depend q c d m r =
      let t : Meant some depend = meant_in some p depend (closed p c) d in
      subst (λ x. Contains some x) (names t.one q (within t.one t.is) m (sym (recorded_name depend t.one t.meant) ∙ recorded_name depend q r)) t.is

  module _ (some other : List PackageView) (some_in : IsWithin some all) (other_in : IsWithin other all)
      (closed : IsClosed other) (p : PackageView) (here : Contains other p) where
    pub move : (q : PackageView) → Installed some p q → Contains other q × Installed other p q
    move q (direct depend c m r) =
        let there = means other other_in closed p depend q here c (some_in q m) r in
        (there, direct depend c there r)
    move q (later {m = by} depend i c late m r) =
        let before : Contains other by × Installed other p by = move by i in
        let there = means other other_in closed by depend q before.0 c (some_in q m) r in
        (there, later depend before.1 c late there r)

  pub installs_move : (some other : List PackageView) → IsWithin some all → IsWithin other all
      → IsClosed some → IsClosed other → (p : PackageView) → Contains some p → Contains other p
      → (packages : List PackageView) → AreInstalls some p packages → AreInstalls other p packages
  installs_move some other some_in other_in closed other_closed p c d packages are = record {
    order = are.order;
    only = λ q h. (move some other some_in other_in other_closed p d q (are.only q h)).1;
    all = λ q i. are.all q (move other some other_in some_in closed p c q i).1;
  }

  pub made_moves : (runs : Runs) (table : List Recipe) (some other : List PackageView)
      → IsWithin some all → IsWithin other all → IsClosed some → IsClosed other → (p : PackageView)
      → Contains some p
      → Contains other p → IsMade runs table some p → IsMade runs table other p
  made_moves runs table some other some_in other_in closed other_closed p c d made = record {
    recipe = made.recipe;
    stands = made.stands;
    digest = made.digest;
    packages = made.packages;
    installed = installs_move some other some_in other_in closed other_closed p c d made.packages made.installed;
    made = made.made;
  }

-- there is one list of what is installed
pub one_list : (members : List PackageView) (p : PackageView) (some other : List PackageView)
    → AreInstalls members p some → AreInstalls members p other → some ≡ other
one_list members p some other f g = same_order some other f.order g.order (λ q c. g.all q (f.only q c)) (λ q c. f.all q (g.only q c))

-- ---- by rounds

abbrev is_later : Recorded → Bool
is_later depend = is_needed_later depend.kind

module _ (members : List PackageView) (p : PackageView) where
  abbrev among : ℕ → PackageView → Bool
  among rounds q = grown (is_depend p.depends) (λ m x. is_depend (later_records m) x) members rounds q

  only_installed : (rounds : ℕ) (q : PackageView) → Contains members q → among rounds q ≡ true
      → Installed members p q
  only_installed zero q c h =
      let m = any_member (λ depend. is_recorded_as depend q) p.depends h in
      direct m.one m.is c m.does
  only_installed (suc rounds) q c h =
      elim (or_cases (among rounds q) (list_any (λ m. among rounds m && is_depend (later_records m) q) members) h) [
        | inl e ↦ only_installed rounds q c e
        | inr t ↦
            (let by = any_member (λ m. among rounds m && is_depend (later_records m) q) members t in
            let both = and_parts (among rounds by.one) (is_depend (later_records by.one) q) by.does in
            let m = any_member (λ depend. is_recorded_as depend q) (later_records by.one) both.1 in
            let is = filter_out_of is_later by.one.depends m.one m.is in
            later m.one (only_installed rounds by.one by.is both.0) is.0 is.1 c m.does)
      ]

  all_installed : (q : PackageView) → Installed members p q
      → Contains members q × (among (length members) q ≡ true)
  all_installed q (direct depend c m r) =
      (m, grown_first (is_depend p.depends) (λ y x. is_depend (later_records y) x) members (length members) q (member_any (λ d. is_recorded_as d q) p.depends depend c r))
  all_installed q (later {m = by} depend i c late m r) =
      let before : Contains members by × (among (length members) by ≡ true) = all_installed by i in (
        m,
        grown_full (is_depend p.depends) (λ y x. is_depend (later_records y) x) members q m
            (grown_adds (is_depend p.depends) (λ y x. is_depend (later_records y) x) members (length members) by q before.0 before.1
            (member_any (λ d. is_recorded_as d q) (later_records by) depend (filter_into is_later by.depends depend c late) r)),
      )

  pub rounds_install_all : AreInOrder members → AreInstalls members p (installs_among members p)
  rounds_install_all order = record {
    order = filter_order (among (length members)) members order;
    only = λ q c. (let both = filter_out_of (among (length members)) members q c in
        only_installed (length members) q both.0 both.1);
    all = λ q i. (let both = all_installed q i in
        filter_into (among (length members)) members q both.0 both.1);
  }

-- ---- soundness

pub fewer_stay_sound : (runs : Runs) (table : List Recipe) (members some : List PackageView)
    → IsSound runs table members → IsWithin some members → IsSound runs table some
fewer_stay_sound runs table members some sound within part in_part closed p c = sound part (λ q d. within q (in_part q d)) closed p c

module _ (runs : Runs) (table : List Recipe) (members : List PackageView) (names : HasNames members) where
  abbrev part : List PackageView
  part = closed_part (by_node members)

  part_in : IsWithin part members
  part_in p c = by_node_out_of members p (part_within (by_node members) p c)

  part_is_in_order : AreInOrder part
  part_is_in_order = part_order (by_node members) (members_are_in_order members)

  pub by_rounds : IsSound runs table members → IsSoundByRounds runs table members
  by_rounds sound p c =
      let made = sound part part_in (part_closed (by_node members)) p c in
      let rounds = rounds_install_all part p part_is_in_order in
      let same = one_list part p (installs_among part p) made.packages rounds made.installed in
      record {
        recipe = made.recipe;
        stands = made.stands;
        digest = made.digest;
        made = ap (bake runs made.recipe.base made.recipe.job) same ∙ made.made;
      }

  pub from_rounds : IsSoundByRounds runs table members → IsSound runs table members
  from_rounds sound some within closed p c =
      let greatest : IsGreatestClosed (by_node members) part = part_is_greatest (by_node members) in
      let there = greatest.greatest some (λ q d. by_node_into members names q (within q d)) closed in
      let made : IsMadeAmong runs table part p = sound p (there p c) in
      made_moves members names runs table part some part_in within (part_closed (by_node members)) closed
      p (there p c) c (record {
        recipe = made.recipe;
        stands = made.stands;
        digest = made.digest;
        packages = installs_among part p;
        installed = rounds_install_all part p part_is_in_order;
        made = made.made;
      })
