-- The graph of a plan: its edges go to its nodes, rounds take all of it away, and what is installed lies below.
use Rattle.std.proofs.Common.{◌≡◌, ℕ, zero, suc, ◌<◌, true, List, subst, Bool, length, sym, inl, inr}
use Rattle.std.specs.Prelude.{Contains, ◌&&◌, filter}
use Rattle.std.specs.List.{All, list_any, list_all}
use Rattle.std.proofs.lemmas.Bool.{and_parts, or_cases}
use Rattle.std.proofs.lemmas.List.FromFn.{length-range_with_len}
use Rattle.bulk_base.proofs.Members.{all_passes, passes_all, any_member, has_contains, contains_has, contains_map, map_contains, filter_out_of, filter_into, range_below, below_range}
use Rattle.bulk_model.specs.PlanView.{PlanView, count, depends, away, nodes, edges_from}
use Rattle.bulk_model.specs.PlanFacts.{IsPlan}
use Rattle.bulk_model.specs.declared.plan.Edge.{Edge}
use Rattle.bulk_model.specs.declared.plan.Kept.{Kept as KeptPackages}
use Rattle.bulk_model.specs.Fit.{FitsKept}
use Rattle.bulk_model.specs.Results.{is_kept}
use Rattle.bulk_model.specs.Installs.{is_needed_later, later_depends, has, is_installed, installs}
use Rattle.bulk_model.proofs.PlanTests.{passes_below}
use Rattle.model_laws.proofs.Growing.{grown_first, grown_adds, grown_full}

-- what holds of all in a list holds of what it contains
pub all_contained : {X : Type 0} (P : X → Type 0) (xs : List X) (x : X) → All P xs → Contains xs x
    → P x
all_contained P xs x all c = subst P c.2 (all c.0 x c.1)

pub target_below : (plan : PlanView) → IsPlan plan → (n d : ℕ) → n < count plan
    → Contains (depends plan n) d → d < count plan
target_below plan is n d l c = all_contained (λ to. to < count plan) (depends plan n) d (is.targets n l) c

-- as many rounds as there are nodes take each of them away
pub all_away : (plan : PlanView) → IsPlan plan → (n : ℕ) → n < count plan
    → away plan (count plan) n ≡ true
all_away plan is n l = passes_below (away plan (count plan)) (count plan) n l is.loopless

-- what is away stays away
pub away_more : (plan : PlanView) (rounds n : ℕ) → away plan rounds n ≡ true
    → away plan (suc rounds) n ≡ true
away_more plan zero n h = absurd (cc h)
away_more plan (suc rounds) n h =
    passes_all (away plan (suc rounds)) (depends plan n) (λ d c. away_more plan rounds d (all_passes (away plan rounds) (depends plan n) d h c))

-- the dependencies of what is away are away
pub depends_away : (plan : PlanView) (rounds n d : ℕ) → away plan rounds n ≡ true
    → Contains (depends plan n) d → away plan rounds d ≡ true
depends_away plan zero n d h c = absurd (cc h)
depends_away plan (suc rounds) n d h c = away_more plan rounds d (all_passes (away plan rounds) (depends plan n) d h c)

-- and a round before
pub depends_below : (plan : PlanView) (rounds n d : ℕ) → away plan (suc rounds) n ≡ true
    → Contains (depends plan n) d → away plan rounds d ≡ true
depends_below plan rounds n d h c = all_passes (away plan rounds) (depends plan n) d h c

-- ---- what is installed for a node

abbrev is_later : Edge → Bool
is_later edge = is_needed_later edge.kind

-- what is needed later is a dependency
pub later_depends_are : (plan : PlanView) (n d : ℕ) → Contains (later_depends plan n) d
    → Contains (depends plan n) d
later_depends_are plan n d h =
    let s = map_contains (λ (e : Edge). e.to) (filter is_later (edges_from plan n)) d h in
    subst (λ m. Contains (depends plan n) m) s.gives (contains_map (λ (e : Edge). e.to) (edges_from plan n) s.one (filter_out_of is_later (edges_from plan n) s.one s.is).0)

-- what each dependency keeps holds of all that is installed
module _ (plan : PlanView) (P : ℕ → Type 0)
    (keeps : (m d : ℕ) → P m → Contains (depends plan m) d → P d) (n : ℕ)
    (first : (d : ℕ) → Contains (depends plan n) d → P d) where
  pub installed_keep : (rounds d : ℕ) → is_installed plan rounds n d ≡ true → P d
  installed_keep zero d h = first d (has_contains (depends plan n) d h)
  installed_keep (suc rounds) d h =
      elim (or_cases (is_installed plan rounds n d) (list_any (λ m. is_installed plan rounds n m && has (later_depends plan m) d) (nodes plan)) h) [
        | inl e ↦ installed_keep rounds d e
        | inr t ↦
            (let by = any_member (λ m. is_installed plan rounds n m && has (later_depends plan m) d) (nodes plan) t in
            let both = and_parts (is_installed plan rounds n by.one) (has (later_depends plan by.one) d) by.does in
            keeps by.one d (installed_keep rounds by.one both.0) (later_depends_are plan by.one d (has_contains (later_depends plan by.one) d both.1)))
      ]

  pub installs_keep : (d : ℕ) → Contains (installs plan n) d → P d
  installs_keep d h = installed_keep (count plan) d (filter_out_of (is_installed plan (count plan) n) (nodes plan) d h).1

-- the same of a test
pub installed_all : (plan : PlanView) (p : ℕ → Bool)
    → ((m : ℕ) → p m ≡ true → list_all p (depends plan m) ≡ true) → (n : ℕ)
    → list_all p (depends plan n) ≡ true
    → list_all p (installs plan n) ≡ true
installed_all plan p goes n first =
    passes_all p (installs plan n)
    (installs_keep plan (λ m. p m ≡ true) (λ m d h c. all_passes p (depends plan m) d (goes m h) c) n (λ d c. all_passes p (depends plan n) d first c))

pub installed_are_nodes : (plan : PlanView) (n d : ℕ) → Contains (installs plan n) d
    → d < count plan
installed_are_nodes plan n d h = range_below (count plan) d (filter_out_of (is_installed plan (count plan) n) (nodes plan) d h).0

pub installed_lie_below : (plan : PlanView) (height n d : ℕ) → away plan (suc height) n ≡ true
    → Contains (installs plan n) d → away plan height d ≡ true
installed_lie_below plan height n d gone c =
    installs_keep plan (λ m. away plan height m ≡ true) (λ m x h k. depends_away plan height m x h k) n (λ x k. depends_below plan height n x gone k) d c

module _ (plan : PlanView) (n : ℕ) where
  pub installs_have : (d : ℕ) → d < count plan → is_installed plan (count plan) n d ≡ true
      → Contains (installs plan n) d
  installs_have d l h = filter_into (is_installed plan (count plan) n) (nodes plan) d (below_range (count plan) d l) h

  pub installs_are : (d : ℕ) → Contains (installs plan n) d
      → is_installed plan (count plan) n d ≡ true
  installs_are d h = (filter_out_of (is_installed plan (count plan) n) (nodes plan) d h).1

  pub installed_first : (d : ℕ) → Contains (depends plan n) d
      → is_installed plan (count plan) n d ≡ true
  installed_first d c = grown_first (has (depends plan n)) (λ m x. has (later_depends plan m) x) (nodes plan) (count plan) d (contains_has (depends plan n) d c)

  -- all that is installed brings what it needs later
  pub installed_later : (m d : ℕ) → m < count plan → d < count plan
      → is_installed plan (count plan) n m ≡ true → Contains (later_depends plan m) d
      → is_installed plan (count plan) n d ≡ true
  installed_later m d l b h c =
      let size : length (nodes plan) ≡ count plan = length-range_with_len 0 (count plan) in
      subst (λ rounds. is_installed plan rounds n d ≡ true) size
      (grown_full (has (depends plan n)) (λ y x. has (later_depends plan y) x) (nodes plan) d (below_range (count plan) d b)
      (grown_adds (has (depends plan n)) (λ y x. has (later_depends plan y) x) (nodes plan) (length (nodes plan)) m d (below_range (count plan) m l)
      (subst (λ rounds. is_installed plan rounds n m ≡ true) (sym size) h) (contains_has (later_depends plan m) d c)))

pub depends_are_installed : (plan : PlanView) → IsPlan plan → (n d : ℕ) → n < count plan
    → Contains (depends plan n) d → Contains (installs plan n) d
depends_are_installed plan is n d l c = installs_have plan n d (target_below plan is n d l c) (installed_first plan n d c)

pub installs_are_closed : (plan : PlanView) → IsPlan plan → (n m d : ℕ)
    → Contains (installs plan n) m → Contains (later_depends plan m) d
    → Contains (installs plan n) d
installs_are_closed plan is n m d c h =
    let l : m < count plan = installed_are_nodes plan n m c in
    let b : d < count plan = target_below plan is m d l (later_depends_are plan m d h) in
    installs_have plan n d b (installed_later plan n m d l b (installs_are plan n m c) h)

-- all that is installed for a kept node is kept
module _ (plan : PlanView) (kept : KeptPackages) (is : IsPlan plan) (fits : FitsKept plan kept) where
  abbrev IsKept : ℕ → Type 0
  IsKept n = (n < count plan) × (is_kept kept n ≡ true)

  kept_below : (n d : ℕ) → IsKept n → Contains (depends plan n) d → IsKept d
  kept_below n d h c = (target_below plan is n d h.0 c, all_passes (is_kept kept) (depends plan n) d (fits.closed n h.0 h.1) c)

  pub kept_installs_are_kept : (n d : ℕ) → n < count plan → is_kept kept n ≡ true
      → Contains (installs plan n) d
      → is_kept kept d ≡ true
  kept_installs_are_kept n d l k c = (installs_keep plan IsKept kept_below n (λ m b. kept_below n m (l, k) b) d c).1
