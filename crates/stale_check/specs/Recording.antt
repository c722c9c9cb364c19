-- Which packages are recorded by which, as the search for lost packages has it.
use Rattle.std.specs.Prelude.{◌≡◌, ℕ, Bool, false, not, ◌||◌, ◌&&◌, ◌==◌, ◌<◌, nat_lt, List, length, slice_index_or, IfSome, is_some, unwrap_or, if◌then◌else◌}
use Rattle.std.specs.declared.option.Option.{Option}
use Rattle.std.specs.declared.option.Option.TheVariants.{None, Some}
use Rattle.std.specs.Option.{option_map_or}
use Rattle.std.specs.List.{list_any}
use Rattle.bulk_model.specs.Among.{is_recorded_as}
use Rattle.bulk_model.specs.Sound.{has_all}
use Rattle.bulk_model.specs.Spelling.{mark}
use Rattle.bulk_model.specs.Views.{PackageView}
use Rattle.bulk_model.specs.declared.depend.Recorded.{Recorded}
use Rattle.bulk_model.specs.declared.digest.Digest.{Digest}
use Rattle.bulk_model.specs.declared.plan.Edge.{Edge}
use Rattle.bulk_model.specs.declared.reason.Reason.{Reason}
use Rattle.bulk_model.specs.declared.reason.Reason.TheVariants.{MissingDepend}
use Rattle.bulk_model.specs.Flags.{flag}
use Rattle.dep_graph.specs.Graphs.{has, depends_at}
use Rattle.stale_check.specs.Placing.{member_at}

-- the marks that were taken are those of the packages at their places
pub record AreMarks (members : List PackageView) (known : List (Option Digest)) : Type 0 where
  pub size : length known ≡ length members
  pub each : (n : ℕ) (digest : Digest) → slice_index_or known n None ≡ Some digest
      → digest ≡ mark (member_at members n)

-- the one package that a recorded dependency means
pub record IsHolder (members : List PackageView) (depend : Recorded) (holder : Option ℕ) : Type 0 where
  pub within : IfSome holder (λ h. h < length members)
  pub holds : (n : ℕ) → n < length members
      → is_recorded_as depend (member_at members n) ≡ option_map_or (λ h. n == h) holder false

-- one of the dependencies means the package at a place
abbrev pub mean : List PackageView → ℕ → List Recorded → Bool
mean members h depends = list_any (λ depend. is_recorded_as depend (member_at members h)) depends

-- a package was put into the lists of those that its dependencies mean
pub record Noted (members : List PackageView) (at : ℕ) (depends : List Recorded)
    (before after : List (List Edge)) : Type 0 where
  pub size : length after ≡ length before
  pub lists : (h n : ℕ) → h < length members
      → has (depends_at after h) n ≡ (has (depends_at before h) n || ((n == at) && mean members h depends))

abbrev pub lacks : List PackageView → PackageView → Bool
lacks members p = not (has_all members p)

-- the lists of the first so many packages' dependents, and those of them that go by themselves
pub record AreRead (members : List PackageView) (reasons : List (Option Reason)) (count : ℕ)
    (dependents : List (List Edge)) (lost : List ℕ) : Type 0 where
  pub size : length dependents ≡ length members
  pub lists : (h n : ℕ) → h < length members
      → has (depends_at dependents h) n
      ≡ (nat_lt n count && mean members h (member_at members n).depends)
  pub first : (n : ℕ) → has lost n
      ≡ (nat_lt n count && (is_some (slice_index_or reasons n None) || lacks members (member_at members n)))

-- marks at just these numbers, of those below a bound
pub record AreFlags (count : ℕ) (numbers : List ℕ) (flags : List Bool) : Type 0 where
  pub size : length flags ≡ count
  pub marked : (n : ℕ) → n < count → flag flags n ≡ has numbers n

-- what goes is marked, and goes for its own reason, else for a dependency that it lacks
abbrev pub Goes : List PackageView → List (Option Reason) → List Bool → (PackageView → Option Reason) → Type 0
Goes members own lost goes =
    (n : ℕ) → n < length members
    → goes (member_at members n)
    ≡ (if flag lost n then Some (unwrap_or (slice_index_or own n None) MissingDepend) else None)
