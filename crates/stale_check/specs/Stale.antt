-- Which files of a store go, and why (docs/FORMATS.md, "Stale packages").
use Rattle.std.specs.Prelude.{ℕ, Bool, List, length, map, filter, bytes_eq, is_some, unwrap_or, if◌then◌else◌}
use Rattle.std.specs.declared.option.Option.{Option}
use Rattle.std.specs.declared.option.Option.TheVariants.{None, Some}
use Rattle.std.specs.Option.{option_map}
use Rattle.std.specs.List.{list_any, fold, filter_map, range_with_len}
use Rattle.std.specs.Ordering.{nat_cmp}
use Rattle.std.specs.Cmp.Lexicographic.{slice_cmp}
use Rattle.std.specs.FinMap as files
use Rattle.bulk_model.specs.FileNames.{package_file}
use Rattle.bulk_model.specs.Flags.{flag}
use Rattle.bulk_model.specs.Views.{PackageView}
use Rattle.bulk_model.specs.declared.digest.Recipes.{Recipes}
use Rattle.bulk_model.specs.declared.reason.Reason.{Reason}
use Rattle.bulk_model.specs.declared.reason.Reason.TheVariants.{Damaged, OldRecord, Asked, MissingDepend}
use Rattle.bulk_model.specs.declared.reason.Stale.{Stale}
use Rattle.dep_graph.specs.Graphs.{has}
use Rattle.pkg_store.specs.Loaded.{LoadedView}
use Rattle.tree_index.specs.Index.{IndexView}
use Rattle.stale_check.specs.Fresh.{fresh}
use Rattle.stale_check.specs.Own.{number_of, own}

-- ---- what is left

-- what is left of a store's packages, by any own reasons
abbrev pub left : (PackageView → Option Reason) → List PackageView → List PackageView
left own members = fresh (λ p. is_some (own p)) members

-- no two packages have one name
abbrev pub is_left : (PackageView → Option Reason) → List PackageView → PackageView → Bool
is_left own members p = list_any (λ other. bytes_eq p.name other.name) (left own members)

-- why a package goes, if it does: for its own reason, else for a recorded dependency that none that is left has
abbrev pub why : (PackageView → Option Reason) → List PackageView → PackageView → Option Reason
why own members p =
    if is_left own members p then None else Some (unwrap_or (own p) MissingDepend)

-- ---- the files that go

-- a reason at each file that goes
abbrev pub Reasons : Type 0
Reasons = files.FinMap (slice_cmp nat_cmp) Reason

abbrev pub with_reason : Reasons → List ℕ → Option Reason → Reasons
with_reason reasons file None = reasons
with_reason reasons file (Some reason) = files.insert reasons file reason

abbrev pub with_packages : (PackageView → Option Reason) → Reasons → List PackageView → Reasons
with_packages goes reasons packages =
    fold (λ (to : Reasons) (p : PackageView). with_reason to (package_file p.name) (goes p)) reasons packages

abbrev pub with_all : Reason → Reasons → List (List ℕ) → Reasons
with_all reason reasons all =
    fold (λ (to : Reasons) (file : List ℕ). files.insert to file reason) reasons all

-- damaged stands before old-record, and both before the reasons of packages
abbrev pub reasons_by : (PackageView → Option Reason) → LoadedView → Reasons
reasons_by own loaded =
    with_all Damaged
    (with_all OldRecord (with_packages (why own loaded.packages) files.empty loaded.packages) loaded.old)
    loaded.damaged

abbrev pub stale_at : Reasons → List ℕ → Option Stale
stale_at reasons file =
    option_map (λ reason. let s : Stale = record { file = file; reason = reason } in s)
    (files.get reasons file)

-- by file name
abbrev pub in_order : Reasons → List Stale
in_order reasons = filter_map (stale_at reasons) (files.keys reasons)

-- what goes of a store, by any own reasons
abbrev pub stale_by : (PackageView → Option Reason) → LoadedView → List Stale
stale_by own loaded = in_order (reasons_by own loaded)

-- what goes of a store over a tree, where some nodes were asked for and some have recipes
abbrev pub stale : IndexView → LoadedView → List ℕ → Recipes → List Stale
stale index loaded asked recipes = stale_by (own index asked recipes) loaded

-- every file goes because it was asked for
abbrev pub all_asked : List (List ℕ) → List Stale
all_asked all = map (λ file. let s : Stale = record { file = file; reason = Asked } in s) all

-- ---- the nodes of packages

-- the nodes of the tree that packages were built for, by their numbers
abbrev pub package_numbers : IndexView → LoadedView → List ℕ
package_numbers index loaded = filter_map (number_of index.nodes) loaded.packages

-- ascending, each once
abbrev pub held : IndexView → LoadedView → List ℕ
held index loaded =
    filter (has (package_numbers index loaded)) (range_with_len 0 (length index.nodes))

-- the marked numbers below a bound
abbrev pub flagged : ℕ → List Bool → List ℕ
flagged count flags = filter (flag flags) (range_with_len 0 count)
