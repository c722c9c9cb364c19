-- The first reason that holds.
use Rattle.std.proofs.Common.{◌≡◌, ℕ, ◌<◌, Bool, List, length, ap, sym, ◌∙◌}
use Rattle.std.specs.Prelude.{Option, Some, None}
use Rattle.std.specs.Option.{option_or, option_and_then, option_map_or}
use Rattle.std.specs.List.{slice_get}
use Rattle.bulk_model.specs.Flags.{flag}
use Rattle.bulk_model.specs.Views.{PackageView}
use Rattle.bulk_model.specs.declared.digest.Recipes.{Recipes}
use Rattle.bulk_model.specs.declared.reason.Reason.{Reason}
use Rattle.bulk_model.specs.declared.reason.Reason.TheVariants.{NoPort}
use Rattle.tree_index.specs.Index.{IndexView}
use Rattle.tree_index.specs.declared.node.NodeInfo.{NodeInfo}
use Rattle.stale_check.specs.Own.{number_of, early_reason, late_reason, reason_of, reason_at, own}
use Rattle.stale_check.specs.Recording.{AreFlags}

module _ (index : IndexView) (numbers : List ℕ) (recipes : Recipes) (p : PackageView) (n : ℕ) (node : NodeInfo) (flags : List Bool)
    (within : n < length index.nodes) (is : slice_get index.nodes n ≡ Some node) (flags_are : AreFlags (length index.nodes) numbers flags) where
  reasons : (early : Option Reason) → early ≡ early_reason (flag flags n) node p → option_or early (late_reason index recipes p n) ≡ reason_at index numbers recipes p n
  unfolding reason_at
  reasons early e =
      ap (λ o. option_or o (late_reason index recipes p n)) (e ∙ ap (λ b. early_reason b node p) (flags_are.marked n within))
      ∙ ap (option_and_then (reason_of index numbers recipes p n)) (sym is)

  pub early_is : (early : Option Reason) (reason : Reason) → early ≡ early_reason (flag flags n) node p → early ≡ Some reason → Some reason ≡ reason_at index numbers recipes p n
  early_is early reason e h = ap (λ o. option_or o (late_reason index recipes p n)) (sym h) ∙ reasons early e

  pub late_is : (early late : Option Reason) → early ≡ early_reason (flag flags n) node p → early ≡ None → late ≡ late_reason index recipes p n → late ≡ reason_at index numbers recipes p n
  late_is early late e h l = l ∙ ap (λ o. option_or o (late_reason index recipes p n)) (sym h) ∙ reasons early e

module _ (index : IndexView) (asked : List ℕ) (recipes : Recipes) (p : PackageView) where
  pub own_at : (n : ℕ) (number : Option ℕ) (reason : Option Reason) → number ≡ number_of index.nodes p → number ≡ Some n → reason ≡ reason_at index asked recipes p n → reason ≡ own index asked recipes p
  unfolding own
  own_at n number reason e h r = r ∙ ap (λ o. option_map_or (reason_at index asked recipes p) o (Some NoPort)) (sym h ∙ e)

  pub own_no_port : (number : Option ℕ) → number ≡ number_of index.nodes p → number ≡ None → Some NoPort ≡ own index asked recipes p
  unfolding own
  own_no_port number e h = ap (λ o. option_map_or (reason_at index asked recipes p) o (Some NoPort)) (sym h ∙ e)
