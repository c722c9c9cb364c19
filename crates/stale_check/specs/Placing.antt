-- Packages and nodes by their names.
use Rattle.std.specs.Prelude.{◌≡◌, ℕ, ◌<◌, List, [], length, position, bytes_eq, slice_index_or}
use Rattle.std.specs.declared.option.Option.TheVariants.{None}
use Rattle.std.specs.FinMap.{get}
use Rattle.bulk_model.specs.Digests.{no_digest}
use Rattle.bulk_model.specs.Views.{PackageView}
use Rattle.tree_index.specs.Numbers.{Numbers}
use Rattle.tree_index.specs.declared.node.NodeInfo.{NodeInfo}

abbrev pub no_member : PackageView
no_member = record {
  name = [];
  origin = [];
  flavor = None;
  recipe = no_digest;
  options = [];
  depends = [];
  files = [];
}

abbrev pub member_at : List PackageView → ℕ → PackageView
member_at members n = slice_index_or members n no_member

-- no two packages have one name
abbrev pub AreNamed : List PackageView → Type 0
AreNamed members =
    (n k : ℕ) → n < length members → k < length members
    → (member_at members n).name ≡ (member_at members k).name → n ≡ k

-- a map gives each name the place of the first of some that has it
abbrev pub AreKeyed : {X : Type 0} → (X → List ℕ) → List X → Numbers → Type 0
AreKeyed key xs numbers =
    (name : List ℕ) → get numbers name ≡ position (λ x. bytes_eq name (key x)) xs

abbrev pub ArePlaces : List PackageView → Numbers → Type 0
ArePlaces members places = AreKeyed (λ (p : PackageView). p.name) members places

abbrev pub AreNumbers : List NodeInfo → Numbers → Type 0
AreNumbers nodes numbers = AreKeyed (λ (node : NodeInfo). node.node) nodes numbers
