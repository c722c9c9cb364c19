-- The packages of the diamond have records, their names differ, and which of them own reasons to go have.
use Rattle.std.proofs.Common.{◌≡◌, ℕ, Bool, true, false, not, List, [], ◌∷◌, refl, ap, sym, arith, None}
use Rattle.std.specs.Prelude.{◌&&◌, codes, bytes_eq, Contains}
use Rattle.std.specs.List.Sorted.{IsStrictlySortedBy}
use Rattle.std.specs.Cmp.Lexicographic.{slice_cmp}
use Rattle.std.specs.Ordering.{nat_cmp}
use Rattle.std.proofs.lemmas.Bool.{and_parts, and_from}
use Rattle.std.proofs.lemmas.Slice.Eq.{bytes_eq-Decides}
use Rattle.sha2.proofs.Facts256.{length-sha256}
use Rattle.bulk_base.specs.Names.{IsPackageName, IsOrigin, IsNode}
use Rattle.bulk_base.proofs.Members.{Member, any_member, member_any}
use Rattle.bulk_model.specs.declared.digest.Digest.{Digest}
use Rattle.bulk_model.specs.declared.version.Version.TheVariants.{Two}
use Rattle.bulk_model.specs.Digests.{digest_of, is_same}
use Rattle.bulk_model.specs.Facts.{IsFileList, IsOptionList}
use Rattle.bulk_model.specs.Recipe.{recipe}
use Rattle.bulk_model.specs.Views.{JobView, PackageView, node_of_job, node_of_package}
use Rattle.pkg_record.specs.Laws.{IsDigest, HasRecord}
use Rattle.pkg_record.proofs.Hashes.{sha256_bytes}
use Rattle.incremental_example.specs.Ports.{name_of, origin_of, right, bot_package, left_package, right_package, top_package}
use Rattle.incremental_example.specs.Diamond.{has_job, own_reason}
use Rattle.incremental_law.specs.Stores.{HasItsJob}

-- ---- records

is_digest : (bytes : List ℕ) → IsDigest (digest_of bytes)
is_digest bytes = record { size = length-sha256 bytes; bytes = sha256_bytes bytes }

none_ascend : IsStrictlySortedBy (slice_cmp nat_cmp) []
unfolding IsStrictlySortedBy
none_ascend = tt

one_ascends : (name : List ℕ) → IsStrictlySortedBy (slice_cmp nat_cmp) (name ∷ [])
unfolding IsStrictlySortedBy
one_ascends name = (tt, tt)

no_files : IsFileList 1018 []
no_files = record { order = none_ascend; apart = refl; short = refl }

no_options : IsOptionList []
no_options = record { order = none_ascend; forms = refl }

docs : (on : Bool) → IsOptionList (right on).options
docs on = record { order = one_ascends (codes "DOCS"); forms = refl }

bot_name : IsPackageName (name_of (codes "bot"))
bot_name = record { base = codes "bot"; version = codes "1"; revision = None; epoch = None; base_form = refl; version_form = refl; revision_form = tt; epoch_form = tt; short = omega arith; spelled = refl }

left_name : IsPackageName (name_of (codes "left"))
left_name = record { base = codes "left"; version = codes "1"; revision = None; epoch = None; base_form = refl; version_form = refl; revision_form = tt; epoch_form = tt; short = omega arith; spelled = refl }

right_name : IsPackageName (name_of (codes "right"))
right_name = record { base = codes "right"; version = codes "1"; revision = None; epoch = None; base_form = refl; version_form = refl; revision_form = tt; epoch_form = tt; short = omega arith; spelled = refl }

top_name : IsPackageName (name_of (codes "top"))
top_name = record { base = codes "top"; version = codes "1"; revision = None; epoch = None; base_form = refl; version_form = refl; revision_form = tt; epoch_form = tt; short = omega arith; spelled = refl }

bot_origin : IsOrigin (origin_of (codes "bot"))
bot_origin = record { category = codes "a"; port = codes "bot"; category_form = refl; port_form = refl; spelled = refl }

left_origin : IsOrigin (origin_of (codes "left"))
left_origin = record { category = codes "a"; port = codes "left"; category_form = refl; port_form = refl; spelled = refl }

right_origin : IsOrigin (origin_of (codes "right"))
right_origin = record { category = codes "a"; port = codes "right"; category_form = refl; port_form = refl; spelled = refl }

top_origin : IsOrigin (origin_of (codes "top"))
top_origin = record { category = codes "a"; port = codes "top"; category_form = refl; port_form = refl; spelled = refl }

-- a port without flavors is a node
plain_node : (origin : List ℕ) → IsOrigin origin → IsNode origin
plain_node origin form = record { origin = origin; flavor = None; origin_form = form; flavor_form = tt; spelled = refl }

pub bot_recorded : HasRecord Two bot_package
bot_recorded = record {
  facts = record { name = bot_name; origin = bot_origin; flavor = tt; options = no_options; depends = record { order = refl; nodes = tt; names = tt }; files = no_files };
  digests = (is_digest _, tt);
  paths = refl;
  options = omega arith;
  depends = omega arith;
  files = omega arith;
  sizes = tt;
}

pub left_recorded : HasRecord Two left_package
left_recorded = record {
  facts = record { name = left_name; origin = left_origin; flavor = tt; options = no_options; depends = record { order = refl; nodes = (plain_node _ bot_origin, tt); names = (bot_name, tt) }; files = no_files };
  digests = (is_digest _, (is_digest _, tt));
  paths = refl;
  options = omega arith;
  depends = omega arith;
  files = omega arith;
  sizes = tt;
}

pub right_recorded : (on : Bool) → HasRecord Two (right_package on)
right_recorded on = record {
  facts = record { name = right_name; origin = right_origin; flavor = tt; options = docs on; depends = record { order = refl; nodes = (plain_node _ bot_origin, tt); names = (bot_name, tt) }; files = no_files };
  digests = (is_digest _, (is_digest _, tt));
  paths = refl;
  options = omega arith;
  depends = omega arith;
  files = omega arith;
  sizes = tt;
}

pub top_recorded : HasRecord Two top_package
top_recorded = record {
  facts = record {
    name = top_name;
    origin = top_origin;
    flavor = tt;
    options = no_options;
    depends = record { order = refl; nodes = (plain_node _ left_origin, (plain_node _ right_origin, tt)); names = (left_name, (right_name, tt)) };
    files = no_files;
  };
  digests = (is_digest _, (is_digest _, (is_digest _, tt)));
  paths = refl;
  options = omega arith;
  depends = omega arith;
  files = omega arith;
  sizes = tt;
}

-- ---- own reasons

module _ (jobs : List JobView) (p : PackageView) where
  abbrev is_for : JobView → Bool
  is_for job = bytes_eq (node_of_job job) (node_of_package p) && is_same (recipe [] job) p.recipe

  pub no_reason : (job : JobView) → Contains jobs job → node_of_job job ≡ node_of_package p → recipe [] job ≡ p.recipe → own_reason jobs p ≡ false
  no_reason job c node digest =
      ap not (member_any is_for jobs job c
      (and_from _ _ ((bytes_eq-Decides (node_of_job job) (node_of_package p)).1 node) ((bytes_eq-Decides (recipe [] job).bytes p.recipe.bytes).1 (ap (λ (d : Digest). d.bytes) digest))))

  reasonless : (b : Bool) → not b ≡ false → b ≡ true
  reasonless true e = refl
  reasonless false e = sym e

  same_digest : (a b : Digest) → a.bytes ≡ b.bytes → a ≡ b
  same_digest a b e k = record { bytes = e k }

  pub its_job : own_reason jobs p ≡ false → HasItsJob jobs [] p
  its_job free =
      let m : Member is_for jobs = any_member is_for jobs (reasonless (has_job jobs p) free) in
      let both = and_parts (bytes_eq (node_of_job m.one) (node_of_package p)) (is_same (recipe [] m.one) p.recipe) m.does in
      record {
        job = m.one;
        stands = m.is;
        node = (bytes_eq-Decides (node_of_job m.one) (node_of_package p)).0 both.0;
        digest = same_digest (recipe [] m.one) p.recipe ((bytes_eq-Decides (recipe [] m.one).bytes p.recipe.bytes).0 both.1);
      }
