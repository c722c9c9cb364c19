-- Packages whose files stand in order have distinct names.
use Rattle.std.proofs.Common.{◌≡◌, ℕ, ◌<◌, ◌≤◌, ◌+◌, List, length, get_or, ap, sym, ◌∙◌, arith, inl, inr, ◌⊎◌}
use Rattle.std.specs.Ordering.{nat_cmp, is_eq}
use Rattle.std.specs.declared.cmp.Ordering.TheVariants.{Less}
use Rattle.std.specs.Cmp.{eq_by_cmp_equiv}
use Rattle.std.specs.Cmp.Lexicographic.{slice_cmp, nat_list_cmp_total}
use Rattle.std.proofs.lemmas.Bool.{true≢false, cases_order}
use Rattle.std.proofs.lemmas.List.{get_or-map, length-map}
use Rattle.std.proofs.lemmas.Map.Keys.{Less-from_sorted}
use Rattle.outside.specs.Contents.{IsAscending}
use Rattle.bulk_model.specs.FileNames.{package_file}
use Rattle.bulk_model.specs.Views.{PackageView}
use Rattle.pkg_store.specs.Loaded.{LoadedView, IsLoaded, files_of}
use Rattle.stale_check.specs.Placing.{member_at, no_member, AreNamed}

module _ (members : List PackageView) (ordered : IsAscending (files_of members)) where
  file_at : ℕ → List ℕ
  file_at n = package_file (member_at members n).name

  apart : (n k : ℕ) → n < k → k < length members → (member_at members n).name ≡ (member_at members k).name → ⊥
  unfolding file_at
  apart n k l lk same =
      let files : List (List ℕ) = files_of members in
      let size : length files ≡ length members = length-map members (λ (m : PackageView). package_file m.name) in
      let less : slice_cmp nat_cmp (get_or files n (package_file no_member.name)) (get_or files k (package_file no_member.name)) ≡ Less = Less-from_sorted (slice_cmp nat_cmp) files n k (package_file no_member.name) ordered l (omega arith) in
      let at_n : get_or files n (package_file no_member.name) ≡ file_at n = get_or-map (λ (m : PackageView). package_file m.name) members n no_member (package_file no_member.name) (omega arith) in
      let at_k : get_or files k (package_file no_member.name) ≡ file_at k = get_or-map (λ (m : PackageView). package_file m.name) members k no_member (package_file no_member.name) lk in
      let same_file : get_or files n (package_file no_member.name) ≡ get_or files k (package_file no_member.name) = at_n ∙ ap package_file same ∙ sym at_k in
      true≢false (sym ((eq_by_cmp_equiv nat_list_cmp_total).refl (get_or files k (package_file no_member.name))) ∙ ap (λ x. is_eq (slice_cmp nat_cmp x (get_or files k (package_file no_member.name)))) (sym same_file) ∙ ap is_eq less)

  named_case : (n k : ℕ) → n < length members → k < length members → (member_at members n).name ≡ (member_at members k).name → (n ≡ k) ⊎ ((n < k) ⊎ (k < n)) → n ≡ k
  named_case n k ln lk same (inl is) = is
  named_case n k ln lk same (inr (inl less)) = absurd (apart n k less lk same)
  named_case n k ln lk same (inr (inr more)) = absurd (apart k n more ln (sym same))

  pub named_from_order : AreNamed members
  named_from_order n k ln lk same = named_case n k ln lk same (cases_order n k)

-- a loaded store has few packages
pub few_loaded : (loaded : LoadedView) → IsLoaded loaded → length loaded.packages ≤ 65535
few_loaded loaded h = let f : length loaded.packages + (length loaded.old + length loaded.damaged) ≤ 65535 = h.few in omega arith
