-- The path that a file may have behind the files before it.
use Rattle.std.proofs.Common.{◌≡◌, ℕ, ◌≤◌, Bool, true, false, List, length, arith, ap, sym, ◌∙◌, inl, inr}
use Rattle.std.specs.Prelude.{◌&&◌, not, nat_le, Some, None, cond, unwrap_or, ◌⊎◌}
use Rattle.std.specs.List.{list_all}
use Rattle.std.proofs.lemmas.Bool.{cases_Bool, and_parts, and_from}
use Rattle.std.proofs.lemmas.Bool.Decides.{nat_tests}
use Rattle.bulk_base.specs.declared.file.FileItem.{FileItem}
use Rattle.bulk_base.specs.Text.{is_text, IsText}
use Rattle.bulk_base.specs.Path.{is_path, is_below, IsPath}
use Rattle.bulk_base.proofs.TextTests.{IsText-from_is_text, is_text-from_IsText}
use Rattle.bulk_model.specs.Facts.{paths_of}
use Rattle.pkg_record.specs.Said.{passing}
use Rattle.pkg_record.specs.Reading.{last_of, path_follows, is_record_path, is_next_path}

-- what a path that may follow is
pub record MayFollow (before : List FileItem) (path : List ℕ) : Type 0 where
  pub text : is_text path ≡ true
  pub form : is_path path ≡ true
  pub short : nat_le (length path) 1018 ≡ true
  pub follows : path_follows (last_of before) path ≡ true
  pub free : list_all (λ folder. not (is_below folder path)) (paths_of before) ≡ true

pub may_follow : (before : List FileItem) (path : List ℕ) → is_next_path before path ≡ true → MayFollow before path
may_follow before path h =
    let a = and_parts (is_record_path path && path_follows (last_of before) path) (list_all (λ folder. not (is_below folder path)) (paths_of before)) h in
    let b = and_parts (is_record_path path) (path_follows (last_of before) path) a.0 in
    let c = and_parts (is_text path && is_path path) (nat_le (length path) 1018) b.0 in
    let d = and_parts (is_text path) (is_path path) c.0 in
    record { text = d.0; form = d.1; short = c.1; follows = b.1; free = a.1 }

pub path_taken : (before : List FileItem) (path found : List ℕ) → found ≡ path → IsText path → IsPath path → length path ≤ 1018 → path_follows (last_of before) path ≡ true
    → list_all (λ folder. not (is_below folder path)) (paths_of before) ≡ true → Some found ≡ passing (is_next_path before) path
path_taken before path found e text form short follows free =
    let small : nat_le (length path) 1018 ≡ true = grind (arith, nat_tests) in
    let next : is_next_path before path ≡ true = and_from _ _ (and_from _ _ (and_from _ _ (and_from _ _ (is_text-from_IsText path text) form) small) follows) free in
    ap Some e ∙ sym (ap (λ b. cond b (Some path) None) next)

pub path_refused : (before : List FileItem) (path : List ℕ) → ((IsText path × IsPath path) → ⊥) → None ≡ passing (is_next_path before) path
path_refused before path h = elim (cases_Bool (is_next_path before path)) [
  | inl e ↦ (let m = may_follow before path e in absurd (h (IsText-from_is_text path m.text, m.form)))
  | inr e ↦ sym (ap (λ b. cond b (Some path) None) e)
]

pub passed : (test : List ℕ → Bool) (text found : List ℕ) → Some found ≡ passing test text → (found ≡ text) × (test text ≡ true)
passed test text found e = split (cases_Bool (test text))
  where
    split : (test text ≡ true) ⊎ (test text ≡ false) → (found ≡ text) × (test text ≡ true)
    split (inl t) = (ap (λ o. unwrap_or o found) (e ∙ ap (λ b. cond b (Some text) None) t), t)
    split (inr f) = let none : Some found ≡ None = e ∙ ap (λ b. cond b (Some text) None) f in cc
