-- Paths that were seen, as a list and as the keys of a map.
use Rattle.std.proofs.Common.{◌≡◌, ℕ, ◌+◌, ◌<◌, length, drop, get_or, Bool, true, false, List, [], ◌∷◌, ◌++◌, ap, sym, ◌∙◌, refl, arith}
use Rattle.std.specs.Prelude.{cond, ◌||◌, map, Option, Some, None, bytes_eq}
use Rattle.std.specs.Cmp.Lexicographic.{nat_list_cmp_total, texts_ties}
use Rattle.std.specs.Ordering.{eq_by_cmp, is_eq}
use Rattle.std.specs.declared.cmp.Ordering.TheVariants.{Less, Equal, Greater}
use Rattle.std.specs.List.{list_any}
use Rattle.std.specs.FinMap.{FinMap, empty, keys, entries, insert, contains_key, contains_key-keys, entries-insert, len-entries, len-empty}
use Rattle.std.specs.FinMap.Entries.{put, by_order}
use Rattle.std.proofs.lemmas.List.{nil_from_length, drop_more}
use Rattle.bulk_base.specs.Path.{collides, is_below}
use Rattle.bulk_base.specs.declared.file.FileItem.{FileItem}
use Rattle.bulk_base.proofs.MapView.{order}
use Rattle.bulk_model.specs.Bake.{first_conflict}

-- every test finds something in the one where it finds something in the other
abbrev pub Alike : List (List ℕ) → List (List ℕ) → Type 0
Alike xs ys = (test : List ℕ → Bool) → list_any test xs ≡ list_any test ys

pub first_conflict-alike : (xs ys : List (List ℕ)) (files : List FileItem) → Alike xs ys → first_conflict xs files ≡ first_conflict ys files
first_conflict-alike xs ys [] h = refl
first_conflict-alike xs ys (f ∷ files) h =
    ap (λ b. cond b (Some f.path) (first_conflict (f.path ∷ xs) files)) (h (collides f.path))
    ∙ ap (cond (list_any (collides f.path) ys) (Some f.path)) (first_conflict-alike (f.path ∷ xs) (f.path ∷ ys) files (λ test. ap (λ b. test f.path || b) (h test)))

apart : (a b : Bool) → (a || b) ≡ false → (a ≡ false) × (b ≡ false)
apart a b h = (grind arith, grind arith)

-- a path that collides with none of some paths is none of them
none_is_it : (k : List ℕ) (ks : List (List ℕ)) → list_any (collides k) ks ≡ false → list_any (eq_by_cmp order k) ks ≡ false
none_is_it k [] h = refl
none_is_it k (x ∷ ks) h =
    let each = apart (collides k x) (list_any (collides k) ks) h in
    let here = apart (bytes_eq k x || is_below x k) (is_below k x) each.0 in
    let same = (apart (bytes_eq k x) (is_below x k) here.0).0 in
    ap (λ b. b || list_any (eq_by_cmp order k) ks) (sym (texts_ties k x) ∙ same) ∙ none_is_it k ks each.1

-- a path's own look-up, and those of its folders and of what stands below it
split_any : (k : List ℕ) (ks : List (List ℕ)) → list_any (collides k) ks ≡ (list_any (eq_by_cmp order k) ks || list_any (λ other. is_below k other || is_below other k) ks)
split_any k [] = refl
split_any k (x ∷ ks) =
    let more = split_any k ks in
    let here : bytes_eq k x ≡ eq_by_cmp order k x = texts_ties k x in
    grind (arith, more, here)

pub keys-empty : (X : Type 0) → keys (empty {X = X} {R = order}) ≡ []
keys-empty X = ap (map (λ e. e.0)) (nil_from_length (entries (empty {X = X} {R = order})) (sym (len-entries empty) ∙ len-empty order X))

module _ {X : Type 0} where
  pub meets_nested : (k : List ℕ) (m : FinMap order X) → list_any (λ other. is_below k other || is_below other k) (keys m) ≡ true → list_any (collides k) (keys m) ≡ true
  meets_nested k m h = let parts = split_any k (keys m) in grind (arith, parts, h)

  pub meets_itself : (k : List ℕ) (m : FinMap order X) → list_any (λ other. is_below k other || is_below other k) (keys m) ≡ false → list_any (collides k) (keys m) ≡ contains_key m k
  meets_itself k m h = let parts = split_any k (keys m) in let key = contains_key-keys m k in grind (arith, parts, h, key)

  list_any-put : (test : List ℕ → Bool) (k : List ℕ) (v : X) (es : List (List ℕ × X)) → list_any (eq_by_cmp order k) (map (λ e. e.0) es) ≡ false
      → list_any test (map (λ e. e.0) (put order k v es)) ≡ (test k || list_any test (map (λ e. e.0) es))
  list_any-put test k v [] h = refl
  list_any-put test k v (e ∷ es) h =
      elim (order k e.0) as (λ o. (is_eq o || list_any (eq_by_cmp order k) (map (λ x. x.0) es)) ≡ false
      → list_any test (map (λ x. x.0) (by_order o ((k, v) ∷ e ∷ es) ((e.0, v) ∷ es) (e ∷ put order k v es))) ≡ (test k || (test e.0 || list_any test (map (λ x. x.0) es)))) [
        | Less ↦ λ n. refl
        | Equal ↦ λ n. absurd cc
        | Greater ↦ λ n. let more = list_any-put test k v es n in grind (arith, more)
      ] h

  list_any-insert : (test : List ℕ → Bool) (m : FinMap order X) (k : List ℕ) (v : X) → contains_key m k ≡ false → list_any test (keys (insert m k v)) ≡ (test k || list_any test (keys m))
  list_any-insert test m k v h =
      ap (λ es. list_any test (map (λ e. e.0) es)) (entries-insert nat_list_cmp_total m k v)
      ∙ list_any-put test k v (entries m) (sym (contains_key-keys m k) ∙ h)

  -- a file that collides with none is seen, and the search goes on
  seen_next : (file : FileItem) (m : FinMap order X) (v : X) (files : List FileItem) → list_any (collides file.path) (keys m) ≡ false
      → first_conflict (keys m) (file ∷ files) ≡ first_conflict (keys (insert m file.path v)) files
  seen_next file m v files h =
      ap (λ b. cond b (Some file.path) (first_conflict (file.path ∷ keys m) files)) h
      ∙ first_conflict-alike (file.path ∷ keys m) (keys (insert m file.path v)) files
      (λ test. sym (list_any-insert test m file.path v (contains_key-keys m file.path ∙ none_is_it file.path (keys m) h)))

  pub see_in_loop : (files rest : List FileItem) (i : ℕ) (file : FileItem) (path : List ℕ) (seen now : FinMap order X) (v : X) (due : Option (List ℕ)) → i < length files → file ≡ get_or files i file
      → list_any (collides file.path) (keys seen) ≡ false → path ≡ file.path → now ≡ insert seen path v
      → first_conflict (keys seen) (drop i files ++ rest) ≡ due → first_conflict (keys now) (drop (i + 1) files ++ rest) ≡ due
  see_in_loop files rest i file path seen now v due l f none p n h =
      (λ t. first_conflict (keys ((n ∙ ap (λ q. insert seen q v) p) t)) (drop (i + 1) files ++ rest))
      ∙ sym (seen_next file seen v (drop (i + 1) files ++ rest) none)
      ∙ ap (λ x. first_conflict (keys seen) (x ∷ drop (i + 1) files ++ rest)) f
      ∙ ap (λ fs. first_conflict (keys seen) (fs ++ rest)) (sym (drop_more files i file l))
      ∙ h
