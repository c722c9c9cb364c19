-- The map of statements has the files that are stated, each with what is stated of it.
use Rattle.std.proofs.Common.{◌≡◌, ℕ, Bool, true, false, List, [], ◌∷◌, ap, ap₂, sym, ◌∙◌, refl, subst, cond}
use Rattle.std.specs.Prelude.{map as each, bytes_eq, unwrap_or, Option, Some, None}
use Rattle.std.specs.declared.cmp.Ordering.TheVariants.{Less, Equal, Greater}
use Rattle.std.specs.Ordering.{eq_by_cmp}
use Rattle.std.specs.Cmp.{eq_by_cmp_equiv}
use Rattle.std.specs.Cmp.Lexicographic.{nat_list_cmp_total, texts_ties}
use Rattle.std.specs.List.{fold, filter_map, cons_option}
use Rattle.std.specs.FinMap as map
use Rattle.std.specs.FinMap.Entries.{put, by_order}
use Rattle.std.proofs.Math.Path.{fun_ext}
use Rattle.std.proofs.lemmas.List.{nil_from_length}
use Rattle.std.proofs.lemmas.Slice.Eq.{bytes_eq-Decides}
use Rattle.bulk_base.specs.Order.{TextSet, in_order}
use Rattle.bulk_base.proofs.MapView.{order}
use Rattle.bulk_model.specs.declared.digest.Digest.{Digest}
use Rattle.dist_files.specs.declared.dist.Dist.{Dist}
use Rattle.dist_files.specs.declared.stated.Known.{Known}
use Rattle.dist_files.specs.declared.stated.Known.TheVariants.{Never, Once, Again}
use Rattle.dist_files.specs.declared.stated.Stated.{Stated}
use Rattle.dist_files.specs.declared.statement.Fact.{Fact}
use Rattle.dist_files.specs.declared.statement.Fact.TheVariants.{Sha256, Size}
use Rattle.dist_files.specs.declared.statement.Statement.{Statement}
use Rattle.dist_files.specs.Distinfo.{only, hash_in, size_in, facts, dist_of, entry, files_in}
use Rattle.dist_files.specs.Stated.{StatedMap, once_more, once, unstated, with_fact, stated_at, noted, all_noted, entry_at}

-- ---- the files

abbrev put_key : List ℕ → List (List ℕ) → List (List ℕ)
put_key k [] = k ∷ []
put_key k (q ∷ qs) = by_order (order k q) (k ∷ q ∷ qs) (q ∷ qs) (q ∷ put_key k qs)

keys_put : {X : Type 0} (k : List ℕ) (v : X) (es : List (List ℕ × X)) → each (λ e. e.0) (put order k v es) ≡ put_key k (each (λ e. e.0) es)
keys_put k v [] = refl
keys_put k v (e ∷ es) =
    elim (order k e.0) as (λ o. each (λ y. y.0) (by_order o ((k, v) ∷ e ∷ es) ((e.0, v) ∷ es) (e ∷ put order k v es))
    ≡ by_order o (k ∷ e.0 ∷ each (λ y. y.0) es) (e.0 ∷ each (λ y. y.0) es) (e.0 ∷ put_key k (each (λ y. y.0) es))) [
      | Less ↦ refl
      | Equal ↦ refl
      | Greater ↦ ap (λ ks. e.0 ∷ ks) (keys_put k v es)
    ]

keys_insert : {X : Type 0} (m : map.FinMap order X) (k : List ℕ) (v : X) → map.keys (map.insert m k v) ≡ put_key k (map.keys m)
keys_insert m k v = ap (each (λ e. e.0)) (map.entries-insert nat_list_cmp_total m k v) ∙ keys_put k v (map.entries m)

keys_noted : (ss : List Statement) (m : StatedMap) (set : TextSet) → map.keys m ≡ map.keys set
    → map.keys (fold noted m ss) ≡ map.keys (fold (λ set text. map.insert set text tt) set (each (λ s. s.file) ss))
keys_noted [] m set e = e
keys_noted (s ∷ ss) m set e =
    keys_noted ss (noted m s) (map.insert set s.file tt)
    (keys_insert m s.file (with_fact (stated_at m s.file) s.fact) ∙ ap (put_key s.file) e ∙ sym (keys_insert set s.file tt))

no_keys : (X : Type 0) → map.keys (let none : map.FinMap order X = map.empty in none) ≡ []
no_keys X = ap (each (λ e. e.0)) (nil_from_length (map.entries (let none : map.FinMap order X = map.empty in none)) (sym (map.len-entries map.empty) ∙ map.len-empty order X))

-- the map's files are those of which something is stated
pub files_are : (ss : List Statement) → map.keys (all_noted ss) ≡ files_in ss
unfolding in_order
files_are ss = keys_noted ss map.empty map.empty (no_keys Stated ∙ sym (no_keys (Unit {0})))

-- ---- what is stated of each

same_file : (key file : List ℕ) → eq_by_cmp order file key ≡ bytes_eq key file
same_file key file = (eq_by_cmp_equiv nat_list_cmp_total).symm file key ∙ sym (texts_ties key file)

at_noted : (m : StatedMap) (s : Statement) (file : List ℕ) → stated_at (noted m s) file ≡ cond (bytes_eq s.file file) (with_fact (stated_at m s.file) s.fact) (stated_at m file)
at_noted m s file =
    ap (λ o. unwrap_or o unstated) (map.get-insert nat_list_cmp_total m s.file (with_fact (stated_at m s.file) s.fact) file)
    ∙ ap (λ b. unwrap_or (cond b (Some (with_fact (stated_at m s.file) s.fact)) (map.get m file)) unstated) (same_file s.file file)
    ∙ by_case (bytes_eq s.file file)
  where
    by_case : (b : Bool) → unwrap_or (cond b (Some (with_fact (stated_at m s.file) s.fact)) (map.get m file)) unstated ≡ cond b (with_fact (stated_at m s.file) s.fact) (stated_at m file)
    by_case true = refl
    by_case false = refl

hash_step : (known : Stated) (fact : Fact) (rest : List Digest) → fold once_more (with_fact known fact).sha256 rest ≡ fold once_more known.sha256 (cons_option (hash_in fact) rest)
hash_step known (Sha256 digest) rest = refl
hash_step known (Size size) rest = refl

size_step : (known : Stated) (fact : Fact) (rest : List ℕ) → fold once_more (with_fact known fact).size rest ≡ fold once_more known.size (cons_option (size_in fact) rest)
size_step known (Sha256 digest) rest = refl
size_step known (Size size) rest = refl

hash_case : (m : StatedMap) (s : Statement) (file : List ℕ) (rest : List Digest) (b : Bool) → bytes_eq s.file file ≡ b
    → fold once_more (cond b (with_fact (stated_at m s.file) s.fact) (stated_at m file)).sha256 rest ≡ fold once_more (stated_at m file).sha256 (cons_option (cond b (hash_in s.fact) None) rest)
hash_case m s file rest true e =
    ap (λ f. fold once_more (with_fact (stated_at m f) s.fact).sha256 rest) ((bytes_eq-Decides s.file file).0 e) ∙ hash_step (stated_at m file) s.fact rest
hash_case m s file rest false e = refl

size_case : (m : StatedMap) (s : Statement) (file : List ℕ) (rest : List ℕ) (b : Bool) → bytes_eq s.file file ≡ b
    → fold once_more (cond b (with_fact (stated_at m s.file) s.fact) (stated_at m file)).size rest ≡ fold once_more (stated_at m file).size (cons_option (cond b (size_in s.fact) None) rest)
size_case m s file rest true e =
    ap (λ f. fold once_more (with_fact (stated_at m f) s.fact).size rest) ((bytes_eq-Decides s.file file).0 e) ∙ size_step (stated_at m file) s.fact rest
size_case m s file rest false e = refl

hashes_noted : (ss : List Statement) (m : StatedMap) (file : List ℕ) → (stated_at (fold noted m ss) file).sha256 ≡ fold once_more (stated_at m file).sha256 (facts hash_in file ss)
hashes_noted [] m file = refl
hashes_noted (s ∷ ss) m file =
    hashes_noted ss (noted m s) file
    ∙ ap (λ k. fold once_more k.sha256 (facts hash_in file ss)) (at_noted m s file)
    ∙ hash_case m s file (facts hash_in file ss) (bytes_eq s.file file) refl

sizes_noted : (ss : List Statement) (m : StatedMap) (file : List ℕ) → (stated_at (fold noted m ss) file).size ≡ fold once_more (stated_at m file).size (facts size_in file ss)
sizes_noted [] m file = refl
sizes_noted (s ∷ ss) m file =
    sizes_noted ss (noted m s) file
    ∙ ap (λ k. fold once_more k.size (facts size_in file ss)) (at_noted m s file)
    ∙ size_case m s file (facts size_in file ss) (bytes_eq s.file file) refl

no_more : {X : Type 0} (xs : List X) → once (fold once_more Again xs) ≡ None
no_more [] = refl
no_more (x ∷ xs) = no_more xs

once_is_only : {X : Type 0} (xs : List X) → once (fold once_more Never xs) ≡ only xs
once_is_only [] = refl
once_is_only (x ∷ []) = refl
once_is_only (x ∷ y ∷ more) = no_more more

none_yet : (file : List ℕ) → stated_at map.empty file ≡ unstated
none_yet file = ap (λ o. unwrap_or o unstated) (map.get-empty order file)

entry_is : (ss : List Statement) (file : List ℕ) → entry_at (all_noted ss) file ≡ entry ss file
entry_is ss file = ap₂ (dist_of file)
    (ap once (hashes_noted ss map.empty file ∙ ap (λ k. fold once_more k.sha256 (facts hash_in file ss)) (none_yet file)) ∙ once_is_only (facts hash_in file ss))
    (ap once (sizes_noted ss map.empty file ∙ ap (λ k. fold once_more k.size (facts size_in file ss)) (none_yet file)) ∙ once_is_only (facts size_in file ss))

-- the entries by the map are those by the statements
pub entries_are : (ss : List Statement) → entry_at (all_noted ss) ≡ entry ss
entries_are ss = fun_ext (entry_is ss)
