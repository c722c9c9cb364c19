-- The packages of a content, by the files that are named after them.
use Rattle.std.proofs.Common.{◌≡◌, ◌≢◌, ◌↔◌, ◌⊎◌, ℕ, Bool, true, false, List, refl, ap, sym, subst, ◌∙◌, inl, inr, cond}
use Rattle.std.specs.Prelude.{Option, Some, None, is_some, bytes_eq, Result, Ok, Err, Contains, filter}
use Rattle.std.specs.List.{filter_map}
use Rattle.std.specs.Option.{option_and_then}
use Rattle.std.specs.FinMap.{get, insert, remove, keys, contains_key-keys, get-insert, get-remove}
use Rattle.std.specs.Cmp.Lexicographic.{slice_cmp, nat_list_cmp_total}
use Rattle.std.specs.Ordering.{nat_cmp, eq_by_cmp}
use Rattle.std.specs.declared.cmp.Ordering.{Ordering}
use Rattle.std.proofs.lemmas.Bool.{true≢false, false_from_ne_true}
use Rattle.std.proofs.lemmas.Map.Text.{is_eq-slice_cmp}
use Rattle.std.proofs.lemmas.Slice.Eq.{bytes_eq-Decides}
use Rattle.outside.specs.Contents.{Contents}
use Rattle.bulk_base.proofs.Members.{Member, any_member, filter_into, Given, filter_map_given, given_filter_map}
use Rattle.bulk_model.specs.declared.version.Version.TheVariants.{Two}
use Rattle.bulk_model.specs.FileNames.{package_file, is_package_file}
use Rattle.bulk_model.specs.Spelling.{spelling}
use Rattle.bulk_model.specs.Views.{PackageView}
use Rattle.bulk_model.proofs.FileNames.{package_file_apart, package_file_is}
use Rattle.pkg_record.specs.declared.answer.Record.{Record}
use Rattle.pkg_record.specs.declared.answer.Record.TheVariants.{New, Old}
use Rattle.pkg_record.specs.declared.fault.RecordError.{RecordError}
use Rattle.pkg_record.specs.Laws.{HasRecord}
use Rattle.pkg_record.specs.Reading.{record_of}
use Rattle.pkg_record.specs.Stored.{own_record, record_in, package_of, package_files, packages_in}
use Rattle.pkg_record.proofs.SpelledAgain.{record_again}
use Rattle.record_laws.specs.Stores.{IsThere, IsOfAnotherName}

abbrev order : List ℕ → List ℕ → Ordering
order = slice_cmp nat_cmp

abbrev Told : Type 0
Told = Result Record RecordError

same_package : (p q : PackageView) → (let o : Option PackageView = Some p in o) ≡ Some q → p ≡ q
same_package p q e = cc

no_package : (p : PackageView) → (let o : Option PackageView = None in o) ≡ Some p → ⊥
no_package p e = absurd cc

-- ---- a file that is named after what it holds

module _ (file : List ℕ) (p : PackageView) where
  new_case : (r : PackageView) (b : Bool) → bytes_eq file (package_file r.name) ≡ b → option_and_then package_of (cond b (Some (New r)) None) ≡ Some p → (r ≡ p) × (package_file p.name ≡ file)
  new_case r true h e =
      let same : r ≡ p = same_package r p e in
      (same, ap (λ x. package_file x.name) (sym same) ∙ sym ((bytes_eq-Decides file (package_file r.name)).0 h))
  new_case r false h e = absurd (no_package p e)

  old_case : (name : List ℕ) (b : Bool) → option_and_then package_of (cond b (Some (Old name)) None) ≡ Some p → ⊥
  old_case name true e = no_package p e
  old_case name false e = no_package p e

  own : (told : Told) → option_and_then package_of (own_record file told) ≡ Some p → (told ≡ Ok (New p)) × (package_file p.name ≡ file)
  own (Ok (New r)) e = (let n = new_case r (bytes_eq file (package_file r.name)) refl e in (ap (λ x. let t : Told = Ok (New x) in t) n.0, n.1))
  own (Ok (Old name)) e = absurd (old_case name (bytes_eq file (package_file name)) e)
  own (Err error) e = absurd (no_package p e)

  found : (o : Option (List ℕ)) → option_and_then package_of (option_and_then (λ bytes. own_record file (record_of bytes)) o) ≡ Some p
      → (bytes : List ℕ) × (o ≡ Some bytes) × (record_of bytes ≡ Ok (New p)) × (package_file p.name ≡ file)
  found (Some bytes) e = (let w = own (record_of bytes) e in (bytes, refl, w.0, w.1))
  found None e = absurd (no_package p e)

abbrev package_at : Contents → List ℕ → Option PackageView
package_at content file = option_and_then package_of (record_in content file)

pub there : (content : Contents) (p : PackageView) → Contains (packages_in content) p → IsThere content p
there content p c =
    let g : Given (package_at content) (package_files content) p = filter_map_given (package_at content) (package_files content) p c in
    let f = found g.one p (get content g.one) g.gives in
    record { bytes = f.0; there = ap (get content) f.3 ∙ f.1; read = f.2 }

-- ---- and back

some_key : (content : Contents) (file bytes : List ℕ) → get content file ≡ Some bytes → Contains (keys content) file
some_key content file bytes e =
    let m : Member (eq_by_cmp order file) (keys content) = any_member (eq_by_cmp order file) (keys content) (sym (contains_key-keys content file) ∙ ap is_some e) in
    subst (Contains (keys content)) (sym ((bytes_eq-Decides file m.one).0 (sym (is_eq-slice_cmp file m.one) ∙ m.does))) m.is

pub back : (content : Contents) (p : PackageView) → IsThere content p → Contains (packages_in content) p
back content p t =
    let name : bytes_eq (package_file p.name) (package_file p.name) ≡ true = (bytes_eq-Decides (package_file p.name) (package_file p.name)).1 refl in
    let read : package_at content (package_file p.name) ≡ Some p =
    ap (λ o. option_and_then package_of (option_and_then (λ bytes. own_record (package_file p.name) (record_of bytes)) o)) t.there
    ∙ ap (λ told. option_and_then package_of (own_record (package_file p.name) told)) t.read
    ∙ ap (λ b. option_and_then package_of (cond b (Some (New p)) None)) name in
    given_filter_map (package_at content) (package_files content) (package_file p.name) p
    (filter_into is_package_file (keys content) (package_file p.name) (some_key content (package_file p.name) t.bytes t.there) (package_file_is p.name)) read

-- ---- one package a name

same_told : (p q : PackageView) → (let t : Told = Ok (New p) in t) ≡ Ok (New q) → p ≡ q
same_told p q e = cc

same_bytes : (a b : List ℕ) → (let o : Option (List ℕ) = Some a in o) ≡ Some b → a ≡ b
same_bytes a b e = cc

pub one_a_name : (content : Contents) (p q : PackageView) → IsThere content p → IsThere content q → p.name ≡ q.name → p ≡ q
one_a_name content p q a b e =
    let bytes : a.bytes ≡ b.bytes = same_bytes a.bytes b.bytes (sym a.there ∙ ap (λ n. get content (package_file n)) e ∙ b.there) in
    same_told p q (sym a.read ∙ ap record_of bytes ∙ b.read)

-- ---- what a put and a removal leave under a name

same_name : (a b : List ℕ) → eq_by_cmp order a b ≡ bytes_eq a b
same_name a b = is_eq-slice_cmp a b

apart : (a b : List ℕ) → (a ≡ b → ⊥) → eq_by_cmp order a b ≡ false
apart a b n = same_name a b ∙ false_from_ne_true (bytes_eq a b) (λ h. n ((bytes_eq-Decides a b).0 h))

pub put_here : (content : Contents) (file bytes : List ℕ) → get (insert content file bytes) file ≡ Some bytes
put_here content file bytes =
    get-insert nat_list_cmp_total content file bytes file
    ∙ ap (λ b. cond b (Some bytes) (get content file)) (same_name file file ∙ (bytes_eq-Decides file file).1 refl)

pub put_elsewhere : (content : Contents) (file bytes other : List ℕ) → (other ≡ file → ⊥) → get (insert content file bytes) other ≡ get content other
put_elsewhere content file bytes other n = get-insert nat_list_cmp_total content file bytes other ∙ ap (λ b. cond b (Some bytes) (get content other)) (apart other file n)

pub gone_here : (content : Contents) (file : List ℕ) → get (remove content file) file ≡ None
gone_here content file =
    get-remove nat_list_cmp_total content file file
    ∙ ap (λ b. cond b None (get content file)) (same_name file file ∙ (bytes_eq-Decides file file).1 refl)

pub gone_elsewhere : (content : Contents) (file other : List ℕ) → (other ≡ file → ⊥) → get (remove content file) other ≡ get content other
gone_elsewhere content file other n = get-remove nat_list_cmp_total content file other ∙ ap (λ b. cond b None (get content other)) (apart other file n)

-- the same bytes under a package's file name are the same package
pub moved : (before now : Contents) (q : PackageView) → get now (package_file q.name) ≡ get before (package_file q.name) → IsThere before q → IsThere now q
moved before now q e t = record { bytes = t.bytes; there = e ∙ t.there; read = t.read }

decided : (a b : List ℕ) → (a ≡ b) ⊎ (a ≢ b)
decided a b = by (bytes_eq a b) refl
  where
    by : (t : Bool) → bytes_eq a b ≡ t → (a ≡ b) ⊎ (a ≢ b)
    by true h = inl ((bytes_eq-Decides a b).0 h)
    by false h = inr (λ e. true≢false (sym ((bytes_eq-Decides a b).1 e) ∙ h))

module _ (content : Contents) (p : PackageView) (h : HasRecord Two p) where
  abbrev put : Contents
  put = insert content (package_file p.name) (spelling p)

  put_is_there : IsThere put p
  put_is_there = record { bytes = spelling p; there = put_here content (package_file p.name) (spelling p); read = record_again Two p h }

  elsewhere : (q : PackageView) → (q.name ≢ p.name) → get put (package_file q.name) ≡ get content (package_file q.name)
  elsewhere q n = put_elsewhere content (package_file p.name) (spelling p) (package_file q.name) (λ e. n (package_file_apart q.name p.name e))

  after_case : (q : PackageView) → Contains (packages_in put) q → (q.name ≡ p.name) ⊎ (q.name ≢ p.name) → (q ≡ p) ⊎ IsOfAnotherName content p.name q
  after_case q c (inl e) = inl (one_a_name put q p (there put q c) put_is_there e)
  after_case q c (inr n) = inr (back content q (moved put content q (sym (elsewhere q n)) (there put q c)), n)

  before_case : (q : PackageView) → (q ≡ p) ⊎ IsOfAnotherName content p.name q → Contains (packages_in put) q
  before_case q (inl e) = subst (Contains (packages_in put)) (sym e) (back put p put_is_there)
  before_case q (inr o) = back put q (moved content put q (elsewhere q o.1) (there content q o.0))

  pub after_a_put : (q : PackageView) → Contains (packages_in put) q ↔ ((q ≡ p) ⊎ IsOfAnotherName content p.name q)
  after_a_put q = (λ c. after_case q c (decided q.name p.name), before_case q)

module _ (content : Contents) (name : List ℕ) where
  abbrev left : Contents
  left = remove content (package_file name)

  kept : (q : PackageView) → (q.name ≢ name) → get left (package_file q.name) ≡ get content (package_file q.name)
  kept q n = gone_elsewhere content (package_file name) (package_file q.name) (λ e. n (package_file_apart q.name name e))

  none_left : (q : PackageView) → IsThere left q → q.name ≡ name → ⊥
  none_left q t e =
      let s : (let o : Option (List ℕ) = None in o) ≡ Some t.bytes = sym (gone_here content (package_file name)) ∙ ap (λ n. get left (package_file n)) (sym e) ∙ t.there in
      absurd cc

  left_case : (q : PackageView) → Contains (packages_in left) q → (q.name ≡ name) ⊎ (q.name ≢ name) → IsOfAnotherName content name q
  left_case q c (inl e) = absurd (none_left q (there left q c) e)
  left_case q c (inr n) = (back content q (moved left content q (sym (kept q n)) (there left q c)), n)

  pub after_a_removal : (q : PackageView) → Contains (packages_in left) q ↔ IsOfAnotherName content name q
  after_a_removal q = (λ c. left_case q c (decided q.name name), λ o. back left q (moved content left q (kept q o.1) (there content q o.0)))

not_package : (file : List ℕ) (q : PackageView) → is_package_file file ≡ false → package_file q.name ≡ file → ⊥
not_package file q f e = true≢false (sym (package_file_is q.name) ∙ ap is_package_file e ∙ f)

pub other_put : (content : Contents) (file bytes : List ℕ) → is_package_file file ≡ false → (q : PackageView) → Contains (packages_in (insert content file bytes)) q ↔ Contains (packages_in content) q
other_put content file bytes f q =
    let now : Contents = insert content file bytes in
    let same : get (insert content file bytes) (package_file q.name) ≡ get content (package_file q.name) = put_elsewhere content file bytes (package_file q.name) (not_package file q f) in
    (λ c. back content q (moved (insert content file bytes) content q (sym same) (there (insert content file bytes) q c)), λ c. back (insert content file bytes) q (moved content (insert content file bytes) q same (there content q c)))

pub other_removal : (content : Contents) (file : List ℕ) → is_package_file file ≡ false → (q : PackageView) → Contains (packages_in (remove content file)) q ↔ Contains (packages_in content) q
other_removal content file f q =
    let same : get (remove content file) (package_file q.name) ≡ get content (package_file q.name) = gone_elsewhere content file (package_file q.name) (not_package file q f) in
    (λ c. back content q (moved (remove content file) content q (sym same) (there (remove content file) q c)), λ c. back (remove content file) q (moved content (remove content file) q same (there content q c)))
