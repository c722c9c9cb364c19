-- What is read as a package is spelled so.
use Rattle.std.proofs.Common.{◌≡◌, ℕ, ◌-◌, zero, suc, Bool, true, List, [], ◌∷◌, ◌++◌, length, take, codes, arith, refl, ap, ap₂, sym, subst, ◌∙◌, append_assoc, append-nil}
use Rattle.std.specs.Prelude.{◌==◌, ◌≢◌, Option, Some, Result, Ok, Err, cond}
use Rattle.std.specs.Option.{option_and_then}
use Rattle.std.specs.List.{flat_map}
use Rattle.std.specs.Fmt.{decimal}
use Rattle.std.proofs.lemmas.Bool.{eqb-true}
use Rattle.std.proofs.lemmas.List.{length-append, nil_from_length}
use Rattle.std.proofs.lemmas.List.Concat.{flat_map-cons}
use Rattle.std.proofs.Math.Seq.{take-append_seam}
use Rattle.bulk_base.specs.declared.file.FileItem.{FileItem}
use Rattle.bulk_base.specs.declared.file.Switch.{Switch}
use Rattle.bulk_model.specs.declared.depend.Recorded.{Recorded}
use Rattle.bulk_model.specs.declared.digest.Digest.{Digest}
use Rattle.bulk_model.specs.declared.version.Version.{Version}
use Rattle.bulk_model.specs.declared.version.Version.TheVariants.{One, Two}
use Rattle.bulk_model.specs.Digests.{digest_of, no_digest, hex, is_digest}
use Rattle.bulk_model.specs.Facts.{IsPackage}
use Rattle.bulk_model.specs.Lines.{line, flavor_word, name_lines, option_line, option_lines, file_piece}
use Rattle.bulk_model.specs.Spelling.{version_words, recipe_line, recorded_line, recorded_lines, unsigned, signed_with, signed}
use Rattle.bulk_model.specs.Views.{PackageView}
use Rattle.pkg_record.specs.declared.fault.Fault.{Fault}
use Rattle.pkg_record.specs.declared.fault.Fault.TheVariants.{Misfit}
use Rattle.port_name.specs.Forms.{is_origin}
use Rattle.port_name.specs.PackageForm.{is_package_name}
use Rattle.pkg_record.specs.Said.{behind, passing, word_behind, version_said, flavor_said, recipe_said, count_behind, option_said, depend_said, file_said}
use Rattle.pkg_record.specs.Reading.{◌>>=◌, said_at, piece_at, last_of, option_follows, next_option, option_at, depend_follows, next_depend, depend_at, is_next_path, next_file, file_at, items_at, listed_at, recipe_at, package_told, unsigned_at, Signed, signed as signed_as, signed_at, digest_before, answer}
use Rattle.pkg_record.specs.Laws.{IsSpelled, HasOtherDigest}
use Rattle.pkg_record.proofs.NextPath.{may_follow}
use Rattle.pkg_record.proofs.Taken.{bind_ok, then_some, given, given_ok, ok_is, said_taken, word_taken, flavor_taken, count_taken, option_taken, version_taken, recipe_taken, depend_taken, path_filled, file_taken, piece_taken}

-- ---- items

option_item : (before : List Switch) (bytes : List ℕ) (option : Switch) (rest : List ℕ) → option_at before bytes ≡ Ok (option, rest) → bytes ≡ option_line option ++ rest
unfolding option_at
option_item before bytes option rest e =
    let s = said_taken (λ text. option_and_then (next_option before) (option_said text)) bytes option rest e in
    let t = then_some (option_said s.0) (next_option before) option s.1 in
    let g = given (option_follows (last_of before) t.0) t.0 option t.2 in
    s.2 ∙ ap (λ l. l ++ rest) (option_taken s.0 t.0 t.1 ∙ ap option_line g.1)

depend_item : (version : Version) (before : List Recorded) (bytes : List ℕ) (found : Recorded) (rest : List ℕ) → depend_at version before bytes ≡ Ok (found, rest) → bytes ≡ recorded_line version found ++ rest
unfolding depend_at
depend_item version before bytes found rest e =
    let s = said_taken (λ text. option_and_then (next_depend before) (depend_said version text)) bytes found rest e in
    let t = then_some (depend_said version s.0) (next_depend before) found s.1 in
    let g = given (depend_follows (last_of before) t.0) t.0 found t.2 in
    s.2 ∙ ap (λ l. l ++ rest) (depend_taken version s.0 t.0 t.1 ∙ ap (recorded_line version) g.1)

abbrev pub file_made : List ℕ → List ℕ → FileItem
file_made path bytes = record { path = path; bytes = bytes }

file_item : (before : List FileItem) (bytes : List ℕ) (file : FileItem) (rest : List ℕ) → file_at before bytes ≡ Ok (file, rest) → bytes ≡ file_piece file ++ rest
unfolding file_at
file_item before bytes file rest e =
    let b = bind_ok (said_at (λ text. option_and_then (next_file before) (file_said text)) bytes) (λ head. piece_at head.0.0 head.1 >>= λ piece. Ok (file_made head.0.1 piece.0, piece.1)) (file, rest) e in
    let size = b.0.0.0 in
    let path = b.0.0.1 in
    let c = bind_ok (piece_at size b.0.1) (λ piece. Ok (file_made path piece.0, piece.1)) (file, rest) b.2 in
    let s = said_taken (λ text. option_and_then (next_file before) (file_said text)) bytes b.0.0 b.0.1 b.1 in
    let t = then_some (file_said s.0) (next_file before) b.0.0 s.1 in
    let g = given (is_next_path before t.0.1) t.0 b.0.0 t.2 in
    let next : is_next_path before path ≡ true = ap (λ (x : ℕ × List ℕ). is_next_path before x.1) (sym g.1) ∙ g.0 in
    let said : file_said s.0 ≡ Some (size, path) = t.1 ∙ ap (λ x. Some x) g.1 in
    let p = piece_taken size b.0.1 c.0.0 c.0.1 c.1 in
    let head : line s.0 ≡ line (codes "file " ++ decimal (length c.0.0) ++ codes " " ++ path) = ap line (file_taken s.0 size path (path_filled path (may_follow before path next).form) said ∙ ap (λ n. codes "file " ++ decimal n ++ codes " " ++ path) (sym p.1)) in
    let whole : bytes ≡ file_piece (file_made path c.0.0) ++ c.0.1 = s.2 ∙ ap₂ (λ l r. l ++ r) head p.0 ∙ sym (append_assoc (line (codes "file " ++ decimal (length c.0.0) ++ codes " " ++ path)) (line c.0.0) c.0.1) in
    subst (λ (x : FileItem × List ℕ). bytes ≡ file_piece x.0 ++ x.1) (ok_is (file_made path c.0.0, c.0.1) (file, rest) c.2) whole

abbrev Takes : {X : Type 0} → (List X → List ℕ → Result (X × List ℕ) Fault) → (X → List ℕ) → Type 0
Takes {X} item spell = (before : List X) (bytes : List ℕ) (x : X) (rest : List ℕ) → item before bytes ≡ Ok (x, rest) → bytes ≡ spell x ++ rest

items_taken : {X : Type 0} (item : List X → List ℕ → Result (X × List ℕ) Fault) (spell : X → List ℕ) → Takes item spell → (n : ℕ) (before : List X) (bytes : List ℕ) (all : List X) (rest : List ℕ) → items_at item n before bytes ≡ Ok (all, rest)
    → (more : List X) × (all ≡ before ++ more) × (length more ≡ n) × (bytes ≡ flat_map spell more ++ rest)
unfolding items_at
items_taken {X} item spell takes zero before bytes all rest e =
    let p = ok_is (before, bytes) (all, rest) e in
    ([], sym (ap (λ (x : List X × List ℕ). x.0) p) ∙ sym (append-nil before), refl, ap (λ (x : List X × List ℕ). x.1) p)
items_taken item spell takes (suc n) before bytes all rest e =
    let b = bind_ok (item before bytes) (λ x. items_at item n (before ++ x.0 ∷ []) x.1) (all, rest) e in
    let r = items_taken item spell takes n (before ++ b.0.0 ∷ []) b.0.1 all rest b.2 in (
      b.0.0 ∷ r.0,
      r.1 ∙ append_assoc before (b.0.0 ∷ []) r.0,
      ap suc r.2,
      takes before bytes b.0.0 b.0.1 b.1 ∙ ap (λ l. spell b.0.0 ++ l) r.3 ∙ sym (append_assoc (spell b.0.0) (flat_map spell r.0) rest) ∙ ap (λ l. l ++ rest) (sym (flat_map-cons spell b.0.0 r.0)),
    )

listed_taken : {X : Type 0} (heading : List ℕ) (item : List X → List ℕ → Result (X × List ℕ) Fault) (spell : X → List ℕ) → Takes item spell → (bytes : List ℕ) (all : List X) (rest : List ℕ) → listed_at heading item bytes ≡ Ok (all, rest)
    → (middle : List ℕ) × (bytes ≡ line (heading ++ decimal (length all)) ++ middle) × (middle ≡ flat_map spell all ++ rest)
unfolding listed_at
listed_taken heading item spell takes bytes all rest e =
    let b = bind_ok (said_at (count_behind heading) bytes) (λ count. items_at item count.0 [] count.1) (all, rest) e in
    let s = said_taken (count_behind heading) bytes b.0.0 b.0.1 b.1 in
    let i = items_taken item spell takes b.0.0 [] b.0.1 all rest b.2 in
    let count : b.0.0 ≡ length all = sym i.2 ∙ ap length (sym i.1) in
    (b.0.1, s.2 ∙ ap (λ t. line t ++ b.0.1) (count_taken heading s.0 b.0.0 s.1 ∙ ap (λ n. heading ++ decimal n) count), i.3 ∙ ap (λ m. flat_map spell m ++ rest) (sym i.1))

-- ---- the lines before the digest

joined_one : (done bytes a r : List ℕ) → bytes ≡ a ++ r → done ++ bytes ≡ (done ++ a) ++ r
joined_one done bytes a r e = ap (λ t. done ++ t) e ∙ sym (append_assoc done a r)

joined_in : (v a bytes b r : List ℕ) → bytes ≡ b ++ r → (v ++ a) ++ bytes ≡ (v ++ (a ++ b)) ++ r
joined_in v a bytes b r e = joined_one (v ++ a) bytes b r e ∙ ap (λ t. t ++ r) (append_assoc v a b)

joined_two : (done bytes a m b r : List ℕ) → bytes ≡ a ++ m → m ≡ b ++ r → done ++ bytes ≡ (done ++ (a ++ b)) ++ r
joined_two done bytes a m b r e f = joined_one done bytes (a ++ b) r (e ∙ ap (λ t. a ++ t) f ∙ sym (append_assoc a b r))

abbrev pub Told : Type 0
Told = Version × PackageView

abbrev pub Reads : Type 0
Reads = List ℕ → Result (Told × List ℕ) Fault

version_line_taken : (bytes : List ℕ) (version : Version) (rest : List ℕ) → said_at version_said bytes ≡ Ok (version, rest) → bytes ≡ line (version_words version) ++ rest
version_line_taken bytes version rest e =
    let s = said_taken version_said bytes version rest e in
    s.2 ∙ ap (λ t. line t ++ rest) (version_taken s.0 version s.1)

word_line_taken : (heading : List ℕ) (test : List ℕ → Bool) (bytes word rest : List ℕ) → said_at (word_behind heading test) bytes ≡ Ok (word, rest) → bytes ≡ line (heading ++ word) ++ rest
word_line_taken heading test bytes word rest e =
    let s = said_taken (word_behind heading test) bytes word rest e in
    s.2 ∙ ap (λ t. line t ++ rest) (word_taken heading test s.0 word s.1)

flavor_line_taken : (bytes : List ℕ) (flavor : Option (List ℕ)) (rest : List ℕ) → said_at flavor_said bytes ≡ Ok (flavor, rest) → bytes ≡ line (codes "flavor " ++ flavor_word flavor) ++ rest
flavor_line_taken bytes flavor rest e =
    let s = said_taken flavor_said bytes flavor rest e in
    s.2 ∙ ap (λ t. line t ++ rest) (flavor_taken s.0 flavor s.1)

recipe_line_taken : (version : Version) (bytes : List ℕ) (recipe : Digest) (rest : List ℕ) → recipe_at version bytes ≡ Ok (recipe, rest) → bytes ≡ recipe_line version recipe ++ rest
unfolding recipe_at
recipe_line_taken One bytes recipe rest e = ap (λ (x : Digest × List ℕ). x.1) (ok_is (no_digest, bytes) (recipe, rest) e)
recipe_line_taken Two bytes recipe rest e =
    let s = said_taken recipe_said bytes recipe rest e in
    s.2 ∙ ap (λ t. line t ++ rest) (recipe_taken s.0 recipe s.1)

module _ (version : Version) where
  abbrev pub from_files : List ℕ → List ℕ → Option (List ℕ) → Digest → List Switch → List Recorded → Reads
  from_files name origin flavor recipe options depends bytes =
      listed_at (codes "files ") file_at bytes >>= λ files. Ok ((version, package_told name origin flavor recipe options depends files.0), files.1)

  abbrev pub from_depends : List ℕ → List ℕ → Option (List ℕ) → Digest → List Switch → Reads
  from_depends name origin flavor recipe options bytes =
      listed_at (codes "depends ") (depend_at version) bytes >>= λ depends. from_files name origin flavor recipe options depends.0 depends.1

  abbrev pub from_options : List ℕ → List ℕ → Option (List ℕ) → Digest → Reads
  from_options name origin flavor recipe bytes =
      listed_at (codes "options ") option_at bytes >>= λ options. from_depends name origin flavor recipe options.0 options.1

  abbrev pub from_recipe : List ℕ → List ℕ → Option (List ℕ) → Reads
  from_recipe name origin flavor bytes = recipe_at version bytes >>= λ recipe. from_options name origin flavor recipe.0 recipe.1

  abbrev pub from_flavor : List ℕ → List ℕ → Reads
  from_flavor name origin bytes = said_at flavor_said bytes >>= λ flavor. from_recipe name origin flavor.0 flavor.1

  abbrev pub from_origin : List ℕ → Reads
  from_origin name bytes = said_at (word_behind (codes "origin ") is_origin) bytes >>= λ origin. from_flavor name origin.0 origin.1

  abbrev pub from_name : Reads
  from_name bytes = said_at (word_behind (codes "name ") is_package_name) bytes >>= λ name. from_origin name.0 name.1

  -- the spelling up to some line
  abbrev pub up_to_version : List ℕ
  up_to_version = line (version_words version)

  abbrev pub up_to_flavor : List ℕ → List ℕ → Option (List ℕ) → List ℕ
  up_to_flavor name origin flavor = up_to_version ++ name_lines name origin flavor

  abbrev pub up_to_recipe : List ℕ → List ℕ → Option (List ℕ) → Digest → List ℕ
  up_to_recipe name origin flavor recipe = up_to_flavor name origin flavor ++ recipe_line version recipe

  abbrev pub up_to_options : List ℕ → List ℕ → Option (List ℕ) → Digest → List Switch → List ℕ
  up_to_options name origin flavor recipe options = up_to_recipe name origin flavor recipe ++ option_lines options

  abbrev pub up_to_depends : List ℕ → List ℕ → Option (List ℕ) → Digest → List Switch → List Recorded → List ℕ
  up_to_depends name origin flavor recipe options depends = up_to_options name origin flavor recipe options ++ recorded_lines version depends

  -- what is read from some line on is what the bytes before it and these spell
  abbrev Spells : List ℕ → List ℕ → Told → List ℕ → Type 0
  Spells before bytes t rest = before ++ bytes ≡ unsigned t.0 t.1 ++ rest

  files_taken : (name origin : List ℕ) (flavor : Option (List ℕ)) (recipe : Digest) (options : List Switch) (depends : List Recorded) (bytes : List ℕ) (t : Told) (rest : List ℕ)
      → from_files name origin flavor recipe options depends bytes ≡ Ok (t, rest) → Spells (up_to_depends name origin flavor recipe options depends) bytes t rest
  files_taken name origin flavor recipe options depends bytes t rest e =
      let before = up_to_depends name origin flavor recipe options depends in
      let b = bind_ok (listed_at (codes "files ") file_at bytes) (λ files. Ok ((version, package_told name origin flavor recipe options depends files.0), files.1)) (t, rest) e in
      let l = listed_taken (codes "files ") file_at file_piece file_item bytes b.0.0 b.0.1 b.1 in
      let made : Told = (version, package_told name origin flavor recipe options depends b.0.0) in
      let whole : Spells before bytes made b.0.1 =
      joined_two before bytes (line (codes "files " ++ decimal (length b.0.0))) l.0 (flat_map file_piece b.0.0) b.0.1 l.1 l.2 in
      subst (λ (x : Told × List ℕ). Spells before bytes x.0 x.1) (ok_is (made, b.0.1) (t, rest) b.2) whole

  depends_taken : (name origin : List ℕ) (flavor : Option (List ℕ)) (recipe : Digest) (options : List Switch) (bytes : List ℕ) (t : Told) (rest : List ℕ)
      → from_depends name origin flavor recipe options bytes ≡ Ok (t, rest) → Spells (up_to_options name origin flavor recipe options) bytes t rest
  depends_taken name origin flavor recipe options bytes t rest e =
      let b = bind_ok (listed_at (codes "depends ") (depend_at version) bytes) (λ depends. from_files name origin flavor recipe options depends.0 depends.1) (t, rest) e in
      let l = listed_taken (codes "depends ") (depend_at version) (recorded_line version) (depend_item version) bytes b.0.0 b.0.1 b.1 in
      joined_two (up_to_options name origin flavor recipe options) bytes (line (codes "depends " ++ decimal (length b.0.0))) l.0 (flat_map (recorded_line version) b.0.0) b.0.1 l.1 l.2
      ∙ files_taken name origin flavor recipe options b.0.0 b.0.1 t rest b.2

  options_taken : (name origin : List ℕ) (flavor : Option (List ℕ)) (recipe : Digest) (bytes : List ℕ) (t : Told) (rest : List ℕ)
      → from_options name origin flavor recipe bytes ≡ Ok (t, rest) → Spells (up_to_recipe name origin flavor recipe) bytes t rest
  options_taken name origin flavor recipe bytes t rest e =
      let b = bind_ok (listed_at (codes "options ") option_at bytes) (λ options. from_depends name origin flavor recipe options.0 options.1) (t, rest) e in
      let l = listed_taken (codes "options ") option_at option_line option_item bytes b.0.0 b.0.1 b.1 in
      joined_two (up_to_recipe name origin flavor recipe) bytes (line (codes "options " ++ decimal (length b.0.0))) l.0 (flat_map option_line b.0.0) b.0.1 l.1 l.2
      ∙ depends_taken name origin flavor recipe b.0.0 b.0.1 t rest b.2

  from_recipe_taken : (name origin : List ℕ) (flavor : Option (List ℕ)) (bytes : List ℕ) (t : Told) (rest : List ℕ)
      → from_recipe name origin flavor bytes ≡ Ok (t, rest) → Spells (up_to_flavor name origin flavor) bytes t rest
  from_recipe_taken name origin flavor bytes t rest e =
      let b = bind_ok (recipe_at version bytes) (λ recipe. from_options name origin flavor recipe.0 recipe.1) (t, rest) e in
      joined_one (up_to_flavor name origin flavor) bytes (recipe_line version b.0.0) b.0.1 (recipe_line_taken version bytes b.0.0 b.0.1 b.1)
      ∙ options_taken name origin flavor b.0.0 b.0.1 t rest b.2

  from_flavor_taken : (name origin bytes : List ℕ) (t : Told) (rest : List ℕ) → from_flavor name origin bytes ≡ Ok (t, rest)
      → Spells (up_to_version ++ (line (codes "name " ++ name) ++ line (codes "origin " ++ origin))) bytes t rest
  from_flavor_taken name origin bytes t rest e =
      let b = bind_ok (said_at flavor_said bytes) (λ flavor. from_recipe name origin flavor.0 flavor.1) (t, rest) e in
      joined_in up_to_version (line (codes "name " ++ name) ++ line (codes "origin " ++ origin)) bytes (line (codes "flavor " ++ flavor_word b.0.0)) b.0.1 (flavor_line_taken bytes b.0.0 b.0.1 b.1)
      ∙ from_recipe_taken name origin b.0.0 b.0.1 t rest b.2

  from_origin_taken : (name bytes : List ℕ) (t : Told) (rest : List ℕ) → from_origin name bytes ≡ Ok (t, rest) → Spells (up_to_version ++ line (codes "name " ++ name)) bytes t rest
  from_origin_taken name bytes t rest e =
      let b = bind_ok (said_at (word_behind (codes "origin ") is_origin) bytes) (λ origin. from_flavor name origin.0 origin.1) (t, rest) e in
      joined_in up_to_version (line (codes "name " ++ name)) bytes (line (codes "origin " ++ b.0.0)) b.0.1 (word_line_taken (codes "origin ") is_origin bytes b.0.0 b.0.1 b.1)
      ∙ from_flavor_taken name b.0.0 b.0.1 t rest b.2

  from_name_taken : (bytes : List ℕ) (t : Told) (rest : List ℕ) → from_name bytes ≡ Ok (t, rest) → Spells up_to_version bytes t rest
  from_name_taken bytes t rest e =
      let b = bind_ok (said_at (word_behind (codes "name ") is_package_name) bytes) (λ name. from_origin name.0 name.1) (t, rest) e in
      joined_one up_to_version bytes (line (codes "name " ++ b.0.0)) b.0.1 (word_line_taken (codes "name ") is_package_name bytes b.0.0 b.0.1 b.1)
      ∙ from_origin_taken b.0.0 b.0.1 t rest b.2

pub unsigned_taken : (bytes : List ℕ) (t : Told) (rest : List ℕ) → unsigned_at bytes ≡ Ok (t, rest) → bytes ≡ unsigned t.0 t.1 ++ rest
unfolding unsigned_at
unsigned_taken bytes t rest e =
    let b = bind_ok (said_at version_said bytes) (λ version. from_name version.0 version.1) (t, rest) e in
    version_line_taken bytes b.0.0 b.0.1 b.1 ∙ from_name_taken b.0.0 b.0.1 t rest b.2

-- ---- the whole

record IsSigned (bytes : List ℕ) (s : Signed) : Type 0 where
  pub spelled : bytes ≡ signed_with s.version s.stated s.read
  pub before : take s.size bytes ≡ unsigned s.version s.read
  pub form : is_digest s.stated ≡ true

-- a word that was read behind a heading passes its test
word_form : (heading : List ℕ) (test : List ℕ → Bool) (bytes word rest : List ℕ) → said_at (word_behind heading test) bytes ≡ Ok (word, rest) → test word ≡ true
word_form heading test bytes word rest e =
    let s = said_taken (word_behind heading test) bytes word rest e in
    let t = then_some (behind heading s.0) (passing test) word s.1 in
    let g = given (test t.0) t.0 word t.2 in
    subst (λ w. test w ≡ true) g.1 g.0

signed_taken : (bytes : List ℕ) (s : Signed) → signed_at bytes ≡ Ok s → IsSigned bytes s
unfolding signed_at
signed_taken bytes s e =
    let b = bind_ok (unsigned_at bytes) (λ told. said_at (word_behind (codes "sha256 ") is_digest) told.1 >>= λ digest. cond (length digest.1 == 0) (Ok (signed_as told.0 digest.0 (length bytes - length told.1))) (Err (Misfit (length digest.1)))) s e in
    let told = b.0.0 in
    let lines = unsigned told.0 told.1 in
    let c = bind_ok (said_at (word_behind (codes "sha256 ") is_digest) b.0.1) (λ digest. cond (length digest.1 == 0) (Ok (signed_as told digest.0 (length bytes - length b.0.1))) (Err (Misfit (length digest.1)))) s b.2 in
    let g = given_ok (length c.0.1 == 0) (Misfit (length c.0.1)) (signed_as told c.0.0 (length bytes - length b.0.1)) s c.2 in
    let u : bytes ≡ lines ++ b.0.1 = unsigned_taken bytes told b.0.1 b.1 in
    let nothing : c.0.1 ≡ [] = nil_from_length c.0.1 (eqb-true _ _ g.0) in
    let last : b.0.1 ≡ line (codes "sha256 " ++ c.0.0) = word_line_taken (codes "sha256 ") is_digest b.0.1 c.0.0 c.0.1 c.1 ∙ ap (λ r. line (codes "sha256 " ++ c.0.0) ++ r) nothing ∙ append-nil _ in
    let size : length bytes - length b.0.1 ≡ length lines = omega (arith, ap length u, length-append lines b.0.1) in
    let made : IsSigned bytes (signed_as told c.0.0 (length bytes - length b.0.1)) = record {
      spelled = u ∙ ap (λ r. lines ++ r) last;
      before = ap₂ take size u ∙ take-append_seam lines b.0.1;
      form = word_form (codes "sha256 ") is_digest b.0.1 c.0.0 c.0.1 c.1;
    } in
    subst (IsSigned bytes) g.1 made

-- what states the digest of its lines is a record
pub is_signed : (bytes found : List ℕ) (s : Signed) → signed_at bytes ≡ Ok s → found ≡ digest_before s.size bytes → s.stated ≡ found → bytes ≡ signed s.version s.read
is_signed bytes found s e is same =
    let t = signed_taken bytes s e in
    t.spelled ∙ ap (λ d. signed_with s.version d s.read) (same ∙ is ∙ ap (λ b. hex (digest_of b)) t.before)

pub answer_spelled : (bytes : List ℕ) (version : Version) (p : PackageView) → IsPackage p → bytes ≡ signed version p → IsSpelled bytes (answer version p)
answer_spelled bytes One p facts e = record { told = p; form = facts; name_is = refl; spelled = e }
answer_spelled bytes Two p facts e = e

-- what states another digest than that of its lines
pub has_other_digest : (bytes found : List ℕ) (s : Signed) → signed_at bytes ≡ Ok s → IsPackage s.read → found ≡ digest_before s.size bytes → s.stated ≢ found → HasOtherDigest bytes s.stated found
has_other_digest bytes found s e facts is differs =
    let t = signed_taken bytes s e in
    record { version = s.version; read = s.read; facts = facts; form = t.form; spelled = t.spelled; digest = is ∙ ap (λ b. hex (digest_of b)) t.before; differs = differs }
