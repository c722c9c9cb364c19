-- What is spelled as a package's record is read, whatever follows the lines before its digest.
use Rattle.std.proofs.Common.{◌≡◌, ℕ, ◌-◌, ◌^◌, ◌<◌, suc, Bool, true, false, List, [], ◌∷◌, ◌++◌, length, get_or, map, codes, arith, refl, ap, ap₂, sym, subst, ◌∙◌, append_assoc, append-nil}
use Rattle.std.specs.Prelude.{◌&&◌, ◌==◌, ◌≢◌, not, nat_le, Option, Some, None, Result, Ok, Err, IfOk, IfErr, MatchResult, cond, bytes_eq, IsTrue, IfSome}
use Rattle.std.specs.Option.{option_and_then}
use Rattle.std.specs.List.{flat_map, list_all, AllByRecursion}
use Rattle.std.specs.Fmt.{decimal}
use Rattle.std.specs.Ordering.{is_lt}
use Rattle.std.proofs.lemmas.Bool.{and_parts, and_from}
use Rattle.std.proofs.lemmas.List.{length-append, length-map, map-append, get_or_append_left}
use Rattle.std.proofs.lemmas.List.Concat.{flat_map-cons}
use Rattle.std.proofs.lemmas.List.Folds.{list_all-append}
use Rattle.std.proofs.lemmas.Map.Keys.{Less-from_sorted}
use Rattle.std.proofs.lemmas.Option.{slice_get-get_or}
use Rattle.std.proofs.lemmas.Slice.Eq.{bytes_eq-Decides}
use Rattle.std.proofs.Math.ListN.{get_or-map}
use Rattle.std.proofs.Math.Seq.{take-append_seam, get_or-append_seam}
use Rattle.bulk_base.specs.declared.file.FileItem.{FileItem}
use Rattle.bulk_base.specs.declared.file.Switch.{Switch}
use Rattle.bulk_base.specs.Names.{is_flavor, is_option_name, IsNode, IsPackageName}
use Rattle.bulk_base.specs.Text.{is_text, is_text_byte, has_text_bytes}
use Rattle.bulk_base.specs.Path.{is_path, is_below}
use Rattle.bulk_model.specs.declared.depend.DepKind.{DepKind}
use Rattle.bulk_model.specs.declared.depend.Depend.{Depend}
use Rattle.bulk_model.specs.declared.depend.Recorded.{Recorded}
use Rattle.bulk_model.specs.declared.digest.Digest.{Digest}
use Rattle.bulk_model.specs.declared.version.Version.{Version}
use Rattle.bulk_model.specs.declared.version.Version.TheVariants.{One, Two}
use Rattle.bulk_model.specs.Digests.{digest_of, hex, is_digest}
use Rattle.bulk_model.specs.Facts.{IsOptionList, IsDependList, IsRecordedList, IsFileList, paths_of, comes_before, each_before}
use Rattle.bulk_model.specs.Lines.{line, flavor_word, name_lines, switch_word, kind_word, depend_words, option_line, option_lines, file_piece, file_pieces}
use Rattle.bulk_model.specs.Spelling.{version_words, recipe_line, mark_word, recorded_line, recorded_lines, unsigned, signed_with, signed as signed_record}
use Rattle.bulk_model.specs.Views.{PackageView, need_of}
use Rattle.outside.specs.Contents.{IsAscending, has_no_folder}
use Rattle.pkg_record.specs.declared.fault.Fault.{Fault}
use Rattle.pkg_record.specs.declared.fault.Fault.TheVariants.{Misfit}
use Rattle.pkg_record.specs.declared.answer.Record.{Record}
use Rattle.pkg_record.specs.declared.fault.RecordError.{RecordError}
use Rattle.pkg_record.specs.declared.fault.RecordError.TheVariants as records
use Rattle.port_name.specs.Forms.{is_origin, is_node}
use Rattle.port_name.specs.PackageForm.{is_package_name}
use Rattle.pkg_record.specs.Said.{word_behind, version_said, flavor_said, recipe_said, count_behind, option_said, depend_said, file_said}
use Rattle.pkg_record.specs.Reading.{◌>>=◌, said_at, piece_at, last_of, option_follows, next_option, option_at, depend_follows, next_depend, depend_at, path_follows, is_record_path, is_next_path, next_file, file_at, items_at, listed_at, recipe_at, package_told, unsigned_at, signed, signed_at, digest_before, answer, judged, record_of}
use Rattle.pkg_record.specs.Laws.{HasRecord}
use Rattle.pkg_record.proofs.Names.{list_all-weaken, option_name, node_plain, package_name_plain, origin_plain, flavor_name, digest_text}
use Rattle.pkg_record.proofs.NamesAgain.{differs, Lacks, lacks_joined, origin_again, node_again, name_again}
use Rattle.pkg_record.proofs.SaidAgain.{said_again, word_again, version_again, version_line, flavor_again, recipe_again, count_again, plain_line, decimal_plain, option_again, kind_line, Tells, depend_again, file_again, piece_again}
use Rattle.pkg_record.proofs.Lists.{order}
use Rattle.pkg_record.proofs.DigestTexts.{digest_text as digest_form_of}
use Rattle.pkg_record.proofs.Hashes.{digest_form}
use Rattle.pkg_record.proofs.Without.{told_as, IsTold, told_unsigned, told_record, is_told, told_answer}
use Rattle.pkg_record.proofs.Spelled.{file_made, from_files, from_depends, from_options, from_recipe, from_flavor, from_origin, from_name, up_to_version, up_to_flavor, up_to_recipe, up_to_options, up_to_depends}

-- ---- one item among others

follows_by : {X : Type 0} (before : List X) (x : X) (test : Option X → Bool) → test None ≡ true → (0 < length before → test (Some (get_or before (length before - 1) x)) ≡ true) → test (last_of before) ≡ true
follows_by [] x test h k = h
follows_by (b ∷ before) x test h k = ap test (slice_get-get_or (b ∷ before) (length (b ∷ before) - 1) x (omega arith)) ∙ k (omega arith)

last_less : {X : Type 0} (f : X → List ℕ) (before : List X) (x : X) (more : List X) → IsAscending (map f (before ++ x ∷ more)) → 0 < length before → is_lt (order (f (get_or before (length before - 1) x)) (f x)) ≡ true
last_less f before x more s some =
    let i = length before - 1 in
    let less = Less-from_sorted order (map f (before ++ x ∷ more)) i (length before) (f x) s (omega arith) (omega (arith, length-map (before ++ x ∷ more) f, length-append before (x ∷ more))) in
    let e : get_or (map f (before ++ x ∷ more)) i (f x) ≡ f (get_or before i x) = get_or-map f (before ++ x ∷ more) i x ∙ ap f (get_or_append_left before (x ∷ more) x i (omega arith)) in
    let g : get_or (map f (before ++ x ∷ more)) (length before) (f x) ≡ f x = get_or-map f (before ++ x ∷ more) (length before) x ∙ ap f (get_or-append_seam before x more x) in
    ap is_lt (ap₂ order (sym e) (sym g) ∙ less)

test_at : {X Y : Type 0} (p : Y → Bool) (f : X → Y) (before : List X) (x : X) (more : List X) → list_all p (map f (before ++ x ∷ more)) ≡ true → (list_all p (map f before) ≡ true) × (p (f x) ≡ true)
test_at p f before x more h =
    let a = and_parts (list_all p (map f before)) (list_all p (map f (x ∷ more))) (sym (list_all-append p (map f before) (map f (x ∷ more))) ∙ ap (list_all p) (sym (map-append f before (x ∷ more))) ∙ h) in
    (a.0, (and_parts (p (f x)) (list_all p (map f more)) a.1).0)

all_at : {X : Type 0} (P : X → Type 0) (before : List X) (x : X) (more : List X) → AllByRecursion P (before ++ x ∷ more) → P x
all_at P [] x more h = h.0
all_at P (y ∷ before) x more h = all_at P before x more h.1

each_at : (before : List Depend) (x : Depend) (more : List Depend) → each_before (before ++ x ∷ more) ≡ true → 0 < length before → comes_before (get_or before (length before - 1) x) x ≡ true
each_at [] x more h some = absurd (omega arith)
each_at (a ∷ []) x more h some = (and_parts (comes_before a x) (each_before (x ∷ more)) h).0
each_at (a ∷ b ∷ before) x more h some =
    let e : length (a ∷ b ∷ before) - 1 ≡ suc (length (b ∷ before) - 1) = omega arith in
    ap (λ i. comes_before (get_or (a ∷ b ∷ before) i x) x) e ∙ each_at (b ∷ before) x more (and_parts (comes_before a b) (each_before (b ∷ before ++ x ∷ more)) h).1 (omega arith)

switch_line : (on : Bool) → Lacks 10 (switch_word on)
switch_line true = refl
switch_line false = refl

pub option_lacks : (x : Switch) → is_option_name x.name ≡ true → Lacks 10 (codes "option " ++ x.name ++ codes " " ++ switch_word x.on)
option_lacks x name =
    lacks_joined 10 (codes "option " ++ x.name ++ codes " ") (switch_word x.on)
    (lacks_joined 10 (codes "option " ++ x.name) (codes " ") (lacks_joined 10 (codes "option ") x.name refl (plain_line x.name (option_name x.name name).1)) refl)
    (switch_line x.on)

pub depend_lacks : (kind : DepKind) (node name : List ℕ) → is_node node ≡ true → is_package_name name ≡ true → Lacks 10 (depend_words kind node name)
depend_lacks kind node name n m =
    let head = codes "depend " ++ kind_word kind ++ codes " " in
    let lacks_head : Lacks 10 head = lacks_joined 10 (codes "depend " ++ kind_word kind) (codes " ") (lacks_joined 10 (codes "depend ") (kind_word kind) refl (kind_line kind)) refl in
    let lacks_node : Lacks 10 (head ++ node) = lacks_joined 10 head node lacks_head (plain_line node (node_plain node n)) in
    lacks_joined 10 (head ++ node ++ codes " ") name (lacks_joined 10 (head ++ node) (codes " ") lacks_node refl) (plain_line name (package_name_plain name m))

pub file_lacks : (size : ℕ) (path : List ℕ) → size < 2 ^ 64 → Lacks 10 path → Lacks 10 (codes "file " ++ decimal size ++ codes " " ++ path)
file_lacks size path small lacks =
    lacks_joined 10 (codes "file " ++ decimal size ++ codes " ") path
    (lacks_joined 10 (codes "file " ++ decimal size) (codes " ") (lacks_joined 10 (codes "file ") (decimal size) refl (plain_line (decimal size) (decimal_plain size small))) refl)
    lacks

option_item_again : (before : List Switch) (x : Switch) (more : List Switch) (rest : List ℕ) → IsOptionList (before ++ x ∷ more) → option_at before (option_line x ++ rest) ≡ Ok (x, rest)
unfolding option_at
option_item_again before x more rest form =
    let name : is_option_name x.name ≡ true = (test_at is_option_name (λ o. o.name) before x more form.forms).1 in
    let follows : option_follows (last_of before) x ≡ true = follows_by before x (λ l. option_follows l x) refl (last_less (λ o. o.name) before x more form.order) in
    let text = codes "option " ++ x.name ++ codes " " ++ switch_word x.on in
    said_again (λ t. option_and_then (next_option before) (option_said t)) text x rest (option_lacks x name) (ap (option_and_then (next_option before)) (option_again x name) ∙ ap (λ b. cond b (Some x) None) follows)

-- a list of dependencies of which a version tells all that it tells
pub record AreDepends (version : Version) (depends : List Recorded) : Type 0 where
  pub facts : IsRecordedList depends
  pub digests : AllByRecursion (λ d. Tells version d.digest) depends

mark_line : (version : Version) (digest : Digest) → Tells version digest → Lacks 10 (mark_word version digest)
mark_line One digest told = refl
mark_line Two digest told = lacks_joined 10 (codes " ") (hex digest) refl (plain_line (hex digest) (digest_text (hex digest) (digest_form_of digest told)))

depend_item_again : (version : Version) (before : List Recorded) (x : Recorded) (more : List Recorded) (rest : List ℕ) → AreDepends version (before ++ x ∷ more) → depend_at version before (recorded_line version x ++ rest) ≡ Ok (x, rest)
unfolding depend_at
depend_item_again version before x more rest form =
    let needs : IsDependList (map need_of before ++ need_of x ∷ map need_of more) = subst IsDependList (map-append need_of before (x ∷ more)) form.facts in
    let node = node_again x.node (all_at (λ d. IsNode d.node) (map need_of before) (need_of x) (map need_of more) needs.nodes) in
    let name = name_again x.name (all_at (λ d. IsPackageName d.name) (map need_of before) (need_of x) (map need_of more) needs.names) in
    let told : Tells version x.digest = all_at (λ d. Tells version d.digest) before x more form.digests in
    let behind_last : 0 < length before → comes_before (need_of (get_or before (length before - 1) x)) (need_of x) ≡ true = λ some.
    ap (λ y. comes_before y (need_of x)) (sym (get_or-map need_of before (length before - 1) x))
    ∙ ap (λ n. comes_before (get_or (map need_of before) (n - 1) (need_of x)) (need_of x)) (sym (length-map before need_of))
    ∙ each_at (map need_of before) (need_of x) (map need_of more) needs.order (omega (arith, some, length-map before need_of)) in
    let follows : depend_follows (last_of before) x ≡ true = follows_by before x (λ l. depend_follows l x) refl behind_last in
    let mark = mark_word version x.digest in
    let lacks : Lacks 10 (depend_words x.kind x.node x.name ++ mark) = lacks_joined 10 (depend_words x.kind x.node x.name) mark (depend_lacks x.kind x.node x.name node name) (mark_line version x.digest told) in
    said_again (λ t. option_and_then (next_depend before) (depend_said version t)) (depend_words x.kind x.node x.name ++ mark) x rest lacks (ap (option_and_then (next_depend before)) (depend_again version x node name told) ∙ ap (λ b. cond b (Some x) None) follows)

-- ---- files

pub record AreFiles (files : List FileItem) : Type 0 where
  pub facts : IsFileList 1018 files
  pub paths : IsTrue (list_all is_record_path (paths_of files))
  pub sizes : AllByRecursion (λ f. length f.bytes < 2 ^ 64) files

apart_at : (path : List ℕ) (more all : List (List ℕ)) (before folders : List (List ℕ)) → all ≡ before ++ path ∷ more → list_all (λ f. list_all (λ q. not (is_below f q)) all) folders ≡ true → list_all (λ f. not (is_below f path)) folders ≡ true
apart_at path more all before [] e h = refl
apart_at path more all before (f ∷ folders) e h =
    let a = and_parts (list_all (λ q. not (is_below f q)) all) _ h in
    let here : list_all (λ q. not (is_below f q)) (before ++ path ∷ more) ≡ true = ap (list_all (λ q. not (is_below f q))) (sym e) ∙ a.0 in
    let b = and_parts (list_all (λ q. not (is_below f q)) before) (list_all (λ q. not (is_below f q)) (path ∷ more)) (sym (list_all-append (λ q. not (is_below f q)) before (path ∷ more)) ∙ here) in
    and_from _ _ (and_parts (not (is_below f path)) _ b.1).0 (apart_at path more all before folders e a.1)

free_before : (before : List FileItem) (x : FileItem) (more : List FileItem) → has_no_folder (paths_of (before ++ x ∷ more)) ≡ true → list_all (λ f. not (is_below f x.path)) (paths_of before) ≡ true
free_before before x more h =
    let all = paths_of (before ++ x ∷ more) in
    let e : all ≡ paths_of before ++ x.path ∷ paths_of more = map-append (λ f. f.path) before (x ∷ more) in
    let front = (test_at (λ f. list_all (λ q. not (is_below f q)) all) (λ f. f.path) before x more h).0 in
    apart_at x.path (paths_of more) all (paths_of before) (paths_of before) e front

pub text_line_byte : (b : ℕ) → is_text_byte b ≡ true → differs 10 b ≡ true
text_line_byte b h = grind arith

record_path_line : (path : List ℕ) → is_record_path path ≡ true → Lacks 10 path
record_path_line path h =
    let a = and_parts (is_text path && is_path path) (nat_le (length path) 1018) h in
    let b = and_parts (is_text path) (is_path path) a.0 in
    let c = and_parts _ (has_text_bytes path) b.0 in
    list_all-weaken is_text_byte (differs 10) text_line_byte path c.1

file_item_again : (before : List FileItem) (x : FileItem) (more : List FileItem) (rest : List ℕ) → AreFiles (before ++ x ∷ more) → file_at before (file_piece x ++ rest) ≡ Ok (x, rest)
unfolding file_at
file_item_again before x more rest form =
    let path : is_record_path x.path ≡ true = (test_at is_record_path (λ f. f.path) before x more form.paths).1 in
    let size : length x.bytes < 2 ^ 64 = all_at (λ f. length f.bytes < 2 ^ 64) before x more form.sizes in
    let follows : path_follows (last_of before) x.path ≡ true = follows_by before x (λ l. path_follows l x.path) refl (last_less (λ f. f.path) before x more form.facts.order) in
    let next : is_next_path before x.path ≡ true = and_from _ _ (and_from _ _ path follows) (free_before before x more form.facts.apart) in
    let text = codes "file " ++ decimal (length x.bytes) ++ codes " " ++ x.path in
    let lacks : Lacks 10 text = file_lacks (length x.bytes) x.path size (record_path_line x.path path) in
    let head = said_again (λ t. option_and_then (next_file before) (file_said t)) text (length x.bytes, x.path) (line x.bytes ++ rest) lacks
    (ap (option_and_then (next_file before)) (file_again (length x.bytes) x.path size) ∙ ap (λ b. cond b (Some (length x.bytes, x.path)) None) next) in
    ap (file_at before) (append_assoc (line text) (line x.bytes) rest)
    ∙ ap (λ r. r >>= λ h. piece_at h.0.0 h.1 >>= λ piece. Ok (file_made h.0.1 piece.0, piece.1)) head
    ∙ ap (λ r. r >>= λ piece. Ok (file_made x.path piece.0, piece.1)) (piece_again x.bytes rest)

-- ---- lists

abbrev GivesBack : {X : Type 0} → (List X → List ℕ → Result (X × List ℕ) Fault) → (X → List ℕ) → (List X → Type 0) → Type 0
GivesBack {X} item spell Form = (before : List X) (x : X) (more : List X) (rest : List ℕ) → Form (before ++ x ∷ more) → item before (spell x ++ rest) ≡ Ok (x, rest)

items_again : {X : Type 0} (item : List X → List ℕ → Result (X × List ℕ) Fault) (spell : X → List ℕ) (Form : List X → Type 0) → GivesBack item spell Form → (before more : List X) (rest : List ℕ) → Form (before ++ more)
    → items_at item (length more) before (flat_map spell more ++ rest) ≡ Ok (before ++ more, rest)
unfolding items_at
items_again item spell Form again before [] rest form = ap (λ b. Ok (b, rest)) (sym (append-nil before))
items_again item spell Form again before (x ∷ more) rest form =
    let regrouped : flat_map spell (x ∷ more) ++ rest ≡ spell x ++ (flat_map spell more ++ rest) = ap (λ t. t ++ rest) (flat_map-cons spell x more) ∙ append_assoc (spell x) (flat_map spell more) rest in
    let e : (before ++ x ∷ []) ++ more ≡ before ++ x ∷ more = append_assoc before (x ∷ []) more in
    ap (items_at item (suc (length more)) before) regrouped
    ∙ ap (λ r. r >>= λ y. items_at item (length more) (before ++ y.0 ∷ []) y.1) (again before x more (flat_map spell more ++ rest) form)
    ∙ items_again item spell Form again (before ++ x ∷ []) more rest (subst Form (sym e) form)
    ∙ ap (λ b. Ok (b, rest)) e

listed_again : {X : Type 0} (heading : List ℕ) (item : List X → List ℕ → Result (X × List ℕ) Fault) (spell : X → List ℕ) (Form : List X → Type 0) → GivesBack item spell Form → Lacks 10 heading → (all : List X) (rest : List ℕ) → Form all → length all < 2 ^ 64
    → listed_at heading item (line (heading ++ decimal (length all)) ++ flat_map spell all ++ rest) ≡ Ok (all, rest)
unfolding listed_at
listed_again heading item spell Form again h all rest form few =
    let lacks : Lacks 10 (heading ++ decimal (length all)) = lacks_joined 10 heading (decimal (length all)) h (plain_line (decimal (length all)) (decimal_plain (length all) few)) in
    ap (listed_at heading item) (append_assoc (line (heading ++ decimal (length all))) (flat_map spell all) rest)
    ∙ ap (λ r. r >>= λ count. items_at item count.0 [] count.1) (said_again (count_behind heading) (heading ++ decimal (length all)) (length all) (flat_map spell all ++ rest) lacks (count_again heading (length all) few))
    ∙ items_again item spell Form again [] all rest form

-- ---- the lines before the digest

word_line_again : (heading : List ℕ) (test : List ℕ → Bool) (word rest : List ℕ) → Lacks 10 heading → Lacks 10 word → test word ≡ true → said_at (word_behind heading test) (line (heading ++ word) ++ rest) ≡ Ok (word, rest)
word_line_again heading test word rest h w t = said_again (word_behind heading test) (heading ++ word) word rest (lacks_joined 10 heading word h w) (word_again heading test word t)

pub flavor_line : (flavor : Option (List ℕ)) → IfSome flavor (λ f. IsTrue (is_flavor f)) → Lacks 10 (flavor_word flavor)
flavor_line None h = refl
flavor_line (Some f) h = plain_line f (flavor_name f h).1

recipe_line_again : (version : Version) (recipe : Digest) (rest : List ℕ) → Tells version recipe → recipe_at version (recipe_line version recipe ++ rest) ≡ Ok (recipe, rest)
unfolding recipe_at
recipe_line_again One recipe rest told = ap (λ d. Ok (d, rest)) (sym told)
recipe_line_again Two recipe rest told =
    said_again recipe_said (codes "recipe " ++ hex recipe) recipe rest
    (lacks_joined 10 (codes "recipe ") (hex recipe) refl (plain_line (hex recipe) (digest_text (hex recipe) (digest_form_of recipe told)))) (recipe_again recipe told)

module _ (version : Version) (p : PackageView) (rest : List ℕ) where
  abbrev after_depends : List ℕ
  after_depends = file_pieces (codes "files ") p.files ++ rest

  abbrev after_options : List ℕ
  after_options = recorded_lines version p.depends ++ after_depends

  abbrev after_recipe : List ℕ
  after_recipe = option_lines p.options ++ after_options

  abbrev after_flavor : List ℕ
  after_flavor = recipe_line version p.recipe ++ after_recipe

  abbrev after_origin : List ℕ
  after_origin = line (codes "flavor " ++ flavor_word p.flavor) ++ after_flavor

  abbrev after_name : List ℕ
  after_name = line (codes "origin " ++ p.origin) ++ after_origin

  abbrev after_version : List ℕ
  after_version = line (codes "name " ++ p.name) ++ after_name

  regrouped : unsigned version p ++ rest ≡ line (version_words version) ++ after_version
  regrouped =
      append_assoc (up_to_depends version p.name p.origin p.flavor p.recipe p.options p.depends) (file_pieces (codes "files ") p.files) rest
      ∙ append_assoc (up_to_options version p.name p.origin p.flavor p.recipe p.options) (recorded_lines version p.depends) after_depends
      ∙ append_assoc (up_to_recipe version p.name p.origin p.flavor p.recipe) (option_lines p.options) after_options
      ∙ append_assoc (up_to_flavor version p.name p.origin p.flavor) (recipe_line version p.recipe) after_recipe
      ∙ append_assoc (up_to_version version) (name_lines p.name p.origin p.flavor) after_flavor
      ∙ ap (λ r. up_to_version version ++ r)
      (append_assoc (line (codes "name " ++ p.name) ++ line (codes "origin " ++ p.origin)) (line (codes "flavor " ++ flavor_word p.flavor)) after_flavor
      ∙ append_assoc (line (codes "name " ++ p.name)) (line (codes "origin " ++ p.origin)) after_origin)

  module _ (h : HasRecord version p) (told : IsTold version p) where
    files_again : from_files version p.name p.origin p.flavor p.recipe p.options p.depends after_depends ≡ Ok ((version, p), rest)
    files_again =
        let form : AreFiles p.files = record { facts = h.facts.files; paths = h.paths; sizes = h.sizes } in
        ap (λ r. r >>= λ files. Ok ((version, package_told p.name p.origin p.flavor p.recipe p.options p.depends files.0), files.1)) (listed_again (codes "files ") file_at file_piece AreFiles file_item_again refl p.files rest form h.files)

    depends_again : from_depends version p.name p.origin p.flavor p.recipe p.options after_options ≡ Ok ((version, p), rest)
    depends_again =
        let form : AreDepends version p.depends = record { facts = h.facts.depends; digests = told.1 } in
        ap (λ r. r >>= λ depends. from_files version p.name p.origin p.flavor p.recipe p.options depends.0 depends.1)
        (listed_again (codes "depends ") (depend_at version) (recorded_line version) (AreDepends version) (depend_item_again version) refl p.depends after_depends form h.depends)
        ∙ files_again

    options_again : from_options version p.name p.origin p.flavor p.recipe after_recipe ≡ Ok ((version, p), rest)
    options_again =
        ap (λ r. r >>= λ options. from_depends version p.name p.origin p.flavor p.recipe options.0 options.1) (listed_again (codes "options ") option_at option_line IsOptionList option_item_again refl p.options after_options h.facts.options h.options)
        ∙ depends_again

    from_recipe_again : from_recipe version p.name p.origin p.flavor after_flavor ≡ Ok ((version, p), rest)
    from_recipe_again =
        ap (λ r. r >>= λ recipe. from_options version p.name p.origin p.flavor recipe.0 recipe.1) (recipe_line_again version p.recipe after_recipe told.0) ∙ options_again

    from_flavor_again : from_flavor version p.name p.origin after_origin ≡ Ok ((version, p), rest)
    from_flavor_again =
        ap (λ r. r >>= λ flavor. from_recipe version p.name p.origin flavor.0 flavor.1)
        (said_again flavor_said (codes "flavor " ++ flavor_word p.flavor) p.flavor after_flavor (lacks_joined 10 (codes "flavor ") (flavor_word p.flavor) refl (flavor_line p.flavor h.facts.flavor)) (flavor_again p.flavor h.facts.flavor))
        ∙ from_recipe_again

    from_origin_again : from_origin version p.name after_name ≡ Ok ((version, p), rest)
    from_origin_again =
        let form = origin_again p.origin h.facts.origin in
        ap (λ r. r >>= λ origin. from_flavor version p.name origin.0 origin.1) (word_line_again (codes "origin ") is_origin p.origin after_origin refl (plain_line p.origin (origin_plain p.origin form)) form)
        ∙ from_flavor_again

    from_name_again : from_name version after_version ≡ Ok ((version, p), rest)
    from_name_again =
        let form = name_again p.name h.facts.name in
        ap (λ r. r >>= λ name. from_origin version name.0 name.1) (word_line_again (codes "name ") is_package_name p.name after_name refl (plain_line p.name (package_name_plain p.name form)) form)
        ∙ from_origin_again

    told_again : unsigned_at (unsigned version p ++ rest) ≡ Ok ((version, p), rest)
    unfolding unsigned_at
    told_again =
        ap unsigned_at regrouped
        ∙ ap (λ r. r >>= λ version. from_name version.0 version.1) (said_again version_said (version_words version) version after_version (version_line version) (version_again version))
        ∙ from_name_again

pub unsigned_again : (version : Version) (p : PackageView) (rest : List ℕ) → HasRecord version p → unsigned_at (unsigned version p ++ rest) ≡ Ok ((version, told_as version p), rest)
unsigned_again version p rest h =
    ap (λ u. unsigned_at (u ++ rest)) (sym (told_unsigned version p)) ∙ told_again version (told_as version p) rest (told_record version p h) (is_told version p h)

-- ---- the whole

pub last_line_again : (stated : List ℕ) → is_digest stated ≡ true → said_at (word_behind (codes "sha256 ") is_digest) (line (codes "sha256 " ++ stated)) ≡ Ok (stated, [])
last_line_again stated d =
    let last = line (codes "sha256 " ++ stated) in
    ap (said_at (word_behind (codes "sha256 ") is_digest)) (sym (append-nil last)) ∙ word_line_again (codes "sha256 ") is_digest stated [] refl (plain_line stated (digest_text stated d)) d

pub signed_again : (version : Version) (p : PackageView) (stated : List ℕ) → HasRecord version p → is_digest stated ≡ true
    → signed_at (signed_with version stated p) ≡ Ok (signed (version, told_as version p) stated (length (unsigned version p)))
unfolding signed_at
signed_again version p stated h d =
    let last = line (codes "sha256 " ++ stated) in
    let lines = unsigned version p in
    let whole = lines ++ last in
    let ended : said_at (word_behind (codes "sha256 ") is_digest) last ≡ Ok (stated, []) = last_line_again stated d in
    ap (λ r. r >>= λ x. said_at (word_behind (codes "sha256 ") is_digest) x.1 >>= λ digest. cond (length digest.1 == 0) (Ok (signed x.0 digest.0 (length whole - length x.1))) (Err (Misfit (length digest.1)))) (unsigned_again version p last h)
    ∙ ap (λ r. r >>= λ digest. cond (length digest.1 == 0) (Ok (signed (version, told_as version p) digest.0 (length whole - length last))) (Err (Misfit (length digest.1)))) ended
    ∙ ap (λ n. Ok (signed (version, told_as version p) stated n)) (omega (arith, length-append lines last))

pub record_again : (version : Version) (p : PackageView) → HasRecord version p → record_of (signed_record version p) ≡ Ok (answer version p)
unfolding judged
record_again version p h =
    let lines = unsigned version p in
    let stated = hex (digest_of lines) in
    let last = line (codes "sha256 " ++ stated) in
    let whole = signed_record version p in
    let found : digest_before (length lines) whole ≡ stated = ap (λ b. hex (digest_of b)) (take-append_seam lines last) in
    ap (judged whole) (signed_again version p stated h (digest_form lines))
    ∙ ap (λ d. cond (bytes_eq stated d) (Ok (answer version (told_as version p))) (Err (records.BadDigest stated d))) found
    ∙ ap (λ b. cond b (Ok (answer version (told_as version p))) (Err (records.BadDigest stated stated))) ((bytes_eq-Decides stated stated).1 refl)
    ∙ ap (λ x. Ok x) (told_answer version p)

abbrev read_ok : Record → Result Record RecordError
read_ok x = Ok x

ok_same : (x y : Record) → read_ok x ≡ read_ok y → x ≡ y
ok_same x y e = cc

only_memory : (x : Record) (e : RecordError) → (e ≢ records.NoMemory → read_ok x ≡ Err e) → e ≡ records.NoMemory
only_memory x records.Short h = let no = h (λ q. absurd cc) in cc
only_memory x (records.BadField place) h = let no = h (λ q. absurd cc) in cc
only_memory x (records.BadDigest stated found) h = let no = h (λ q. absurd cc) in cc
only_memory x records.NoMemory h = refl

pub is_read : (bytes : List ℕ) (r : Result Record RecordError) → IfOk r (λ x. record_of bytes ≡ Ok x) → IfErr r (λ e. e ≢ records.NoMemory → record_of bytes ≡ Err e)
    → (version : Version) (p : PackageView) → HasRecord version p → bytes ≡ signed_record version p → MatchResult r (λ x. x ≡ answer version p) (λ e. e ≡ records.NoMemory)
is_read bytes (Ok x) ok err version p h e = ok_same x (answer version p) (sym ok ∙ ap record_of e ∙ record_again version p h)
is_read bytes (Err x) ok err version p h e = only_memory (answer version p) x (λ n. sym (ap record_of e ∙ record_again version p h) ∙ err n)
