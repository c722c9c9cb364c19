-- A record read from left to right, with the first line or piece that does not fit (docs/FORMATS.md).
use Rattle.std.specs.Prelude.{◌≡◌, ℕ, zero, suc, Bool, true, not, ◌+◌, ◌-◌, ◌&&◌, ◌==◌, nat_lt, nat_le, List, [], ◌∷◌, ◌++◌, length, take, drop, codes, slice_index, slice_get, bytes_eq, Option, Some, None, Result, Ok, Err, if◌then◌else◌}
use Rattle.std.specs.Option.{option_and_then}
use Rattle.std.specs.List.{list_all, position_or_len}
use Rattle.std.specs.Ordering.{nat_cmp, is_lt}
use Rattle.std.specs.Cmp.Lexicographic.{slice_cmp}
use Rattle.bulk_base.specs.Text.{is_text}
use Rattle.bulk_base.specs.Path.{is_path, is_below}
use Rattle.bulk_base.specs.declared.file.FileItem.{FileItem}
use Rattle.bulk_base.specs.declared.file.Switch.{Switch}
use Rattle.bulk_model.specs.declared.depend.Recorded.{Recorded}
use Rattle.bulk_model.specs.declared.digest.Digest.{Digest}
use Rattle.bulk_model.specs.declared.version.Version.{Version}
use Rattle.bulk_model.specs.declared.version.Version.TheVariants.{One, Two}
use Rattle.bulk_model.specs.Digests.{digest_of, no_digest, hex, is_digest}
use Rattle.bulk_model.specs.Facts.{paths_of, comes_before}
use Rattle.bulk_model.specs.Views.{PackageView, need_of}
use Rattle.pkg_record.specs.declared.answer.Record.{Record}
use Rattle.pkg_record.specs.declared.answer.Record.TheVariants as answers
use Rattle.pkg_record.specs.declared.fault.Fault.{Fault}
use Rattle.pkg_record.specs.declared.fault.Fault.TheVariants.{Short, Misfit}
use Rattle.pkg_record.specs.declared.fault.ReadError.{ReadError}
use Rattle.pkg_record.specs.declared.fault.ReadError.TheVariants as errors
use Rattle.pkg_record.specs.declared.fault.RecordError.{RecordError}
use Rattle.pkg_record.specs.declared.fault.RecordError.TheVariants as records
use Rattle.bulk_base.specs.Marks.{is_mark, front, back}
use Rattle.port_name.specs.Forms.{is_origin}
use Rattle.port_name.specs.PackageForm.{is_package_name}
use Rattle.pkg_record.specs.Said.{word_behind, version_said, flavor_said, recipe_said, count_behind, option_said, depend_said, file_said}

infixl 10 ◌>>=◌
abbrev pub ◌>>=◌ : {A B : Type 0} → Result A Fault → (A → Result B Fault) → Result B Fault
(Ok x) >>= f = f x
(Err e) >>= f = Err e

-- what a reader returned, seen by view, is what reading gives, unless memory ran out
abbrev pub Fails : {Y : Type 0} → ReadError → Result Y Fault → Type 0
Fails errors.Memory read = Unit {0}
Fails (errors.Found fault) read = read ≡ Err fault

abbrev pub Gives : {X Y : Type 0} → (X → Y) → Result X ReadError → Result Y Fault → Type 0
Gives view (Ok x) read = read ≡ Ok (view x)
Gives view (Err e) read = Fails e read

-- the text of the first line and what follows the line
abbrev pub line_at : List ℕ → Result (List ℕ × List ℕ) Fault
line_at bytes =
    if nat_lt (position_or_len (is_mark 10) bytes) (length bytes)
    then Ok (front 10 bytes, back 10 bytes) else Err Short

abbrev pub fitting : {X : Type 0} → ℕ → List ℕ → Option X → Result (X × List ℕ) Fault
fitting left rest (Some x) = Ok (x, rest)
fitting left rest None = Err (Misfit left)

-- what the first line says and what follows the line; a line that says nothing does not fit
unfoldable pub said_at : {X : Type 0} → (List ℕ → Option X) → List ℕ → Result (X × List ℕ) Fault
said_at says bytes = line_at bytes >>= λ l. fitting (length bytes) l.1 (says l.0)

-- the bytes of a file and the line feed behind them
abbrev pub piece_at : ℕ → List ℕ → Result (List ℕ × List ℕ) Fault
piece_at size bytes =
    if nat_lt size (length bytes)
    then (if slice_index bytes size == 10 then Ok (take size bytes, drop (size + 1) bytes)
    else Err (Misfit (length bytes)))
    else Err Short

abbrev pub last_of : {X : Type 0} → List X → Option X
last_of xs = slice_get xs (length xs - 1)

-- by name, behind the one before it
abbrev pub option_follows : Option Switch → Switch → Bool
option_follows None option = true
option_follows (Some last) option = is_lt (slice_cmp nat_cmp last.name option.name)

abbrev pub next_option : List Switch → Switch → Option Switch
next_option before option = if option_follows (last_of before) option then Some option else None

unfoldable pub option_at : List Switch → List ℕ → Result (Switch × List ℕ) Fault
option_at before bytes =
    said_at (λ text. option_and_then (next_option before) (option_said text)) bytes

-- by kind, then node, behind the one before it
abbrev pub depend_follows : Option Recorded → Recorded → Bool
depend_follows None depend = true
depend_follows (Some last) depend = comes_before (need_of last) (need_of depend)

abbrev pub next_depend : List Recorded → Recorded → Option Recorded
next_depend before depend = if depend_follows (last_of before) depend then Some depend else None

unfoldable pub depend_at : Version → List Recorded → List ℕ → Result (Recorded × List ℕ) Fault
depend_at version before bytes =
    said_at (λ text. option_and_then (next_depend before) (depend_said version text)) bytes

-- by path, behind the one before it, and no path before it is one of its folders
abbrev pub path_follows : Option FileItem → List ℕ → Bool
path_follows None path = true
path_follows (Some last) path = is_lt (slice_cmp nat_cmp last.path path)

abbrev pub is_record_path : List ℕ → Bool
is_record_path path = is_text path && is_path path && nat_le (length path) 1018

abbrev pub is_next_path : List FileItem → List ℕ → Bool
is_next_path before path =
    is_record_path path && path_follows (last_of before) path
    && list_all (λ folder. not (is_below folder path)) (paths_of before)

abbrev pub next_file : List FileItem → ℕ × List ℕ → Option (ℕ × List ℕ)
next_file before file = if is_next_path before file.1 then Some file else None

unfoldable pub file_at : List FileItem → List ℕ → Result (FileItem × List ℕ) Fault
file_at before bytes = do
  head ← said_at (λ text. option_and_then (next_file before) (file_said text)) bytes
  piece ← piece_at head.0.0 head.1
  Ok (record { path = head.0.1; bytes = piece.0 }, piece.1)

-- so many items, each read behind those before it
unfoldable pub items_at : {X : Type 0} → (List X → List ℕ → Result (X × List ℕ) Fault) → ℕ → List X
    → List ℕ → Result (List X × List ℕ) Fault
items_at item zero before bytes = Ok (before, bytes)
items_at item (suc n) before bytes = do
  x ← item before bytes
  items_at item n (before ++ x.0 ∷ []) x.1

-- a line with a count, and so many items
unfoldable pub listed_at : {X : Type 0} → List ℕ → (List X → List ℕ → Result (X × List ℕ) Fault)
    → List ℕ → Result (List X × List ℕ) Fault
listed_at heading item bytes = do
  count ← said_at (count_behind heading) bytes
  items_at item count.0 [] count.1

-- the options, dependencies and files, and what follows them
abbrev pub lists_at : Version → List ℕ
    → Result (List Switch × List Recorded × List FileItem × List ℕ) Fault
lists_at version bytes = do
  options ← listed_at (codes "options ") option_at bytes
  depends ← listed_at (codes "depends ") (depend_at version) options.1
  files ← listed_at (codes "files ") file_at depends.1
  Ok (options.0, depends.0, files.0, files.1)

-- version 1 has no line with the digest of the recipe
unfoldable pub recipe_at : Version → List ℕ → Result (Digest × List ℕ) Fault
recipe_at One bytes = Ok (no_digest, bytes)
recipe_at Two bytes = said_at recipe_said bytes

abbrev pub package_told : List ℕ → List ℕ → Option (List ℕ) → Digest → List Switch → List Recorded
    → List FileItem → PackageView
package_told name origin flavor recipe options depends files = record {
  name = name;
  origin = origin;
  flavor = flavor;
  recipe = recipe;
  options = options;
  depends = depends;
  files = files;
}

-- the version that the first line tells, and the package that the lines before the digest spell
unfoldable pub unsigned_at : List ℕ → Result ((Version × PackageView) × List ℕ) Fault
unsigned_at bytes = do
  version ← said_at version_said bytes
  name ← said_at (word_behind (codes "name ") is_package_name) version.1
  origin ← said_at (word_behind (codes "origin ") is_origin) name.1
  flavor ← said_at flavor_said origin.1
  recipe ← recipe_at version.0 flavor.1
  options ← listed_at (codes "options ") option_at recipe.1
  depends ← listed_at (codes "depends ") (depend_at version.0) options.1
  files ← listed_at (codes "files ") file_at depends.1
  Ok ((version.0, package_told name.0 origin.0 flavor.0 recipe.0 options.0 depends.0 files.0), files.1)

-- what a record says: its version, a package, the digest that it states, and how many bytes stand before that line
pub record Signed : Type 0 where
  pub version : Version
  pub read : PackageView
  pub stated : List ℕ
  pub size : ℕ

abbrev pub signed : Version × PackageView → List ℕ → ℕ → Signed
signed told stated size = record { version = told.0; read = told.1; stated = stated; size = size }

-- all of the bytes: nothing may stand behind the digest's line
unfoldable pub signed_at : List ℕ → Result Signed Fault
signed_at bytes = do
  read ← unsigned_at bytes
  digest ← said_at (word_behind (codes "sha256 ") is_digest) read.1
  if length digest.1 == 0 then Ok (signed read.0 digest.0 (length bytes - length read.1))
      else Err (Misfit (length digest.1))

-- the digest that the line states which ends the bytes
abbrev pub last_at : List ℕ → Result (List ℕ) Fault
last_at bytes = do
  digest ← said_at (word_behind (codes "sha256 ") is_digest) bytes
  if length digest.1 == 0 then Ok digest.0 else Err (Misfit (length digest.1))

-- the text of the digest of the first bytes
abbrev pub digest_before : ℕ → List ℕ → List ℕ
digest_before size bytes = hex (digest_of (take size bytes))

-- the error for a fault in so many bytes
abbrev pub error_of : ℕ → Fault → RecordError
error_of size Short = records.Short
error_of size (Misfit left) = records.BadField (size - left)

-- what is answered of a package's record: of one of version 1, the package's name alone
abbrev pub answer : Version → PackageView → Record
answer One p = answers.Old p.name
answer Two p = answers.New p

-- what a record gives
unfoldable pub judged : List ℕ → Result Signed Fault → Result Record RecordError
judged bytes (Err fault) = Err (error_of (length bytes) fault)
judged bytes (Ok s) =
    if bytes_eq s.stated (digest_before s.size bytes) then Ok (answer s.version s.read)
    else Err (records.BadDigest s.stated (digest_before s.size bytes))

-- the error where a reader of so many bytes gave nothing
abbrev pub refusal : ℕ → ReadError → RecordError
refusal size errors.Memory = records.NoMemory
refusal size (errors.Found fault) = error_of size fault

abbrev pub record_of : List ℕ → Result Record RecordError
record_of bytes = judged bytes (signed_at bytes)
