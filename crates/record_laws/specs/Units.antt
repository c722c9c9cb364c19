-- A record as its lines and pieces, one behind the other, and where they stop (docs/FORMATS.md). A piece is the bytes of a
-- file and the line feed behind them.
use Rattle.std.specs.Prelude.{◌≡◌, ◌≢◌, ◌↔◌, ◌+◌, ◌<◌, ◌==◌, ℕ, zero, suc, not, List, [], ◌∷◌, ◌++◌, length, codes, IsTrue, Contains, Option, Some, None, Err}
use Rattle.std.specs.Option.{option_map, option_and_then}
use Rattle.std.specs.List.{list_all}
use Rattle.bulk_base.specs.declared.file.FileItem.{FileItem}
use Rattle.bulk_base.specs.declared.file.Switch.{Switch}
use Rattle.bulk_model.specs.declared.depend.Recorded.{Recorded}
use Rattle.bulk_model.specs.declared.version.Version.{Version}
use Rattle.bulk_model.specs.declared.version.Version.TheVariants.{One, Two}
use Rattle.bulk_model.specs.Digests.{is_digest}
use Rattle.bulk_model.specs.Lines.{line}
use Rattle.port_name.specs.Forms.{is_origin}
use Rattle.port_name.specs.PackageForm.{is_package_name}
use Rattle.pkg_record.specs.declared.fault.RecordError.TheVariants.{Short, BadField}
use Rattle.pkg_record.specs.Said.{word_behind, version_said, flavor_said, recipe_said, count_behind, option_said, depend_said, file_said}
use Rattle.pkg_record.specs.Reading.{next_option, next_depend, next_file, record_of}

-- what is expected next. Of an item's line: how many items follow it, and those before it. Of a file's bytes also their path
-- and length
pub data State : Type 0 where
  version_line : State
  name_line : Version → State
  origin_line : Version → State
  flavor_line : Version → State
  recipe_line : State
  options_line : Version → State
  option_line : Version → ℕ → List Switch → State
  depends_line : Version → State
  depend_line : Version → ℕ → List Recorded → State
  files_line : State
  file_line : ℕ → List FileItem → State
  file_bytes : ℕ → List FileItem → List ℕ → ℕ → State
  digest_line : State
  the_end : State

-- version 1 has no line with the digest of the recipe
abbrev pub behind_flavor : Version → State
behind_flavor One = options_line One
behind_flavor Two = recipe_line

-- behind a count or an item, where so many items are left
abbrev pub options_left : Version → ℕ → List Switch → State
options_left version zero before = depends_line version
options_left version (suc n) before = option_line version n before

abbrev pub depends_left : Version → ℕ → List Recorded → State
depends_left version zero before = files_line
depends_left version (suc n) before = depend_line version n before

abbrev pub files_left : ℕ → List FileItem → State
files_left zero before = digest_line
files_left (suc n) before = file_line n before

abbrev pub file : List ℕ → List ℕ → FileItem
file path bytes = record { path = path; bytes = bytes }

-- what is expected behind a line of this text, or a piece of these bytes, if it fits
abbrev pub leads : State → List ℕ → Option State
leads version_line text = option_map (λ version. name_line version) (version_said text)
leads (name_line version) text =
    option_map (λ name. origin_line version) (word_behind (codes "name ") is_package_name text)
leads (origin_line version) text =
    option_map (λ origin. flavor_line version) (word_behind (codes "origin ") is_origin text)
leads (flavor_line version) text =
    option_map (λ flavor. behind_flavor version) (flavor_said text)
leads recipe_line text = option_map (λ recipe. options_line Two) (recipe_said text)
leads (options_line version) text =
    option_map (λ n. options_left version n []) (count_behind (codes "options ") text)
leads (option_line version n before) text =
    option_map (λ option. options_left version n (before ++ option ∷ []))
    (option_and_then (next_option before) (option_said text))
leads (depends_line version) text =
    option_map (λ n. depends_left version n []) (count_behind (codes "depends ") text)
leads (depend_line version n before) text =
    option_map (λ depend. depends_left version n (before ++ depend ∷ []))
    (option_and_then (next_depend before) (depend_said version text))
leads files_line text = option_map (λ n. files_left n []) (count_behind (codes "files ") text)
leads (file_line n before) text =
    option_map (λ head. file_bytes n before head.1 head.0)
    (option_and_then (next_file before) (file_said text))
leads (file_bytes n before path size) bytes =
    Some (files_left n (before ++ file path bytes ∷ []))
leads digest_line text =
    option_map (λ digest. the_end) (word_behind (codes "sha256 ") is_digest text)
leads the_end text = None

-- a line, a piece with so many bytes of a file, or nothing
pub data Shape : Type 0 where
  a_line : Shape
  a_piece : ℕ → Shape
  nothing : Shape

abbrev pub shape : State → Shape
shape (file_bytes n before path size) = a_piece size
shape the_end = nothing
shape state = a_line

-- the text before the line feed at its end: a line's has no other, and a piece's has the length of the file
abbrev pub HasShape : Shape → List ℕ → Type 0
HasShape a_line text = IsTrue (list_all (λ b. not (b == 10)) text)
HasShape (a_piece size) text = length text ≡ size
HasShape nothing text = ⊥

-- the line or piece that begins the bytes ends in them; where nothing is expected, some bytes are there
abbrev pub EndsIn : Shape → List ℕ → Type 0
EndsIn a_line bytes = Contains bytes 10
EndsIn (a_piece size) bytes = size < length bytes
EndsIn nothing bytes = bytes ≢ []

-- the line or piece that begins the bytes fits what stands before it, and leads to what is expected next, at the rest
abbrev pub Fits : State → List ℕ → State → List ℕ → Type 0
Fits state bytes next rest =
    (text : List ℕ) × HasShape (shape state) text × (bytes ≡ line text ++ rest)
    × (leads state text ≡ Some next)

-- so many lines and pieces, each of which fits, lead from one state and bytes to others
abbrev pub Reaches : ℕ → State → List ℕ → State → List ℕ → Type 0
Reaches zero state bytes last rest = (state ≡ last) × (bytes ≡ rest)
Reaches (suc n) state bytes last rest =
    (next : State) × (after : List ℕ) × Fits state bytes next after
    × Reaches n next after last rest

-- the bytes before the rest are lines and pieces that fit, from the first line on, and this is expected next
abbrev pub IsReached : List ℕ → State → List ℕ → Type 0
IsReached bytes state rest = (n : ℕ) × Reaches n version_line bytes state rest

-- the lines and pieces that end in the bytes fit, and the line with the digest is not among them
pub record IsUnfinished (bytes : List ℕ) : Type 0 where
  pub state : State
  pub rest : List ℕ
  pub reached : IsReached bytes state rest
  pub expects : state ≢ the_end
  pub unended : EndsIn (shape state) rest → ⊥

-- at this place begins the first line or piece that ends in the bytes and does not fit, or stand bytes behind the line with
-- the digest
pub record IsUnfitAt (bytes : List ℕ) (place : ℕ) : Type 0 where
  pub state : State
  pub rest : List ℕ
  pub reached : IsReached bytes state rest
  pub before : place + length rest ≡ length bytes
  pub ends : EndsIn (shape state) rest
  pub unfit : (next : State) (after : List ℕ) → Fits state rest next after → ⊥

-- Short is just what ends too soon, with all that ends in it in order; an unfinished rest is not looked at
abbrev pub ShortIsUnfinished : Type 0
ShortIsUnfinished = (bytes : List ℕ) → (record_of bytes ≡ Err Short) ↔ IsUnfinished bytes

-- BadField is just what has a line or piece that does not fit, and tells where the first begins
abbrev pub BadFieldIsUnfit : Type 0
BadFieldIsUnfit =
    (bytes : List ℕ) (place : ℕ)
    → (record_of bytes ≡ Err (BadField place)) ↔ IsUnfitAt bytes place
