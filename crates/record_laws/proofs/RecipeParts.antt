-- The parts of a recipe's text, each of which tells where it ends.
use Rattle.std.proofs.Common.{◌≡◌, ℕ, ◌<◌, ◌^◌, true, List, [], ◌∷◌, ◌++◌, length, map, codes, refl, ap, ap₂, sym, ◌∙◌, append_assoc, append-nil}
use Rattle.std.specs.Prelude.{Some, IsTrue}
use Rattle.std.specs.Option.{option_map}
use Rattle.std.specs.List.{flat_map, list_all, AllByRecursion}
use Rattle.std.specs.Fmt.{decimal}
use Rattle.std.proofs.lemmas.Bool.{and_parts}
use Rattle.std.proofs.lemmas.List.{append_cancel_left}
use Rattle.bulk_base.specs.declared.file.FileItem.{FileItem}
use Rattle.bulk_base.specs.declared.file.Switch.{Switch}
use Rattle.bulk_base.specs.Names.{is_option_name, IsNode, IsPackageName}
use Rattle.bulk_base.specs.Text.{has_text_bytes, is_text_byte}
use Rattle.bulk_model.specs.declared.depend.Depend.{Depend}
use Rattle.bulk_model.specs.declared.steps.Steps.{Steps}
use Rattle.bulk_model.specs.declared.version.Version.TheVariants.{One}
use Rattle.bulk_model.specs.Digests.{no_digest}
use Rattle.bulk_model.specs.Facts.{IsOptionList, IsDependList}
use Rattle.bulk_model.specs.Lines.{line, switch_word, depend_words, option_line, option_lines, file_piece, file_pieces}
use Rattle.bulk_model.specs.Recipe.{depend_line, depend_lines, steps_line, command_lines}
use Rattle.bulk_model.specs.Views.{need_of}
use Rattle.pkg_record.specs.Said.{recorded, option_said, depend_said, file_said}
use Rattle.pkg_record.specs.Reading.{piece_at}
use Rattle.pkg_record.proofs.Names.{list_all-weaken}
use Rattle.pkg_record.proofs.NamesAgain.{differs, Lacks, node_again, name_again}
use Rattle.pkg_record.proofs.SaidAgain.{option_again, depend_again, file_again, piece_again}
use Rattle.pkg_record.proofs.SpelledAgain.{option_lacks, depend_lacks, file_lacks, text_line_byte}
use Rattle.pkg_record.proofs.Taken.{ok_is}
use Rattle.record_laws.specs.Recipes.{AreFiles, IsCommand, AreCommands}
use Rattle.record_laws.proofs.Delimiting.{Delimits, lines_delimit, said_delimit, many_delimit, counted_delimit, number_spaced, number_ended}

pub text_lacks : (text : List ℕ) → has_text_bytes text ≡ true → Lacks 10 text
text_lacks text h = list_all-weaken is_text_byte (differs 10) text_line_byte text h

all_texts : (texts : List (List ℕ)) → AllByRecursion (λ t. IsTrue (has_text_bytes t)) texts → AllByRecursion (Lacks 10) texts
all_texts [] h = tt
all_texts (t ∷ more) h = (text_lacks t h.0, all_texts more h.1)

-- ---- options

option_names : (options : List Switch) → list_all is_option_name (map (λ o. o.name) options) ≡ true → AllByRecursion (λ o. is_option_name o.name ≡ true) options
option_names [] h = tt
option_names (o ∷ more) h = let parts = and_parts (is_option_name o.name) _ h in (parts.0, option_names more parts.1)

pub options_delimit : (xs ys : List Switch) (r s : List ℕ) → length xs < 2 ^ 64 → length ys < 2 ^ 64 → IsOptionList xs → IsOptionList ys → option_lines xs ++ r ≡ option_lines ys ++ s → (xs ≡ ys) × (r ≡ s)
options_delimit xs ys r s n m f g e =
    let one : Delimits option_line (λ o. is_option_name o.name ≡ true) =
    said_delimit (λ o. codes "option " ++ o.name ++ codes " " ++ switch_word o.on) option_said (λ o. is_option_name o.name ≡ true) option_again option_lacks in
    counted_delimit (codes "options ") option_line (λ o. is_option_name o.name ≡ true) refl one xs ys r s (n, option_names xs f.forms) (m, option_names ys g.forms) e

-- ---- dependencies

abbrev IsNamed : Depend → Type 0
IsNamed d = IsNode d.node × IsPackageName d.name

both_forms : (depends : List Depend) → AllByRecursion (λ d. IsNode d.node) depends → AllByRecursion (λ d. IsPackageName d.name) depends → AllByRecursion IsNamed depends
both_forms [] f g = tt
both_forms (d ∷ more) f g = ((f.0, g.0), both_forms more f.1 g.1)

abbrev depend_text : Depend → List ℕ
depend_text d = depend_words d.kind d.node d.name

needs_again : (d : Depend) → IsNamed d → option_map need_of (depend_said One (depend_text d)) ≡ Some d
needs_again d f =
    ap (λ t. option_map need_of (depend_said One t)) (sym (append-nil (depend_text d)))
    ∙ ap (option_map need_of) (depend_again One (recorded d.kind d.node d.name no_digest) (node_again d.node f.0) (name_again d.name f.1) refl)

needs_lack : (d : Depend) → IsNamed d → Lacks 10 (depend_text d)
needs_lack d f = depend_lacks d.kind d.node d.name (node_again d.node f.0) (name_again d.name f.1)

pub depends_delimit : (xs ys : List Depend) (r s : List ℕ) → length xs < 2 ^ 64 → length ys < 2 ^ 64 → IsDependList xs → IsDependList ys → depend_lines xs ++ r ≡ depend_lines ys ++ s → (xs ≡ ys) × (r ≡ s)
depends_delimit xs ys r s n m f g e =
    let one : Delimits depend_line IsNamed = said_delimit depend_text (λ t. option_map need_of (depend_said One t)) IsNamed needs_again needs_lack in
    counted_delimit (codes "depends ") depend_line IsNamed refl one xs ys r s (n, both_forms xs f.nodes f.names) (m, both_forms ys g.nodes g.names) e

-- ---- files

abbrev IsFile : FileItem → Type 0
IsFile f = IsTrue (has_text_bytes f.path) × (length f.bytes < 2 ^ 64)

each_file : (files : List FileItem) → AllByRecursion (λ f. IsTrue (has_text_bytes f.path)) files → AllByRecursion (λ f. length f.bytes < 2 ^ 64) files → AllByRecursion IsFile files
each_file [] f g = tt
each_file (x ∷ more) f g = ((f.0, g.0), each_file more f.1 g.1)

abbrev head_text : ℕ × List ℕ → List ℕ
head_text head = codes "file " ++ decimal head.0 ++ codes " " ++ head.1

abbrev IsHead : ℕ × List ℕ → Type 0
IsHead head = (head.0 < 2 ^ 64) × IsTrue (has_text_bytes head.1)

abbrev file_of : List ℕ → List ℕ → FileItem
file_of path bytes = record { path = path; bytes = bytes }

file_delimits : Delimits file_piece IsFile
file_delimits x y r s f g e =
    let left = line (head_text (length x.bytes, x.path)) in
    let right = line (head_text (length y.bytes, y.path)) in
    let regrouped : left ++ (line x.bytes ++ r) ≡ right ++ (line y.bytes ++ s) = sym (append_assoc left (line x.bytes) r) ∙ e ∙ append_assoc right (line y.bytes) s in
    let heads : Delimits (λ head. line (head_text head)) IsHead =
    said_delimit head_text file_said IsHead (λ head h. file_again head.0 head.1 h.0) (λ head h. file_lacks head.0 head.1 h.0 (text_lacks head.1 h.1)) in
    let h = heads (length x.bytes, x.path) (length y.bytes, y.path) (line x.bytes ++ r) (line y.bytes ++ s) (f.1, f.0) (g.1, g.0) regrouped in
    let size : length x.bytes ≡ length y.bytes = ap (λ (p : ℕ × List ℕ). p.0) h.0 in
    let path : x.path ≡ y.path = ap (λ (p : ℕ × List ℕ). p.1) h.0 in
    let pieces = ok_is (x.bytes, r) (y.bytes, s) (sym (piece_again x.bytes r) ∙ ap₂ piece_at size h.1 ∙ piece_again y.bytes s) in
    (ap₂ file_of path (ap (λ (p : List ℕ × List ℕ). p.0) pieces), ap (λ (p : List ℕ × List ℕ). p.1) pieces)

pub files_delimit : (heading : List ℕ) → Lacks 10 heading → (xs ys : List FileItem) (r s : List ℕ) → AreFiles xs → AreFiles ys → file_pieces heading xs ++ r ≡ file_pieces heading ys ++ s → (xs ≡ ys) × (r ≡ s)
files_delimit heading h xs ys r s f g e =
    counted_delimit heading file_piece IsFile h file_delimits xs ys r s (f.count, each_file xs f.paths f.sizes) (g.count, each_file ys g.paths g.sizes) e

-- ---- commands

command_delimits : Delimits command_lines IsCommand
command_delimits x y r s f g e = counted_delimit (codes "command ") line (Lacks 10) refl lines_delimit x y r s (f.count, all_texts x f.texts) (g.count, all_texts y g.texts) e

pub commands_delimit : (xs ys : List (List (List ℕ))) (r s : List ℕ) → length xs ≡ length ys → AreCommands xs → AreCommands ys → flat_map command_lines xs ++ r ≡ flat_map command_lines ys ++ s → (xs ≡ ys) × (r ≡ s)
commands_delimit xs ys r s n f g e = many_delimit command_lines IsCommand command_delimits xs ys r s n f.each g.each e

-- ---- the line with the numbers of commands

space_step : (h a b : List ℕ) → (h ++ a ++ codes " ") ++ b ≡ h ++ (a ++ 32 ∷ b)
space_step h a b = append_assoc (h ++ a) (codes " ") b ∙ append_assoc h a (32 ∷ b)

abbrev numbers : Steps → List ℕ → List ℕ
numbers steps rest =
    decimal (length steps.extract) ++ 32 ∷ (decimal (length steps.patch) ++ 32 ∷ (decimal (length steps.configure)
    ++ 32 ∷ (decimal (length steps.build) ++ 32 ∷ (decimal (length steps.stage) ++ 10 ∷ rest))))

regrouped_numbers : (steps : Steps) (rest : List ℕ) → steps_line steps ++ rest ≡ codes "steps " ++ numbers steps rest
regrouped_numbers steps rest =
    let extract = decimal (length steps.extract) in
    let patch = decimal (length steps.patch) in
    let configure = decimal (length steps.configure) in
    let build = decimal (length steps.build) in
    let stage = decimal (length steps.stage) in
    let h1 = codes "steps " in
    let h2 = h1 ++ extract ++ codes " " in
    let h3 = h2 ++ patch ++ codes " " in
    let h4 = h3 ++ configure ++ codes " " in
    let h5 = h4 ++ build ++ codes " " in
    append_assoc (h5 ++ stage) (10 ∷ []) rest
    ∙ append_assoc h5 stage (10 ∷ rest)
    ∙ space_step h4 build (stage ++ 10 ∷ rest)
    ∙ space_step h3 configure (build ++ 32 ∷ (stage ++ 10 ∷ rest))
    ∙ space_step h2 patch (configure ++ 32 ∷ (build ++ 32 ∷ (stage ++ 10 ∷ rest)))
    ∙ space_step h1 extract (patch ++ 32 ∷ (configure ++ 32 ∷ (build ++ 32 ∷ (stage ++ 10 ∷ rest))))

pub record AreCounts (steps : Steps) : Type 0 where
  pub extract : length steps.extract < 2 ^ 64
  pub patch : length steps.patch < 2 ^ 64
  pub configure : length steps.configure < 2 ^ 64
  pub build : length steps.build < 2 ^ 64
  pub stage : length steps.stage < 2 ^ 64

pub record SameCounts (x y : Steps) (r s : List ℕ) : Type 0 where
  pub extract : length x.extract ≡ length y.extract
  pub patch : length x.patch ≡ length y.patch
  pub configure : length x.configure ≡ length y.configure
  pub build : length x.build ≡ length y.build
  pub stage : length x.stage ≡ length y.stage
  pub rest : r ≡ s

pub counts_delimit : (x y : Steps) (r s : List ℕ) → AreCounts x → AreCounts y → steps_line x ++ r ≡ steps_line y ++ s → SameCounts x y r s
counts_delimit x y r s f g e =
    let behind : numbers x r ≡ numbers y s = append_cancel_left (codes "steps ") (numbers x r) (numbers y s) (sym (regrouped_numbers x r) ∙ e ∙ regrouped_numbers y s) in
    let a = number_spaced (length x.extract) (length y.extract) _ _ f.extract g.extract behind in
    let b = number_spaced (length x.patch) (length y.patch) _ _ f.patch g.patch a.1 in
    let c = number_spaced (length x.configure) (length y.configure) _ _ f.configure g.configure b.1 in
    let d = number_spaced (length x.build) (length y.build) _ _ f.build g.build c.1 in
    let t = number_ended (length x.stage) (length y.stage) r s f.stage g.stage d.1 in
    record { extract = a.0; patch = b.0; configure = c.0; build = d.0; stage = t.0; rest = t.1 }
