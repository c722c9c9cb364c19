-- The lines of a port's list of distfiles (Porter's Handbook, "distinfo"; docs/FORMATS.md).
use Rattle.std.specs.Prelude.{ℕ, Bool, not, ◌&&◌, ◌||◌, ◌==◌, nat_eq, nat_le, List, length, drop, codes, Option, Some, None, is_some, if◌then◌else◌}
use Rattle.std.specs.Option.{option_map, option_and_then}
use Rattle.std.specs.List.{starts_with}
use Rattle.bulk_base.specs.Marks.{front, back}
use Rattle.bulk_base.specs.Number.{number_of}
use Rattle.bulk_base.specs.Path.{is_path}
use Rattle.bulk_base.specs.Text.{is_text}
use Rattle.dist_files.specs.declared.statement.Fact.{Fact}
use Rattle.dist_files.specs.declared.statement.Fact.TheVariants.{Sha256, Size}
use Rattle.dist_files.specs.declared.statement.Statement.{Statement}
use Rattle.dist_files.specs.Hashes.{digest_said}

-- what follows a heading
abbrev pub behind : List ℕ → List ℕ → Option (List ℕ)
behind heading text =
    if starts_with nat_eq text heading then Some (drop (length heading) text) else None

-- a file's name: a path of at most 1,014 bytes, so that `distfiles/` can stand before it
abbrev pub is_file : List ℕ → Bool
is_file name = is_text name && is_path name && nat_le (length name) 1014

abbrev pub hash_fact : List ℕ → Option Fact
hash_fact word = option_map (λ digest. Sha256 digest) (digest_said word)

abbrev pub size_fact : List ℕ → Option Fact
size_fact word = option_map (λ size. Size size) (number_of word)

abbrev pub statement : List ℕ → Fact → Statement
statement name fact = record { file = name; fact = fact }

abbrev pub statement_of : List ℕ → Fact → Option Statement
statement_of name fact = if is_file name then Some (statement name fact) else None

-- the name before the first `)`, and the word behind ` = `
abbrev pub name_and_word : List ℕ → Option (List ℕ × List ℕ)
name_and_word text = option_map (λ word. (front 41 text, word)) (behind (codes " = ") (back 41 text))

abbrev pub stated_by : (List ℕ → Option Fact) → List ℕ × List ℕ → Option Statement
stated_by fact_of parts = option_and_then (statement_of parts.0) (fact_of parts.1)

abbrev pub stated : (List ℕ → Option Fact) → List ℕ → Option Statement
stated fact_of text = option_and_then (stated_by fact_of) (name_and_word text)

-- what a line states of a file: `SHA256 (NAME) = DIGEST` its digest, `SIZE (NAME) = NUMBER` its number of bytes
unfoldable pub said : List ℕ → Option Statement
said line = elim (behind (codes "SHA256 (") line) [
  | Some text ↦ stated hash_fact text
  | None ↦ option_and_then (stated size_fact) (behind (codes "SIZE (") line)
]

-- a line that says nothing
abbrev pub is_passed : List ℕ → Bool
is_passed line = (length line == 0) || starts_with nat_eq line (codes "TIMESTAMP")

-- a line outside the form
abbrev pub is_bad : List ℕ → Bool
is_bad line = not (is_some (said line) || is_passed line)
