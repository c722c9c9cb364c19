-- The parts of a word that names what is wanted: an origin, one of its flavors, or all of them (Porter's Handbook, "FLAVORS";
-- docs/FORMATS.md, "Wanted ports").
use Rattle.std.specs.Prelude.{ℕ, Bool, List, bytes_eq, codes, if◌then◌else◌}
use Rattle.std.specs.List.{before_first, after_first}
use Rattle.port_name.specs.Forms.{is_at}

-- the word's own origin: what stands before `@`
abbrev pub origin_in : List ℕ → List ℕ
origin_in word = before_first is_at word

-- the word asks for all flavors: `all` stands behind `@`
abbrev pub asks_all : List ℕ → Bool
asks_all word = bytes_eq (after_first is_at word) (codes "all")

-- the name that MOVED is asked for: the word, with `@all` taken off
abbrev pub name_in : List ℕ → List ℕ
name_in word = if asks_all word then origin_in word else word
