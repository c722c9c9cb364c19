-- Which nodes are built before others (poudriere.conf, "PRIORITY_BOOST"; docs/FORMATS.md, "Patterns").
use Rattle.std.specs.Prelude.{ℕ, ◌+◌, Bool, false, ◌==◌, ◌&&◌, ◌||◌, drop, List, [], ◌∷◌, length, bytes_eq, if◌then◌else◌}
use Rattle.std.specs.List.{list_any, range_with_len}
use Rattle.bulk_base.specs.Words.{words_of}

-- a byte of a pattern that is no `*` stands for the first byte of a name
abbrev pub begins_with : ℕ → List ℕ → Bool
begins_with p [] = false
begins_with p (b ∷ name) = (p == 63) || (p == b)

-- a pattern matches a name: `*` stands for any bytes, `?` for one byte, each other byte for itself
abbrev pub is_match : List ℕ → List ℕ → Bool
is_match [] name = bytes_eq name []
is_match (p ∷ pattern) name =
    if p == 42 then list_any (λ count. is_match pattern (drop count name)) (range_with_len 0 (length name + 1))
    else (begins_with p name && is_match pattern (drop 1 name))

abbrev pub has_byte : ℕ → List ℕ → Bool
has_byte byte text = list_any (λ b. b == byte) text

-- a package's name without its version: what stands before the last `-`
abbrev pub base_name : List ℕ → List ℕ
base_name [] = []
base_name (b ∷ name) = if has_byte 45 name then b ∷ base_name name else []

-- some word matches a package's name without its version
abbrev pub is_boosted : List ℕ → List ℕ → Bool
is_boosted boost name = list_any (λ word. is_match word (base_name name)) (words_of boost)
