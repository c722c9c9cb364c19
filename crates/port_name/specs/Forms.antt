-- The forms of the parts of a package's name, and those of origins and nodes as tests (Porter's Handbook, "Naming";
-- docs/FORMATS.md).
use Rattle.std.specs.Prelude.{ℕ, Bool, ◌&&◌, ◌||◌, ◌==◌, List, [], ◌∷◌, length, bytes_eq}
use Rattle.std.specs.List.{before_first, after_first, position_or_len}
use Rattle.bulk_base.specs.Path.{is_slash}
use Rattle.bulk_base.specs.Names.{is_made_of, is_port_byte, is_port_name, is_flavor, is_lower, is_digit, is_alphanumeric, is_shown_number}

-- what flavors are made of
abbrev pub is_flavor_byte : ℕ → Bool
is_flavor_byte b = is_lower b || is_digit b || (b == 95)

-- what options' names are made of
abbrev pub is_option_byte : ℕ → Bool
is_option_byte b = is_alphanumeric b || (b == 95) || (b == 45)

-- what versions are made of
abbrev pub is_version_byte : ℕ → Bool
is_version_byte b = is_alphanumeric b || (b == 46) || (b == 43)

-- a prefix or a suffix: at most 64 bytes that names of ports are made of
abbrev pub is_affix : List ℕ → Bool
is_affix text = is_made_of is_port_byte 0 64 text

-- `0`, which a package's name does not show
abbrev pub is_zero : List ℕ → Bool
is_zero text = bytes_eq text (48 ∷ [])

-- a revision or an epoch: `0`, or 1 to 9 digits without a leading zero
abbrev pub is_counter : List ℕ → Bool
is_counter text = is_zero text || is_shown_number text

-- an origin: a category before the first slash, a port behind it
abbrev pub is_origin : List ℕ → Bool
is_origin word = is_port_name (before_first is_slash word) && is_port_name (after_first is_slash word)

abbrev pub is_at : ℕ → Bool
is_at b = b == 64

-- the name of a node: an origin, perhaps with `@` and a flavor behind it
abbrev pub is_node : List ℕ → Bool
is_node word =
    is_origin (before_first is_at word) && ((position_or_len is_at word == length word) || is_flavor (after_first is_at word))
