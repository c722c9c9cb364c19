-- The form of a package's name as a test, by where its parts begin (Porter's Handbook, "Naming"; docs/FORMATS.md).
use Rattle.std.specs.Prelude.{ℕ, zero, suc, Bool, false, ◌+◌, ◌&&◌, ◌||◌, ◌==◌, nat_le, List, length, take, drop, slice_index}
use Rattle.bulk_base.specs.Marks.{front, back}
use Rattle.bulk_base.specs.Names.{is_made_of, is_port_byte, is_version, is_shown_number}

-- a version, or a version and a revision with `_` between
abbrev pub is_revised : List ℕ → Bool
is_revised text = is_version text || (is_version (front 95 text) && is_shown_number (back 95 text))

-- the same, or the same and an epoch with `,` between
abbrev pub is_full_version : List ℕ → Bool
is_full_version text = is_revised text || (is_revised (front 44 text) && is_shown_number (back 44 text))

-- a base and a full version, with `-` at a place between
abbrev pub is_parted_at : List ℕ → ℕ → Bool
is_parted_at text place = (slice_index text place == 45) && is_made_of is_port_byte 1 192 (take place text) && is_full_version (drop (place + 1) text)

-- whether a test passes at a place below a bound
abbrev pub some_below : (ℕ → Bool) → ℕ → Bool
some_below test zero = false
some_below test (suc n) = some_below test n || test n

abbrev pub is_package_name : List ℕ → Bool
is_package_name text = nat_le (length text) 200 && some_below (is_parted_at text) (length text)
