-- What the text of each line of a record says, where it fits (docs/FORMATS.md).
use Rattle.std.specs.Prelude.{ℕ, Bool, true, false, not, ◌^◌, ◌&&◌, ◌||◌, ◌==◌, nat_eq, nat_lt, List, length, drop, codes, slice_index, Option, Some, None, bytes_eq, if◌then◌else◌}
use Rattle.std.specs.Option.{option_map, option_and_then}
use Rattle.std.specs.List.{list_all, starts_with}
use Rattle.std.specs.Char.{is_ascii_digit}
use Rattle.std.specs.Result.{result_ok}
use Rattle.std.specs.Str.Parse.{digits_value}
use Rattle.hex.specs.Hex.{decode_sized}
use Rattle.bulk_base.specs.Names.{is_flavor, is_option_name}
use Rattle.bulk_base.specs.declared.file.Switch.{Switch}
use Rattle.bulk_model.specs.declared.depend.DepKind.{DepKind}
use Rattle.bulk_model.specs.declared.depend.DepKind.TheVariants.{Pkg, Fetch, Extract, Patch, Build, Lib, Run}
use Rattle.bulk_model.specs.declared.depend.Recorded.{Recorded}
use Rattle.bulk_model.specs.declared.digest.Digest.{Digest}
use Rattle.bulk_model.specs.declared.version.Version.{Version}
use Rattle.bulk_model.specs.declared.version.Version.TheVariants.{One, Two}
use Rattle.bulk_model.specs.Digests.{is_digest, no_digest}
use Rattle.bulk_model.specs.Spelling.{version_words}
use Rattle.bulk_base.specs.Marks.{front, back}
use Rattle.port_name.specs.Forms.{is_node}
use Rattle.port_name.specs.PackageForm.{is_package_name}

-- what follows a heading
abbrev pub behind : List ℕ → List ℕ → Option (List ℕ)
behind heading text =
    if starts_with nat_eq text heading then Some (drop (length heading) text) else None

abbrev pub passing : (List ℕ → Bool) → List ℕ → Option (List ℕ)
passing test text = if test text then Some text else None

-- a heading and a word in form
abbrev pub word_behind : List ℕ → (List ℕ → Bool) → List ℕ → Option (List ℕ)
word_behind heading test text = option_and_then (passing test) (behind heading text)

-- the version that the first line tells
abbrev pub version_said : List ℕ → Option Version
version_said text =
    if bytes_eq text (version_words One) then Some One
    else if bytes_eq text (version_words Two) then Some Two
    else None

abbrev pub digest : List ℕ → Digest
digest bytes = record { bytes = bytes }

-- the digest of which this is the text
unfoldable pub digest_said : List ℕ → Option Digest
digest_said text =
    if is_digest text then option_map digest (result_ok (decode_sized text 32)) else None

abbrev pub recipe_said : List ℕ → Option Digest
recipe_said text = option_and_then digest_said (behind (codes "recipe ") text)

-- `-` where there is none
abbrev pub flavor_of : List ℕ → Option (Option (List ℕ))
flavor_of word =
    if bytes_eq word (codes "-") then Some None
    else option_map (λ flavor. Some flavor) (passing is_flavor word)

abbrev pub flavor_said : List ℕ → Option (Option (List ℕ))
flavor_said text = option_and_then flavor_of (behind (codes "flavor ") text)

-- decimal digits without a leading zero
abbrev pub is_numeral : List ℕ → Bool
is_numeral digits =
    list_all is_ascii_digit digits && nat_lt 0 (length digits)
    && ((length digits == 1) || not (slice_index digits 0 == 48))

-- their value, below 2 ^ 64
abbrev pub count_of : List ℕ → Option ℕ
count_of digits =
    if is_numeral digits && nat_lt (digits_value 10 digits) (2 ^ 64)
    then Some (digits_value 10 digits) else None

abbrev pub count_behind : List ℕ → List ℕ → Option ℕ
count_behind heading text = option_and_then count_of (behind heading text)

abbrev pub switch_of : List ℕ → Option Bool
switch_of word =
    if bytes_eq word (codes "on") then Some true else if bytes_eq word (codes "off") then Some false
    else None

abbrev pub switch : List ℕ → Bool → Switch
switch name on = record { name = name; on = on }

abbrev pub named_switch : List ℕ → Bool → Option Switch
named_switch name on = if is_option_name name then Some (switch name on) else None

-- an option and, behind a space, whether it is on
abbrev pub switch_in : List ℕ → Option Switch
switch_in words = option_and_then (named_switch (front 32 words)) (switch_of (back 32 words))

abbrev pub option_said : List ℕ → Option Switch
option_said text = option_and_then switch_in (behind (codes "option ") text)

unfoldable pub kind_of : List ℕ → Option DepKind
kind_of word =
    if bytes_eq word (codes "pkg") then Some Pkg
    else if bytes_eq word (codes "fetch") then Some Fetch
    else if bytes_eq word (codes "extract") then Some Extract
    else if bytes_eq word (codes "patch") then Some Patch
    else if bytes_eq word (codes "build") then Some Build
    else if bytes_eq word (codes "lib") then Some Lib
    else if bytes_eq word (codes "run") then Some Run
    else None

abbrev pub recorded : DepKind → List ℕ → List ℕ → Digest → Recorded
recorded kind node name digest = record { kind = kind; node = node; name = name; digest = digest }

-- a package's name and, in version 2 behind a space, the digest of its record
abbrev pub mark_in : Version → List ℕ → Option (List ℕ × Digest)
mark_in One words = Some (words, no_digest)
mark_in Two words = option_map (λ digest. (front 32 words, digest)) (digest_said (back 32 words))

abbrev pub noted : DepKind → List ℕ → List ℕ × Digest → Option Recorded
noted kind node mark =
    if is_node node && is_package_name mark.0 then Some (recorded kind node mark.0 mark.1) else None

abbrev pub named_depend : Version → List ℕ → List ℕ → DepKind → Option Recorded
named_depend version node words kind = option_and_then (noted kind node) (mark_in version words)

-- a kind, a node and what is told of its package, with spaces between
abbrev pub depend_in : Version → List ℕ → Option Recorded
depend_in version words =
    option_and_then (named_depend version (front 32 (back 32 words)) (back 32 (back 32 words)))
    (kind_of (front 32 words))

abbrev pub depend_said : Version → List ℕ → Option Recorded
depend_said version text = option_and_then (depend_in version) (behind (codes "depend ") text)

-- a length and, behind a space, a path
abbrev pub file_in : List ℕ → Option (ℕ × List ℕ)
file_in words = option_map (λ size. (size, back 32 words)) (count_of (front 32 words))

abbrev pub file_said : List ℕ → Option (ℕ × List ℕ)
file_said text = option_and_then file_in (behind (codes "file ") text)
