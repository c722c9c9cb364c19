-- The forms of names (Porter's Handbook, "Naming"; docs/FORMATS.md).
use Rattle.std.specs.Prelude.{◌≡◌, ℕ, Bool, not, ◌&&◌, ◌||◌, ◌==◌, nat_le, ◌≤◌, List, [], ◌∷◌, ◌++◌, length, slice_index, Option, Some, None, IsTrue, IfSome}
use Rattle.std.specs.List.{list_all}
use Rattle.std.specs.Option.{option_map_or}

abbrev pub is_between : ℕ → ℕ → ℕ → Bool
is_between low high b = nat_le low b && nat_le b high

abbrev pub is_digit : ℕ → Bool
is_digit b = is_between 48 57 b

abbrev pub is_lower : ℕ → Bool
is_lower b = is_between 97 122 b

abbrev pub is_letter : ℕ → Bool
is_letter b = is_lower b || is_between 65 90 b

abbrev pub is_alphanumeric : ℕ → Bool
is_alphanumeric b = is_letter b || is_digit b

-- what names of categories and ports are made of: letters, digits, `_`, `-`, `.`, `+`
abbrev pub is_port_byte : ℕ → Bool
is_port_byte b = is_alphanumeric b || (b == 95) || (b == 45) || (b == 46) || (b == 43)

-- from some number of bytes up to another, each passing a test
abbrev pub is_made_of : (ℕ → Bool) → ℕ → ℕ → List ℕ → Bool
is_made_of test least most text = nat_le least (length text) && nat_le (length text) most && list_all test text

-- a category or a port: 1 to 64 such bytes, the first a letter, a digit or `_`
abbrev pub is_port_name : List ℕ → Bool
is_port_name name = is_made_of is_port_byte 1 64 name && (is_alphanumeric (slice_index name 0) || (slice_index name 0 == 95))

-- a flavor: 1 to 32 lower-case letters, digits and `_`
abbrev pub is_flavor : List ℕ → Bool
is_flavor name = is_made_of (λ b. is_lower b || is_digit b || (b == 95)) 1 32 name

-- a version: 1 to 64 letters, digits, `.` and `+`
abbrev pub is_version : List ℕ → Bool
is_version text = is_made_of (λ b. is_alphanumeric b || (b == 46) || (b == 43)) 1 64 text

-- a revision or an epoch that a package's name shows: 1 to 9 digits without a leading zero
abbrev pub is_shown_number : List ℕ → Bool
is_shown_number text = is_made_of is_digit 1 9 text && not (slice_index text 0 == 48)

-- an option: 1 to 64 letters, digits, `_` and `-`
abbrev pub is_option_name : List ℕ → Bool
is_option_name name = is_made_of (λ b. is_alphanumeric b || (b == 95) || (b == 45)) 1 64 name

-- an origin is a category and a port with a slash between
abbrev pub origin_of : List ℕ → List ℕ → List ℕ
origin_of category port = category ++ 47 ∷ port

pub record IsOrigin (origin : List ℕ) : Type 0 where
  pub category : List ℕ
  pub port : List ℕ
  pub category_form : IsTrue (is_port_name category)
  pub port_form : IsTrue (is_port_name port)
  pub spelled : origin ≡ origin_of category port

-- a node is a port without flavors, named by its origin, or one flavor of a port, with `@` between
abbrev pub node_of : List ℕ → Option (List ℕ) → List ℕ
node_of origin None = origin
node_of origin (Some flavor) = origin ++ 64 ∷ flavor

pub record IsNode (node : List ℕ) : Type 0 where
  pub origin : List ℕ
  pub flavor : Option (List ℕ)
  pub origin_form : IsOrigin origin
  pub flavor_form : IfSome flavor (λ f. IsTrue (is_flavor f))
  pub spelled : node ≡ node_of origin flavor

-- a package's name: a base, `-`, a version, `_` and a revision if there is one, `,` and an epoch if there is one
abbrev pub package_name : List ℕ → List ℕ → Option (List ℕ) → Option (List ℕ) → List ℕ
package_name base version revision epoch =
    base ++ (45 ∷ version) ++ option_map_or (λ r. 95 ∷ r) revision [] ++ option_map_or (λ e. 44 ∷ e) epoch []

-- the base has 1 to 192 bytes that ports are made of, and the whole at most 200
pub record IsPackageName (name : List ℕ) : Type 0 where
  pub base : List ℕ
  pub version : List ℕ
  pub revision : Option (List ℕ)
  pub epoch : Option (List ℕ)
  pub base_form : IsTrue (is_made_of is_port_byte 1 192 base)
  pub version_form : IsTrue (is_version version)
  pub revision_form : IfSome revision (λ r. IsTrue (is_shown_number r))
  pub epoch_form : IfSome epoch (λ e. IsTrue (is_shown_number e))
  pub short : length name ≤ 200
  pub spelled : name ≡ package_name base version revision epoch
