-- Digests: SHA-256 (FIPS 180-4) and the text that a record has of one.
use Rattle.std.specs.Prelude.{ℕ, Bool, ◌||◌, List, replicate, bytes_eq}
use Rattle.sha2.specs.Sha256.{sha256}
use Rattle.hex.specs.Hex.{encode_lower}
use Rattle.bulk_base.specs.Names.{is_between, is_digit, is_made_of}
use Rattle.bulk_model.specs.declared.digest.Digest.{Digest}

abbrev pub digest_of : List ℕ → Digest
digest_of bytes = record { bytes = sha256 bytes }

-- where there is nothing to take the digest of: 32 zero bytes
abbrev pub no_digest : Digest
no_digest = record { bytes = replicate 32 0 }

abbrev pub is_same : Digest → Digest → Bool
is_same a b = bytes_eq a.bytes b.bytes

-- the text of a digest
abbrev pub hex : Digest → List ℕ
hex digest = encode_lower digest.bytes

-- 64 lower-case hexadecimal digits
abbrev pub is_hex_byte : ℕ → Bool
is_hex_byte b = is_digit b || is_between 97 102 b

abbrev pub is_digest : List ℕ → Bool
is_digest text = is_made_of is_hex_byte 64 64 text
