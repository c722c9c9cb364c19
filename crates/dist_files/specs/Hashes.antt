-- Digests and their texts (FIPS 180-4).
use Rattle.std.specs.Prelude.{◌≡◌, ℕ, List, length, Option, Some, None, if◌then◌else◌}
use Rattle.std.specs.Option.{option_map}
use Rattle.std.specs.Result.{result_ok}
use Rattle.hex.specs.Hex.{IsBytes, decode_sized}
use Rattle.bulk_model.specs.declared.digest.Digest.{Digest}
use Rattle.bulk_model.specs.Digests.{is_digest}

-- a digest has 32 bytes
pub record IsDigest (digest : Digest) : Type 0 where
  pub size : length digest.bytes ≡ 32
  pub bytes : IsBytes digest.bytes

abbrev pub digest : List ℕ → Digest
digest bytes = record { bytes = bytes }

-- the digest of which this is the text: 64 lower-case hexadecimal digits
unfoldable pub digest_said : List ℕ → Option Digest
digest_said text = if is_digest text then option_map digest (result_ok (decode_sized text 32)) else None
