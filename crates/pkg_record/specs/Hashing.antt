-- What a hasher has taken (SHA-256, FIPS 180-4).
use Rattle.std.specs.Prelude.{ℕ, List, ◌++◌}
use Rattle.sha2.specs.declared.Sha256.{Sha256}
use Rattle.sha2.specs.Hashers.{Holds256}

-- between two states the hasher has taken a text
abbrev pub Takes : Sha256 → List ℕ → Sha256 → Type 0
Takes before text after =
    (message : List ℕ) → Holds256 before message → Holds256 after (message ++ text)
