-- Texts that a hasher takes one behind another.
use Rattle.std.proofs.Common.{◌≡◌, ℕ, List, [], ◌++◌, sym, subst, append_assoc, append-nil}
use Rattle.sha2.specs.declared.Sha256.{Sha256}
use Rattle.sha2.specs.Hashers.{Holds256}
use Rattle.pkg_record.specs.Hashing.{Takes}

pub takes_nothing : (hasher : Sha256) → Takes hasher [] hasher
takes_nothing hasher message h = subst (Holds256 hasher) (sym (append-nil message)) h

pub takes_both : (before middle after : Sha256) (a b : List ℕ) → Takes before a middle → Takes middle b after → Takes before (a ++ b) after
takes_both before middle after a b f g message h = subst (Holds256 after) (append_assoc message a b) (g (message ++ a) (f message h))

pub takes_as : (before after : Sha256) (a b : List ℕ) → a ≡ b → Takes before a after → Takes before b after
takes_as before after a b e f = subst (λ t. Takes before t after) e f
