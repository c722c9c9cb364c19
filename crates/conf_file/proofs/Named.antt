-- The name of a variable on a port is a text.
use Rattle.std.proofs.Common.{ℕ, List, ◌++◌, ◌∷◌, [], refl, arith}
use Rattle.bulk_base.specs.Text.{IsText}
use Rattle.port_vars.proofs.TextParts.{IsText-append, IsText-byte}
use Rattle.port_name.specs.declared.place.Origin.{Origin}
use Rattle.conf_file.specs.Make.{port_variable}

pub IsText-port_variable : (origin : Origin) (ending : List ℕ) → IsText origin.category → IsText origin.port → IsText ending → IsText (port_variable origin ending)
IsText-port_variable origin ending category port form =
    IsText-append ((origin.category ++ 95 ∷ []) ++ origin.port) ending
    (IsText-append (origin.category ++ 95 ∷ []) origin.port (IsText-append origin.category (95 ∷ []) category (IsText-byte 95 (omega arith) refl)) port) form
