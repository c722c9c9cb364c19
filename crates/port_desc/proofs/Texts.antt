-- Texts joined, and names that are texts.
use Rattle.std.proofs.Common.{◌≡◌, ℕ, true, List, ◌∷◌, ◌++◌, arith, ap, ◌∙◌}
use Rattle.std.specs.Prelude.{Option, Some, None, IfSome}
use Rattle.std.specs.Str.{is_utf8}
use Rattle.std.proofs.lemmas.Str.{is_utf8-from_IsUtf8}
use Rattle.std.proofs.lemmas.Bool.Decides.{nat_tests}
use Rattle.std.proofs.lemmas.List.Folds.{list_all-append}
use Rattle.std.specs.List.{list_all}
use Rattle.bulk_base.specs.Text.{IsText, is_text, is_plain_text, has_text_bytes}
use Rattle.bulk_base.specs.Names.{is_flavor, IsOrigin, node_of}
use Rattle.bulk_base.proofs.TextTests.{is_text-plain, IsText-from_is_text}
use Rattle.port_vars.proofs.TextParts.{IsText-append}
use Rattle.port_name.specs.Forms.{is_node, is_flavor_byte}
use Rattle.port_name.proofs.Plain.{is_plain_byte, together, list_all-weaken, port_name_plain}
use Rattle.port_name.proofs.Origins.{IsNode-from_test}

pub is_text-append : (a b : List ℕ) → IsText a → IsText b → is_text (a ++ b) ≡ true
is_text-append a b h k =
    let whole : IsText (a ++ b) = IsText-append a b h k in
    together (is_utf8 (a ++ b)) (has_text_bytes (a ++ b)) (is_utf8-from_IsUtf8 (a ++ b) whole.0) whole.1

pub IsText-plain : (a : List ℕ) → is_plain_text a ≡ true → IsText a
IsText-plain a h = IsText-from_is_text a (is_text-plain a h)

flavor_byte : (b : ℕ) → is_flavor_byte b ≡ true → is_plain_byte b ≡ true
flavor_byte b h = grind (arith, nat_tests)

flavor_bytes : (name : List ℕ) → is_flavor name ≡ true → list_all is_flavor_byte name ≡ true
flavor_bytes name h = grind arith

flavor_plain : (name : List ℕ) → is_flavor name ≡ true → is_plain_text name ≡ true
flavor_plain name h = list_all-weaken is_flavor_byte is_plain_byte flavor_byte name (flavor_bytes name h)

origin_plain : (origin : List ℕ) → IsOrigin origin → is_plain_text origin ≡ true
origin_plain origin o =
    ap is_plain_text o.spelled ∙ list_all-append is_plain_byte o.category (47 ∷ o.port)
    ∙ together (is_plain_text o.category) (is_plain_text (47 ∷ o.port)) (port_name_plain o.category o.category_form) (port_name_plain o.port o.port_form)

by_flavor : (origin : List ℕ) (flavor : Option (List ℕ)) → IsOrigin origin → IfSome flavor (λ f. is_flavor f ≡ true) → is_plain_text (node_of origin flavor) ≡ true
by_flavor origin None o f = origin_plain origin o
by_flavor origin (Some flavor) o f =
    list_all-append is_plain_byte origin (64 ∷ flavor)
    ∙ together (is_plain_text origin) (is_plain_text (64 ∷ flavor)) (origin_plain origin o) (flavor_plain flavor f)

-- the name of a node is ASCII
pub node_plain : (word : List ℕ) → is_node word ≡ true → is_plain_text word ≡ true
node_plain word h =
    let n = IsNode-from_test word h in
    ap is_plain_text n.spelled ∙ by_flavor n.origin n.flavor n.origin_form n.flavor_form
