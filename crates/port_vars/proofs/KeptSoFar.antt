-- What the loop over the pieces between `#` keeps.
use Rattle.std.proofs.Common.{◌≡◌, ℕ, ◌+◌, ◌-◌, ◌<◌, true, List, [], ◌∷◌, ◌++◌, length, get_or, drop, cond, arith, ◌∙◌, sym, ap, refl, eqb-true, lit<}
use Rattle.std.proofs.lemmas.List.{append_assoc, drop_more, length-drop}
use Rattle.bulk_base.specs.Text.{IsText}
use Rattle.port_vars.specs.Joined.{ends_in_backslash, without_last}
use Rattle.port_vars.specs.Comment.{kept}
use Rattle.port_vars.proofs.TextParts.{IsText-append, IsText-byte, IsText-without_last}

pub backslash_is_byte : (text : List ℕ) → ends_in_backslash text ≡ true → 0 < length text
backslash_is_byte [] e = cc
backslash_is_byte (b ∷ rest) e = omega arith

pub IsText-body : (text : List ℕ) → IsText text → ends_in_backslash text ≡ true → IsText (without_last text)
IsText-body text h e = let last : get_or text (length text - 1) 0 ≡ 92 = eqb-true _ _ e in IsText-without_last text h (backslash_is_byte text e) (omega arith)

kept_cons : (piece : List ℕ) (rest : List (List ℕ)) → 0 < length rest → ends_in_backslash piece ≡ true → kept (piece ∷ rest) ≡ without_last piece ++ 35 ∷ kept rest
kept_cons piece [] l e = absurd (omega arith)
kept_cons piece (next ∷ more) l e = ap (λ b. cond b (without_last piece ++ 35 ∷ kept (next ∷ more)) piece) e

-- a `#` that a `\` precedes is kept
pub kept_goes_on : (out : List ℕ) (pieces : List (List ℕ)) (at : ℕ) (piece : List ℕ) → at + 1 < length pieces → piece ≡ get_or pieces at piece → ends_in_backslash piece ≡ true
    → ((out ++ without_last piece) ++ 35 ∷ []) ++ kept (drop (at + 1) pieces) ≡ out ++ kept (drop at pieces)
kept_goes_on out pieces at piece l e ends =
    append_assoc (out ++ without_last piece) (35 ∷ []) (kept (drop (at + 1) pieces))
    ∙ append_assoc out (without_last piece) (35 ∷ kept (drop (at + 1) pieces))
    ∙ ap (λ x. out ++ x) (sym (ap kept (drop_more pieces at piece (omega arith) ∙ ap (λ p. p ∷ drop (at + 1) pieces) (sym e)) ∙ kept_cons piece (drop (at + 1) pieces) (omega (arith, length-drop (at + 1) pieces)) ends))

pub kept_is_text : (out piece : List ℕ) → IsText out → IsText piece → ends_in_backslash piece ≡ true → IsText ((out ++ without_last piece) ++ 35 ∷ [])
kept_is_text out piece h k ends = IsText-append (out ++ without_last piece) (35 ∷ []) (IsText-append out (without_last piece) h (IsText-body piece k ends)) (IsText-byte 35 (lit< tt) refl)
