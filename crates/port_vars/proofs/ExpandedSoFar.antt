-- What the loop over the pieces between `$` keeps.
use Rattle.std.proofs.Common.{◌≡◌, ℕ, ◌+◌, ◌≤◌, ◌<◌, Bool, true, false, List, [], ◌∷◌, ◌++◌, length, get_or, take, drop, ap, sym, ◌∙◌, Option, Some, None, Result, Ok, Err}
use Rattle.std.specs.Prelude.{◌==◌}
use Rattle.std.specs.Option.{option_map, ok_or}
use Rattle.std.specs.List.{slice_split}
use Rattle.std.proofs.lemmas.List.{drop_more, drop_all, take_all, append-nil}
use Rattle.port_vars.specs.declared.fault.LineKind.{LineKind}
use Rattle.port_vars.specs.declared.fault.LineKind.TheVariants.{Reference}
use Rattle.port_vars.specs.declared.fault.LineError.{LineError}
use Rattle.port_vars.specs.declared.fault.LineError.TheVariants.{Bad, NoMemory}
use Rattle.port_vars.specs.Reference.{Values, expanded_from, expanded}
use Rattle.port_vars.specs.Answers.{Answers, HasCause, first_bytes}

-- the first bytes of the whole text
whole_is : (most : ℕ) (values : Values) (value : List ℕ) (pieces : List (List ℕ)) → pieces ≡ slice_split (λ b. b == 36) value
    → first_bytes most values [] true pieces ≡ option_map (take most) (expanded values value)
unfolding expanded
whole_is most values value pieces e = ap (first_bytes most values [] true) e

at_piece : (most : ℕ) (values : Values) (out : List ℕ) (plain : Bool) (pieces : List (List ℕ)) (at : ℕ) (piece : List ℕ) → at < length pieces → piece ≡ get_or pieces at piece
    → first_bytes most values out plain (drop at pieces) ≡ first_bytes most values out plain (piece ∷ drop (at + 1) pieces)
at_piece most values out plain pieces at piece l e = ap (first_bytes most values out plain) (drop_more pieces at piece l ∙ ap (λ p. p ∷ drop (at + 1) pieces) (sym e))

pub piece_taken : (most : ℕ) (values : Values) (out new : List ℕ) (plain next : Bool) (pieces : List (List ℕ)) (at : ℕ) (piece : List ℕ) → at < length pieces → piece ≡ get_or pieces at piece
    → first_bytes most values out plain (piece ∷ drop (at + 1) pieces) ≡ first_bytes most values new next (drop (at + 1) pieces)
    → first_bytes most values out plain (drop at pieces) ≡ first_bytes most values [] true pieces
    → first_bytes most values new next (drop (at + 1) pieces) ≡ first_bytes most values [] true pieces
piece_taken most values out new plain next pieces at piece l e step so_far = sym step ∙ sym (at_piece most values out plain pieces at piece l e) ∙ so_far

-- a fault of one piece is one of the value
pub fault_told : (says : Result (List ℕ) LineKind) (e : LineError) (P : Type 0) → HasCause Reference e P → (P → says ≡ Err Reference) → Answers says (Err e)
fault_told says (Bad kind) P h f = f h.1 ∙ ap Err (sym h.0)
fault_told says NoMemory P h f = tt

told : (o : Option (List ℕ)) → o ≡ None → ok_or o Reference ≡ Err Reference
told o e = ap (λ x. ok_or x Reference) e

pub faulty_piece : (most : ℕ) (values : Values) (value out : List ℕ) (plain : Bool) (pieces : List (List ℕ)) (at : ℕ) (piece : List ℕ) → pieces ≡ slice_split (λ b. b == 36) value
    → at < length pieces → piece ≡ get_or pieces at piece
    → first_bytes most values out plain (drop at pieces) ≡ first_bytes most values [] true pieces
    → ((more : List (List ℕ)) → expanded_from values plain (piece ∷ more) ≡ None)
    → ok_or (option_map (take most) (expanded values value)) Reference ≡ Err Reference
faulty_piece most values value out plain pieces at piece cut l e so_far none =
    told _ (sym (whole_is most values value pieces cut) ∙ sym so_far ∙ at_piece most values out plain pieces at piece l e ∙ ap (option_map (λ rest. take most (out ++ rest))) (none (drop (at + 1) pieces)))

pub faulty_end : (most : ℕ) (values : Values) (value out : List ℕ) (plain : Bool) (pieces : List (List ℕ)) (at : ℕ) → pieces ≡ slice_split (λ b. b == 36) value
    → length pieces ≤ at → plain ≡ true
    → first_bytes most values out plain (drop at pieces) ≡ first_bytes most values [] true pieces
    → ok_or (option_map (take most) (expanded values value)) Reference ≡ Err Reference
faulty_end most values value out plain pieces at cut l p so_far =
    told _ (sym (whole_is most values value pieces cut) ∙ sym so_far ∙ ap (first_bytes most values out plain) (drop_all at pieces l) ∙ ap (λ b. first_bytes most values out b []) p)

pub whole_text : (most : ℕ) (values : Values) (value out : List ℕ) (plain : Bool) (pieces : List (List ℕ)) (at : ℕ) → pieces ≡ slice_split (λ b. b == 36) value
    → length pieces ≤ at → plain ≡ false → length out ≤ most
    → first_bytes most values out plain (drop at pieces) ≡ first_bytes most values [] true pieces
    → ok_or (option_map (take most) (expanded values value)) Reference ≡ Ok out
whole_text most values value out plain pieces at cut l p few so_far =
    ap (λ o. ok_or o Reference) (sym (whole_is most values value pieces cut) ∙ sym so_far ∙ ap (first_bytes most values out plain) (drop_all at pieces l) ∙ ap (λ b. first_bytes most values out b []) p
    ∙ ap Some (ap (take most) (append-nil out) ∙ take_all most out few))
