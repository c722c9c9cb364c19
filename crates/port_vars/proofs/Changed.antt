-- The value of a variable after an assignment whose text is known by its first bytes alone.
use Rattle.std.proofs.Common.{◌≡◌, ℕ, ◌+◌, ◌<◌, ◌≤◌, Bool, true, false, List, [], ◌∷◌, ◌++◌, length, take, cond, arith, ap, sym, ◌∙◌, refl, inl, inr, Option, Some, None, Result, Ok, Err, nat_le}
use Rattle.std.specs.Prelude.{◌⊎◌, ◌==◌}
use Rattle.std.proofs.lemmas.Bool.{cases_lt}
use Rattle.std.proofs.lemmas.List.{take_all, length-take, length-append}
use Rattle.bulk_base.specs.Text.{IsText}
use Rattle.port_vars.specs.declared.fault.LineKind.{LineKind}
use Rattle.port_vars.specs.declared.fault.LineKind.TheVariants.{TooLong}
use Rattle.port_vars.specs.declared.operator.Operator.{Operator}
use Rattle.port_vars.specs.declared.operator.Operator.TheVariants.{Set, Append, Default}
use Rattle.port_vars.specs.Assignment.{Assignment, changed, value_by, within}
use Rattle.port_vars.specs.Variables.{Vars, after}
use Rattle.port_vars.specs.Assignment.{mapped}
use Rattle.std.specs.FinMap as map
use Rattle.bulk_base.proofs.MapView.{insert-remove}
use Rattle.port_vars.specs.Answers.{fitting, given}
use Rattle.port_vars.proofs.TextParts.{IsText-append, IsText-byte}
use Rattle.port_vars.proofs.Decided.{le_false}

-- both values are one, or both are too long
abbrev Alike : ℕ → List ℕ → List ℕ → Type 0
Alike limit a b = (a ≡ b) ⊎ ((limit < length a) × (limit < length b))

appended_alike : (limit : ℕ) (value a b : List ℕ) (empty : Bool) → Alike limit a b → Alike limit (cond empty a (value ++ 32 ∷ a)) (cond empty b (value ++ 32 ∷ b))
appended_alike limit value a b true h = h
appended_alike limit value a b false (inl e) = inl (ap (λ x. value ++ 32 ∷ x) e)
appended_alike limit value a b false (inr l) = inr (omega (arith, length-append value (32 ∷ a)), omega (arith, length-append value (32 ∷ b)))

changed_alike : (limit : ℕ) (operator : Operator) (before : Option (List ℕ)) (a b : List ℕ) → Alike limit a b → Alike limit (changed operator before a) (changed operator before b)
changed_alike limit Set before a b h = h
changed_alike limit Append None a b h = h
changed_alike limit Append (Some value) a b h = appended_alike limit value a b (length value == 0) h
changed_alike limit Default None a b h = h
changed_alike limit Default (Some value) a b h = inl refl

first_alike : (limit : ℕ) (text : List ℕ) → Alike limit (take (limit + 1) text) text
first_alike limit text = elim (cases_lt limit (length text)) [
  | inl l ↦ inr (omega (arith, length-take (limit + 1) text), l)
  | inr g ↦ inl (take_all (limit + 1) text (omega arith))
]

abbrev by_text : List ℕ → Operator → List ℕ → Assignment
by_text name operator text = record { name = name; operator = operator; text = text }

abbrev done : ℕ → Vars → List ℕ → List ℕ → Result Vars LineKind
done limit vars name value = cond (nat_le (length value) limit) (Ok (map.insert vars name value)) (Err TooLong)

alike_done : (limit : ℕ) (vars : Vars) (name a b : List ℕ) → Alike limit a b → done limit vars name a ≡ done limit vars name b
alike_done limit vars name a b (inl e) = ap (done limit vars name) e
alike_done limit vars name a b (inr l) =
    ap (λ t. cond t (Ok (map.insert vars name a)) (Err TooLong)) (le_false (length a) limit l.0)
    ∙ sym (ap (λ t. cond t (Ok (map.insert vars name b)) (Err TooLong)) (le_false (length b) limit l.1))

done_case : (limit : ℕ) (vars : Vars) (by : Assignment) (t : Bool) → mapped (after vars) (cond t (Ok by) (Err TooLong)) ≡ cond t (Ok (after vars by)) (Err TooLong)
done_case limit vars by true = refl
done_case limit vars by false = refl

done_is : (limit : ℕ) (vars : Vars) (by : Assignment) → mapped (after vars) (within limit (map.get vars) by) ≡ done limit vars by.name (value_by (map.get vars) by)
done_is limit vars by = done_case limit vars by (nat_le (length (value_by (map.get vars) by)) limit)

-- more of the text than the limit and one changes nothing
pub first_bytes_do : (limit : ℕ) (vars : Vars) (name : List ℕ) (operator : Operator) (text : List ℕ)
    → mapped (after vars) (within limit (map.get vars) (record { name = name; operator = operator; text = take (limit + 1) text }))
    ≡ mapped (after vars) (within limit (map.get vars) (record { name = name; operator = operator; text = text }))
first_bytes_do limit vars name operator text =
    done_is limit vars (by_text name operator (take (limit + 1) text))
    ∙ alike_done limit vars name _ _ (changed_alike limit operator (map.get vars name) (take (limit + 1) text) text (first_alike limit text))
    ∙ sym (done_is limit vars (by_text name operator text))

-- while nothing is cut off, a text behind a space is a text
pub spaced_is_text : (most : ℕ) (text new : List ℕ) → new ≡ 32 ∷ text → (length text < most → IsText text) → length new < most → IsText new
spaced_is_text most text new e k short =
    rw e (IsText-append (32 ∷ []) text (IsText-byte 32 (Rattle.std.proofs.Common.lit< tt) refl) (k (omega (arith, ap length e))))

-- a value that leaves the map, grows and comes back
pub put_back : (limit : ℕ) (vars rest : Vars) (name old new text : List ℕ) → rest ≡ map.remove vars name → changed Append (Some old) text ≡ changed Append (map.get vars name) text
    → fitting limit (changed Append (Some old) text) ≡ Ok new → given limit vars name Append text ≡ Ok (map.insert rest name new)
put_back limit vars rest name old new text r same h =
    ap (λ value. mapped (map.insert vars name) (fitting limit value)) (sym same) ∙ ap (mapped (map.insert vars name)) h
    ∙ ap Ok (sym (insert-remove vars name new) ∙ ap (λ m. map.insert m name new) (sym r))
