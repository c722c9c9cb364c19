-- What stands before the last dash of a name.
use Rattle.std.proofs.Common.{◌≡◌, ◌∙◌, ℕ, zero, suc, ◌+◌, ◌<◌, Bool, true, false, List, [], ◌∷◌, length, get_or, take, drop, ap, sym, refl, cond, arith}
use Rattle.std.specs.Prelude.{◌==◌, ◌||◌}
use Rattle.std.proofs.lemmas.Bool.{eq-eqb, or_left, or_right}
use Rattle.std.proofs.lemmas.List.{drop_more}
use Rattle.bulk_base.specs.Text.{IsText, is_text}
use Rattle.bulk_base.proofs.TextTests.{is_text-from_IsText, is_text-plain}
use Rattle.port_vars.proofs.TextParts.{IsText-before}
use Rattle.plan_maker.specs.Boosts.{has_byte, base_name}

dash_at : (name : List ℕ) (k : ℕ) → k < length name → get_or name k 0 ≡ 45 → has_byte 45 name ≡ true
dash_at [] k l e = absurd (omega arith)
dash_at (b ∷ name) zero l e = or_left (b == 45) (has_byte 45 name) (eq-eqb b 45 e)
dash_at (b ∷ name) (suc k) l e = or_right (b == 45) (has_byte 45 name) (dash_at name k (omega arith) e)

later : (a b : Bool) → (a || b) ≡ false → b ≡ false
later true b h = absurd (cc)
later false b h = h

pub base_at : (name : List ℕ) (k : ℕ) → k < length name → get_or name k 0 ≡ 45 → has_byte 45 (drop (suc k) name) ≡ false → take k name ≡ base_name name
base_at [] k l e n = absurd (omega arith)
base_at (b ∷ name) zero l e n = sym (ap (λ h. cond h (b ∷ base_name name) []) n)
base_at (b ∷ name) (suc k) l e n =
    ap (λ xs. b ∷ xs) (base_at name k (omega arith) e n) ∙ sym (ap (λ h. cond h (b ∷ base_name name) []) (dash_at name k (omega arith) e))

pub base_none : (name : List ℕ) → has_byte 45 name ≡ false → take 0 name ≡ base_name name
base_none [] h = refl
base_none (b ∷ name) h = sym (ap (λ h. cond h (b ∷ base_name name) []) (later (b == 45) (has_byte 45 name) h))

-- no dash from one place back
pub none_back : (name : List ℕ) (at : ℕ) → at < length name → (get_or name at 0 == 45) ≡ false → has_byte 45 (drop (at + 1) name) ≡ false → has_byte 45 (drop at name) ≡ false
none_back name at l e n = ap (has_byte 45) (drop_more name at 0 l) ∙ ap (λ b. b || has_byte 45 (drop (at + 1) name)) e ∙ n

-- it is a text
pub is_text_base : (text : List ℕ) (at : ℕ) → IsText text → (0 < at → (at < length text) × (get_or text at 0 ≡ 45)) → is_text (take at text) ≡ true
is_text_base text zero h d = is_text-plain [] refl
is_text_base text (suc k) h d =
    let dash = d (omega arith) in
    is_text-from_IsText (take (suc k) text) (IsText-before text (suc k) h dash.0 (omega (arith, dash.1)))
