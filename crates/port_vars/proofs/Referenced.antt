-- What a reference stands for, by the place of its `}` and the value of its name.
use Rattle.std.proofs.Common.{◌≡◌, ℕ, ◌+◌, ◌-◌, List, ◌++◌, take, drop, ap, ◌∙◌, refl, Option, Some, None}
use Rattle.std.specs.Option.{option_and_then}
use Rattle.port_vars.specs.Reference.{Values, value_of, close_in, referenced}

abbrev name_at : List ℕ → ℕ → List ℕ
name_at piece close = take (close - 1) (drop 1 piece)

abbrev behind : List ℕ → ℕ → List ℕ → Option (List ℕ)
behind piece close text = Some (text ++ drop (close + 1) piece)

referenced_is : (values : Values) (piece : List ℕ) → referenced values piece ≡ option_and_then (λ close. option_and_then (behind piece close) (value_of values (name_at piece close))) (close_in piece)
unfolding referenced
referenced_is values piece = refl

pub referenced_open : (values : Values) (piece : List ℕ) → close_in piece ≡ None → referenced values piece ≡ None
referenced_open values piece e = referenced_is values piece ∙ ap (option_and_then (λ close. option_and_then (behind piece close) (value_of values (name_at piece close)))) e

at_close : (values : Values) (piece : List ℕ) (close : ℕ) → close_in piece ≡ Some close → referenced values piece ≡ option_and_then (behind piece close) (value_of values (name_at piece close))
at_close values piece close e = referenced_is values piece ∙ ap (option_and_then (λ close. option_and_then (behind piece close) (value_of values (name_at piece close)))) e

pub referenced_unset : (values : Values) (piece : List ℕ) (close : ℕ) → close_in piece ≡ Some close → value_of values (take (close - 1) (drop 1 piece)) ≡ None → referenced values piece ≡ None
referenced_unset values piece close e v = at_close values piece close e ∙ ap (option_and_then (behind piece close)) v

pub referenced_set : (values : Values) (piece : List ℕ) (close : ℕ) (text : List ℕ) → close_in piece ≡ Some close → value_of values (take (close - 1) (drop 1 piece)) ≡ Some text
    → referenced values piece ≡ Some (text ++ drop (close + 1) piece)
referenced_set values piece close text e v = at_close values piece close e ∙ ap (option_and_then (behind piece close)) v
