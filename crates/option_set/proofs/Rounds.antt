-- One round more.
use Rattle.std.proofs.Common.{◌≡◌, ℕ, suc, ◌+◌, List, ap, sym, subst, ◌∙◌, add-one}
use Rattle.std.specs.Prelude.{◌||◌, ◌&&◌, not}
use Rattle.std.specs.List.{flat_map}
use Rattle.std.specs.FinMap as map
use Rattle.port_name.specs.Sets.{is_among}
use Rattle.bulk_base.specs.Order.{TextSet as Words}
use Rattle.option_set.specs.Implied.{on_after}
use Rattle.option_set.proofs.Spreading.{Spread, spread_on}

module _ (implies : List ℕ → List (List ℕ)) (begun : List (List ℕ)) (i : ℕ) (new after words : List (List ℕ)) (on next : Words)
    (words_is : words ≡ flat_map implies new)
    (on_is : (name : List ℕ) → map.contains_key next name ≡ (map.contains_key on name || is_among words name))
    (new_is : (name : List ℕ) → is_among after name ≡ (is_among words name && not (map.contains_key on name)))
    (so_far : Spread implies (on_after implies begun i) new on) where
  next_round : Spread implies (on_after implies begun (suc i)) after next
  next_round =
      spread_on implies (on_after implies begun i) new after on next
      (λ name. on_is name ∙ ap (λ ws. map.contains_key on name || is_among ws name) words_is)
      (λ name. new_is name ∙ ap (λ ws. is_among ws name && not (map.contains_key on name)) words_is)
      so_far

  pub one_round : Spread implies (on_after implies begun (i + 1)) after next
  one_round = subst (λ n. Spread implies (on_after implies begun n) after next) (sym (add-one i)) next_round
