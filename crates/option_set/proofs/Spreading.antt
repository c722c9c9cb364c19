-- What is on after some rounds, by what each round turned on.
use Rattle.std.proofs.Common.{◌≡◌, ℕ, Bool, true, false, List, ◌++◌, refl, ap, sym, ◌∙◌}
use Rattle.std.specs.Prelude.{◌||◌, ◌&&◌, not}
use Rattle.std.specs.List.{flat_map}
use Rattle.std.specs.FinMap as map
use Rattle.port_name.specs.Sets.{is_among}
use Rattle.bulk_base.specs.Order.{TextSet as Words}
use Rattle.option_set.proofs.Among.{among_append, flat_same, flat_append}

module _ (implies : List ℕ → List (List ℕ)) where
  -- the names that are on, and those that the last round turned on: what is on implies nothing beyond itself and what the latter imply
  pub record Spread (all new : List (List ℕ)) (on : Words) : Type 0 where
    pub same : (name : List ℕ) → map.contains_key on name ≡ is_among all name
    pub rest : (name : List ℕ) → (is_among all name || is_among (flat_map implies all) name) ≡ (is_among all name || is_among (flat_map implies new) name)

  only_new : (a b : Bool) → (a || b) ≡ (a || (b && not a))
  only_new true b = refl
  only_new false true = refl
  only_new false false = refl

  round_joins : (a f n w : Bool) → (a || f) ≡ (a || w) → ((a || f) || (f || n)) ≡ ((a || f) || n)
  round_joins true f n w h = refl
  round_joins false true n w h = refl
  round_joins false false n w h = refl

  pub spread_begin : (begun new : List (List ℕ)) (none on : Words) → ((name : List ℕ) → map.contains_key none name ≡ false)
      → ((name : List ℕ) → map.contains_key on name ≡ (map.contains_key none name || is_among begun name))
      → ((name : List ℕ) → is_among new name ≡ (is_among begun name && not (map.contains_key none name))) → Spread begun new on
  spread_begin begun new none on empty on_is new_is = record {
    same = λ name. on_is name ∙ ap (λ b. b || is_among begun name) (empty name);
    rest = λ name. ap (λ b. is_among begun name || b) (flat_same implies begun new (λ n. sym (new_is n ∙ ap (λ b. is_among begun n && not b) (empty n) ∙ and_true (is_among begun n))) name);
  }
    where
      and_true : (a : Bool) → (a && true) ≡ a
      and_true true = refl
      and_true false = refl

  module _ (all new after : List (List ℕ)) (on next : Words)
      (on_is : (name : List ℕ) → map.contains_key next name ≡ (map.contains_key on name || is_among (flat_map implies new) name))
      (new_is : (name : List ℕ) → is_among after name ≡ (is_among (flat_map implies new) name && not (map.contains_key on name)))
      (so_far : Spread all new on) where
    more_on : (name : List ℕ) → map.contains_key next name ≡ is_among (all ++ flat_map implies all) name
    more_on name =
        on_is name ∙ ap (λ b. b || is_among (flat_map implies new) name) (so_far.same name)
        ∙ sym (so_far.rest name) ∙ sym (among_append all (flat_map implies all) name)

    members : (name : List ℕ) → is_among (all ++ flat_map implies all) name ≡ is_among (all ++ after) name
    members name =
        among_append all (flat_map implies all) name ∙ so_far.rest name
        ∙ only_new (is_among all name) (is_among (flat_map implies new) name)
        ∙ ap (λ b. is_among all name || (is_among (flat_map implies new) name && not b)) (sym (so_far.same name))
        ∙ ap (λ b. is_among all name || b) (sym (new_is name))
        ∙ sym (among_append all after name)

    pub spread_on : Spread (all ++ flat_map implies all) after next
    spread_on = record {
      same = more_on;
      rest = λ name.
          ap (λ b. b || is_among (flat_map implies (all ++ flat_map implies all)) name) (among_append all (flat_map implies all) name)
          ∙ ap (λ b. (is_among all name || is_among (flat_map implies all) name) || b) (flat_same implies (all ++ flat_map implies all) (all ++ after) members name ∙ flat_append implies all after name)
          ∙ round_joins (is_among all name) (is_among (flat_map implies all) name) (is_among (flat_map implies after) name) (is_among (flat_map implies new) name) (so_far.rest name)
          ∙ ap (λ b. b || is_among (flat_map implies after) name) (sym (among_append all (flat_map implies all) name));
    }
