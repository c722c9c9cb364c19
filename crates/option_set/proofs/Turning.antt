-- Names put into a set one after another.
use Rattle.std.proofs.Common.{◌≡◌, ℕ, ◌+◌, ◌<◌, Bool, true, false, List, [], ◌∷◌, ◌++◌, length, get_or, take, refl, ap, sym, subst, ◌∙◌, arith}
use Rattle.std.proofs.lemmas.List.{take_more}
use Rattle.std.specs.Prelude.{◌||◌, ◌&&◌, not, bytes_eq, cond, is_some, Option, Some}
use Rattle.std.specs.Ordering.{nat_cmp, eq_by_cmp}
use Rattle.std.specs.Cmp.Lexicographic.{slice_cmp, nat_list_cmp_total, texts_ties}
use Rattle.std.specs.FinMap as map
use Rattle.port_name.specs.Sets.{is_among}
use Rattle.bulk_base.specs.Order.{TextSet as Words}
use Rattle.option_set.proofs.Among.{among_append, same_name}

-- the set has what it had and the names, and the new ones are those that it had not
pub record TurnedOn (names : List (List ℕ)) (before on : Words) (new : List (List ℕ)) : Type 0 where
  pub on_is : (name : List ℕ) → map.contains_key on name ≡ (map.contains_key before name || is_among names name)
  pub new_is : (name : List ℕ) → is_among new name ≡ (is_among names name && not (map.contains_key before name))

pub turned_none : (before : Words) → TurnedOn [] before before []
turned_none before = record { on_is = λ name. or_false (map.contains_key before name); new_is = λ name. refl }
  where
    or_false : (a : Bool) → a ≡ (a || false)
    or_false true = refl
    or_false false = refl

set_some : (t : Bool) (x : Option (Unit {0})) → is_some (cond t (Some tt) x) ≡ (t || is_some x)
set_some true x = refl
set_some false x = refl

-- a set into which a name is put
inserted : (on : Words) (x name : List ℕ) → map.contains_key (map.insert on x tt) name ≡ (bytes_eq name x || map.contains_key on name)
inserted on x name =
    ap is_some (map.get-insert nat_list_cmp_total on x tt name)
    ∙ set_some (eq_by_cmp (slice_cmp nat_cmp) name x) (map.get on name)
    ∙ ap (λ b. b || map.contains_key on name) (sym (texts_ties name x))

among_one : (x name : List ℕ) (names : List (List ℕ)) → is_among (names ++ x ∷ []) name ≡ (is_among names name || bytes_eq name x)
among_one x name names = among_append names (x ∷ []) name ∙ ap (λ b. is_among names name || b) (or_false (bytes_eq name x))
  where
    or_false : (a : Bool) → (a || false) ≡ a
    or_false true = refl
    or_false false = refl

put_on : (e o a c : Bool) → c ≡ (o || a) → (e || c) ≡ (o || (a || e))
put_on e o a c h = grind arith

put_new : (e o a n : Bool) → n ≡ (a && not o) → (e ≡ true → o ≡ false) → (n || e) ≡ ((a || e) && not o)
put_new e o a n h k = grind arith

kept_on : (e o a c : Bool) → c ≡ (o || a) → (e ≡ true → c ≡ true) → c ≡ (o || (a || e))
kept_on e o a c h k = grind arith

kept_new : (e o a n c : Bool) → n ≡ (a && not o) → c ≡ (o || a) → (e ≡ true → c ≡ true) → n ≡ ((a || e) && not o)
kept_new e o a n c h k m = grind arith

left_out : (c o a : Bool) → c ≡ (o || a) → c ≡ false → o ≡ false
left_out c o a h k = grind arith

module _ (names new : List (List ℕ)) (before on : Words) (x : List ℕ) (so_far : TurnedOn names before on new) where
  -- a name that is not on yet
  pub turned_new : map.contains_key on x ≡ false → TurnedOn (names ++ x ∷ []) before (map.insert on x tt) (new ++ x ∷ [])
  turned_new off = record {
    on_is = λ name.
        inserted on x name
        ∙ put_on (bytes_eq name x) (map.contains_key before name) (is_among names name) (map.contains_key on name) (so_far.on_is name)
        ∙ ap (λ b. map.contains_key before name || b) (sym (among_one x name names));
    new_is = λ name.
        among_one x name new
        ∙ put_new (bytes_eq name x) (map.contains_key before name) (is_among names name) (is_among new name) (so_far.new_is name)
        (λ e. ap (map.contains_key before) (same_name name x e) ∙ left_out (map.contains_key on x) (map.contains_key before x) (is_among names x) (so_far.on_is x) off)
        ∙ ap (λ b. b && not (map.contains_key before name)) (sym (among_one x name names));
  }

  -- one that is
  pub turned_old : map.contains_key on x ≡ true → TurnedOn (names ++ x ∷ []) before on new
  turned_old is = record {
    on_is = λ name.
        kept_on (bytes_eq name x) (map.contains_key before name) (is_among names name) (map.contains_key on name) (so_far.on_is name) (λ e. ap (map.contains_key on) (same_name name x e) ∙ is)
        ∙ ap (λ b. map.contains_key before name || b) (sym (among_one x name names));
    new_is = λ name.
        kept_new (bytes_eq name x) (map.contains_key before name) (is_among names name) (is_among new name) (map.contains_key on name) (so_far.new_is name) (so_far.on_is name) (λ e. ap (map.contains_key on) (same_name name x e) ∙ is)
        ∙ ap (λ b. b && not (map.contains_key before name)) (sym (among_one x name names));
  }

module _ (names : List (List ℕ)) (i : ℕ) (x : List ℕ) (l : i < length names) (is : x ≡ get_or names i x) where
  one_more : take (i + 1) names ≡ take i names ++ x ∷ []
  one_more = take_more names i x l ∙ ap (λ y. take i names ++ y ∷ []) (sym is)

  pub turn_new : (before on next : Words) (new after : List (List ℕ)) → TurnedOn (take i names) before on new
      → map.contains_key on x ≡ false → next ≡ map.insert on x tt → after ≡ new ++ x ∷ [] → TurnedOn (take (i + 1) names) before next after
  turn_new before on next new after so_far off next_is after_is =
      subst (λ ns. TurnedOn ns before next after) (sym one_more)
      (subst (λ n. TurnedOn (take i names ++ x ∷ []) before n after) (sym next_is)
      (subst (λ a. TurnedOn (take i names ++ x ∷ []) before (map.insert on x tt) a) (sym after_is)
      (turned_new (take i names) new before on x so_far off)))

  pub turn_old : (before on next : Words) (new after : List (List ℕ)) → TurnedOn (take i names) before on new
      → map.contains_key on x ≡ true → next ≡ on → after ≡ new → TurnedOn (take (i + 1) names) before next after
  turn_old before on next new after so_far there next_is after_is =
      subst (λ ns. TurnedOn ns before next after) (sym one_more)
      (subst (λ n. TurnedOn (take i names ++ x ∷ []) before n after) (sym next_is)
      (subst (λ a. TurnedOn (take i names ++ x ∷ []) before on a) (sym after_is)
      (turned_old (take i names) new before on x so_far there)))
