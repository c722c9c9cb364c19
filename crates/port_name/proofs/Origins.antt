-- The tests of origins and nodes mean what the definitions say.
use Rattle.std.proofs.Common.{◌≡◌, ℕ, ◌+◌, ◌-◌, ◌<◌, ◌≤◌, Bool, true, false, List, [], ◌∷◌, ◌++◌, length, get_or, take, drop, arith, ◌∙◌, sym, ap, refl, subst, inl, inr}
use Rattle.std.specs.Prelude.{cond, ◌&&◌, ◌||◌, ◌==◌, not, ◌⊎◌, Option, Some, None}
use Rattle.std.specs.List.{list_all, before_first, after_first, position_or_len}
use Rattle.std.proofs.lemmas.List.{drop_all, take_all, take_rest}
use Rattle.std.proofs.lemmas.List.Sums.{split_at_first, passes_at_first}
use Rattle.std.proofs.lemmas.List.Folds.{list_all-append}
use Rattle.std.proofs.lemmas.Bool.Decides.{nat_tests}
use Rattle.std.proofs.lemmas.Bool.{cases_lt, eqb-true, and_parts}
use mathlib.Core.Bool.{true≢false}
use Rattle.std.specs.Prelude.{◌↔◌}
use Rattle.bulk_base.specs.Path.{is_slash}
use Rattle.bulk_base.specs.Names.{is_port_name, is_flavor, IsOrigin, IsNode, origin_of, node_of}
use Rattle.port_name.specs.Forms.{is_origin, is_node, is_at}
use Rattle.bulk_base.proofs.Places.{place_none, none}
use Rattle.port_name.proofs.Separators.{before_separator, after_separator}
use Rattle.port_name.proofs.Plain.{together, port_name_bytes, no_slash, no_at}

no_name : {name : List ℕ} → is_port_name name ≡ true → name ≡ [] → ⊥
no_name {name} h e = true≢false (sym h ∙ ap is_port_name e)

no_flavor : {name : List ℕ} → is_flavor name ≡ true → name ≡ [] → ⊥
no_flavor {name} h e = true≢false (sym h ∙ ap is_flavor e)

pub slash_within : (word : List ℕ) → is_origin word ≡ true → position_or_len is_slash word < length word
slash_within word h = elim (cases_lt (position_or_len is_slash word) (length word)) [
  | inl l ↦ l
  | inr g ↦ absurd (no_name (and_parts (is_port_name (before_first is_slash word)) (is_port_name (after_first is_slash word)) h).1 (drop_all (position_or_len is_slash word + 1) word (omega arith)))
]

slash_there : (word : List ℕ) → position_or_len is_slash word < length word → get_or word (position_or_len is_slash word) 0 ≡ 47
slash_there word l = eqb-true (get_or word (position_or_len is_slash word) 0) 47 (passes_at_first is_slash word 0 l)

pub origin_spelled : (word : List ℕ) → is_origin word ≡ true → word ≡ origin_of (before_first is_slash word) (after_first is_slash word)
origin_spelled word h =
    let l : position_or_len is_slash word < length word = slash_within word h in
    split_at_first is_slash word 0 l ∙ ap (λ b. before_first is_slash word ++ b ∷ after_first is_slash word) (slash_there word l)

-- a test that passes gives the origin
pub IsOrigin-from_test : (word : List ℕ) → is_origin word ≡ true → IsOrigin word
IsOrigin-from_test word h =
    let parts = and_parts (is_port_name (before_first is_slash word)) (is_port_name (after_first is_slash word)) h in
    record {
      category = before_first is_slash word;
      port = after_first is_slash word;
      category_form = parts.0;
      port_form = parts.1;
      spelled = origin_spelled word h;
    }

names_pass : (category port : List ℕ) → is_port_name category ≡ true → is_port_name port ≡ true → is_origin (origin_of category port) ≡ true
names_pass category port c p =
    let clear : none is_slash category ≡ true = no_slash category (port_name_bytes category c) in
    ap (λ x. is_port_name x && is_port_name (after_first is_slash (origin_of category port))) (before_separator is_slash category 47 port clear refl)
    ∙ ap (λ x. is_port_name category && is_port_name x) (after_separator is_slash category 47 port clear refl)
    ∙ together (is_port_name category) (is_port_name port) c p

-- an origin passes the test
pub test-from_IsOrigin : (word : List ℕ) → IsOrigin word → is_origin word ≡ true
test-from_IsOrigin word o = ap is_origin o.spelled ∙ names_pass o.category o.port o.category_form o.port_form

-- nodes
origin_no_at : (origin : List ℕ) → IsOrigin origin → none is_at origin ≡ true
origin_no_at origin o =
    ap (none is_at) o.spelled ∙ list_all-append (λ b. not (is_at b)) o.category (47 ∷ o.port)
    ∙ together (none is_at o.category) (none is_at o.port) (no_at o.category (port_name_bytes o.category o.category_form)) (no_at o.port (port_name_bytes o.port o.port_form))

at_there : (word : List ℕ) → position_or_len is_at word < length word → get_or word (position_or_len is_at word) 0 ≡ 64
at_there word l = eqb-true (get_or word (position_or_len is_at word) 0) 64 (passes_at_first is_at word 0 l)

abbrev at_end : List ℕ → Bool
at_end word = position_or_len is_at word == length word

end_case : (word : List ℕ) (t : Bool) → at_end word ≡ t → IsOrigin (before_first is_at word) → (t || is_flavor (after_first is_at word)) ≡ true → IsNode word
end_case word true e o h =
    let whole : before_first is_at word ≡ word = take_all (position_or_len is_at word) word (omega (arith, eqb-true (position_or_len is_at word) (length word) e)) in
    record { origin = word; flavor = None; origin_form = subst IsOrigin whole o; flavor_form = tt; spelled = refl }
end_case word false e o h = elim (cases_lt (position_or_len is_at word) (length word)) [
  | inl l ↦ record {
    origin = before_first is_at word;
    flavor = Some (after_first is_at word);
    origin_form = o;
    flavor_form = h;
    spelled = split_at_first is_at word 0 l ∙ ap (λ b. before_first is_at word ++ b ∷ after_first is_at word) (at_there word l);
  }
  | inr g ↦ absurd (no_flavor h (drop_all (position_or_len is_at word + 1) word (omega arith)))
]

-- a test that passes gives the node
pub IsNode-from_test : (word : List ℕ) → is_node word ≡ true → IsNode word
IsNode-from_test word h =
    let parts = and_parts (is_origin (before_first is_at word)) (at_end word || is_flavor (after_first is_at word)) h in
    end_case word (at_end word) refl (IsOrigin-from_test (before_first is_at word) parts.0) parts.1

at_length : (n m : ℕ) → n ≡ m → (n == m) ≡ true
at_length n m e = grind (arith, nat_tests)

plain_passes : (origin : List ℕ) → IsOrigin origin → is_node origin ≡ true
plain_passes origin o =
    let place : position_or_len is_at origin ≡ length origin = place_none is_at origin (origin_no_at origin o) in
    let whole : before_first is_at origin ≡ origin = take_all (position_or_len is_at origin) origin (omega (arith, place)) in
    together (is_origin (before_first is_at origin)) (at_end origin || is_flavor (after_first is_at origin))
    (ap is_origin whole ∙ test-from_IsOrigin origin o) (ap (λ b. b || is_flavor (after_first is_at origin)) (at_length _ _ place))

or_second : (a b : Bool) → b ≡ true → (a || b) ≡ true
or_second a b h = grind arith

flavored_passes : (origin flavor : List ℕ) → IsOrigin origin → is_flavor flavor ≡ true → is_node (origin ++ 64 ∷ flavor) ≡ true
flavored_passes origin flavor o f =
    let clear : none is_at origin ≡ true = origin_no_at origin o in
    let word : List ℕ = origin ++ 64 ∷ flavor in
    together (is_origin (before_first is_at word)) (at_end word || is_flavor (after_first is_at word))
    (ap is_origin (before_separator is_at origin 64 flavor clear refl) ∙ test-from_IsOrigin origin o)
    (or_second (at_end word) (is_flavor (after_first is_at word)) (ap is_flavor (after_separator is_at origin 64 flavor clear refl) ∙ f))

by_flavor : (origin : List ℕ) (flavor : Option (List ℕ)) → IsOrigin origin → Rattle.std.specs.Prelude.IfSome flavor (λ f. is_flavor f ≡ true) → is_node (node_of origin flavor) ≡ true
by_flavor origin None o f = plain_passes origin o
by_flavor origin (Some flavor) o f = flavored_passes origin flavor o f

-- a node passes the test
pub test-from_IsNode : (word : List ℕ) → IsNode word → is_node word ≡ true
test-from_IsNode word n = ap is_node n.spelled ∙ by_flavor n.origin n.flavor n.origin_form n.flavor_form

-- a test that is known decides
pub origin_refused : (word : List ℕ) → is_origin word ≡ false → ¬ (IsOrigin word)
origin_refused word h = λ o. true≢false (sym (test-from_IsOrigin word o) ∙ h)

pub node_form : (word : List ℕ) (r : Bool) → r ≡ is_node word → Rattle.std.proofs.Common.IsTrue r ↔ IsNode word
node_form word r e = (λ t. IsNode-from_test word (sym e ∙ t), λ n. e ∙ test-from_IsNode word n)

pub origin_form : (word : List ℕ) (r : Bool) → r ≡ is_origin word → Rattle.std.proofs.Common.IsTrue r ↔ IsOrigin word
origin_form word r e = (λ t. IsOrigin-from_test word (sym e ∙ t), λ o. e ∙ test-from_IsOrigin word o)

-- what stands on either side of the slash, as slices give it
pub front_is : (word : List ℕ) (slash : ℕ) → slash ≡ position_or_len is_slash word → take slash word ≡ before_first is_slash word
front_is word slash e = ap (λ n. take n word) e

pub back_is : (word : List ℕ) (slash : ℕ) → slash ≡ position_or_len is_slash word → take (length word - (slash + 1)) (drop (slash + 1) word) ≡ after_first is_slash word
back_is word slash e = take_rest word (slash + 1) ∙ ap (λ n. drop (n + 1) word) e

pub names_in_form : (word : List ℕ) → is_origin word ≡ true → (is_port_name (before_first is_slash word) ≡ true) × (is_port_name (after_first is_slash word) ≡ true)
names_in_form word h = and_parts (is_port_name (before_first is_slash word)) (is_port_name (after_first is_slash word)) h
