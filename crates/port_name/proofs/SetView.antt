-- A tree set of texts, asked by the texts' bytes.
use Rattle.std.proofs.Common.{◌≡◌, ℕ, Bool, true, false, List, [], ◌∷◌, ◌++◌, ap, sym, ◌∙◌, arith}
use Rattle.std.specs.Prelude.{cond, ◌||◌, bytes_eq}
use Rattle.std.specs.declared.cmp.Ordering.{Ordering}
use Rattle.std.specs.Ordering.{nat_cmp}
use Rattle.std.specs.Cmp.{eq_by_cmp_equiv}
use Rattle.std.specs.Cmp.Lexicographic.{slice_cmp, nat_list_cmp_total, texts_ties}
use Rattle.std.specs.List.{list_any}
use Rattle.std.specs.BTreeMap.{is_at}
use Rattle.std.specs.BTreeSet as tree
use Rattle.std.proofs.lemmas.List.Folds.{list_any-append}
use Rattle.port_name.specs.Sets.{is_among}

abbrev pub order : List ℕ → List ℕ → Ordering
order = slice_cmp nat_cmp

pub among_keys : (name : List ℕ) (keys : List (List ℕ)) → list_any (is_at (order name)) keys ≡ is_among keys name
among_keys name [] = Rattle.std.proofs.Common.refl
among_keys name (key ∷ keys) = ap (λ b. b || list_any (is_at (order name)) keys) (sym (texts_ties name key)) ∙ ap (λ b. bytes_eq name key || b) (among_keys name keys)

turned : (key name : List ℕ) → is_at (order key) name ≡ bytes_eq name key
turned key name = (eq_by_cmp_equiv nat_list_cmp_total).symm key name ∙ sym (texts_ties name key)

one_more : (t b : Bool) → cond t true b ≡ (b || (t || false))
one_more t b = grind arith

-- a set into which a name is put has what it had and the name
pub among_push : (old new : tree.BTreeSet (List ℕ)) (done : List (List ℕ)) (key : List ℕ) → tree.Updates order old new key true
    → ((name : List ℕ) → is_among old.keys name ≡ is_among done name) → (name : List ℕ) → is_among new.keys name ≡ is_among (done ++ key ∷ []) name
among_push old new done key h so_far name =
    sym (among_keys name new.keys) ∙ h.0 name
    ∙ ap (λ b. cond b true (tree.contains order old name)) (turned key name)
    ∙ ap (cond (bytes_eq name key) true) (among_keys name old.keys ∙ so_far name)
    ∙ one_more (bytes_eq name key) (is_among done name)
    ∙ sym (list_any-append (bytes_eq name) done (key ∷ []))
