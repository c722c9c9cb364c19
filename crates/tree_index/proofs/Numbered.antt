-- The numbers of nodes, by the names that mean them.
use Rattle.std.proofs.Common.{◌≡◌, ℕ, ◌+◌, ◌<◌, ◌≤◌, Bool, true, false, List, [], ◌∷◌, ◌++◌, length, take, get_or, arith, ◌∙◌, ap, refl, sym, cond, subst, nat_lt, eqb}
use Rattle.std.specs.Prelude.{Option, Some, None, position, bytes_eq, ◌||◌, ◌&&◌}
use Rattle.std.specs.Borrow.{Bor}
use Rattle.std.specs.Option.{option_or, option_copied, is_some}
use Rattle.std.specs.List.{position_or_len}
use Rattle.std.specs.Ordering.{nat_cmp}
use Rattle.std.specs.Cmp.Lexicographic.{slice_cmp, nat_list_cmp_total, texts_ties}
use Rattle.std.specs.FinMap as map
use Rattle.std.specs.FinMap.{get-insert}
use Rattle.std.proofs.lemmas.List.{length-append, length-take, take_more}
use Rattle.std.proofs.lemmas.List.Folds.{position_or_len_push}
use Rattle.std.proofs.lemmas.List.Sums.{prefix_len-le-length}
use Rattle.std.proofs.lemmas.Slice.Eq.{bytes_eq-Decides}
use Rattle.std.proofs.lemmas.Bool.Decides.{nat_tests}
use Rattle.tree_index.specs.declared.node.NodeInfo.{NodeInfo}
use Rattle.tree_index.specs.Places.{origin_name}
use Rattle.tree_index.specs.Targets.{is_meant}
use Rattle.tree_index.specs.Numbers.{Numbers, IsNumbering, Gains}

or_none : {X : Type 0} (o : Option X) → option_or o None ≡ o
or_none None = refl
or_none (Some x) = refl

push_case : (n size m : ℕ) (t : Bool) → n ≤ size → m ≡ cond (eqb n size) (size + cond t 0 1) n
    → cond (nat_lt m (size + 1)) (Some m) None ≡ option_or (cond (nat_lt n size) (Some n) None) (cond t (Some size) None)
push_case n size m t h e = grind (arith, nat_tests)

-- the first place at which a test passes, in a list with an element more
position_push : {X : Type 0} (p : X → Bool) (xs : List X) (y : X) → position p (xs ++ y ∷ []) ≡ option_or (position p xs) (cond (p y) (Some (length xs)) None)
position_push p xs y =
    ap (λ size. cond (nat_lt (position_or_len p (xs ++ y ∷ [])) size) (Some (position_or_len p (xs ++ y ∷ []))) None) (length-append xs (y ∷ []))
    ∙ push_case (position_or_len p xs) (length xs) (position_or_len p (xs ++ y ∷ [])) (p y) (prefix_len-le-length _ xs) (position_or_len_push p xs y)

pub no_numbers : (numbers : Numbers) → numbers ≡ map.empty → IsNumbering [] numbers
no_numbers numbers e = λ name. ap (λ m. map.get m name) e ∙ map.get-empty (slice_cmp nat_cmp) name

-- a node more, whose names that had no number gain its number
pub numbering_push : (done : List NodeInfo) (info : NodeInfo) (old new : Numbers) → IsNumbering done old → Gains old (λ name. is_meant name info) (length done) new
    → IsNumbering (done ++ info ∷ []) new
numbering_push done info old new so_far gains = λ name.
    gains name ∙ ap (λ o. option_or o (cond (is_meant name info) (Some (length done)) None)) (so_far name) ∙ sym (position_push (is_meant name) done info)

-- the same of the nodes before a place and the one there
pub numbering_at : (nodes : List NodeInfo) (at : ℕ) (info : NodeInfo) (old new : Numbers) → at < length nodes → info ≡ get_or nodes at info → IsNumbering (take at nodes) old
    → Gains old (λ name. is_meant name info) at new → IsNumbering (take (at + 1) nodes) new
numbering_at nodes at info old new within here so_far gains =
    let more : take (at + 1) nodes ≡ take at nodes ++ info ∷ [] = take_more nodes at info within ∙ ap (λ node. take at nodes ++ node ∷ []) (sym here) in
    let size : at ≡ length (take at nodes) = omega (arith, length-take at nodes) in
    subst (λ some. IsNumbering some new) (sym more)
    (numbering_push (take at nodes) info old new so_far (subst (λ n. Gains old (λ name. is_meant name info) n new) size gains))

get_put : (numbers : Numbers) (key : List ℕ) (number : ℕ) (name : List ℕ) → map.get (map.insert numbers key number) name ≡ cond (bytes_eq name key) (Some number) (map.get numbers name)
get_put numbers key number name =
    get-insert nat_list_cmp_total numbers key number name ∙ ap (λ b. cond b (Some number) (map.get numbers name)) (sym (texts_ties name key))

put_case : (numbers : Numbers) (key : List ℕ) (number : ℕ) → is_some (map.get numbers key) ≡ false → (name : List ℕ) (t : Bool) → bytes_eq name key ≡ t
    → cond t (Some number) (map.get numbers name) ≡ option_or (map.get numbers name) (cond t (Some number) None)
put_case numbers key number h name true e = new_case (map.get numbers name) (ap (λ text. is_some (map.get numbers text)) ((bytes_eq-Decides name key).0 e) ∙ h)
  where
    new_case : (o : Option ℕ) → is_some o ≡ false → Some number ≡ option_or o (Some number)
    new_case None e = refl
    new_case (Some x) e = cc
put_case numbers key number h name false e = sym (or_none (map.get numbers name))

-- a name that has no number gains the one that is put
pub gains_put : (numbers new : Numbers) (key : List ℕ) (number : ℕ) → is_some (map.get numbers key) ≡ false → new ≡ map.insert numbers key number
    → Gains numbers (λ name. bytes_eq name key) number new
gains_put numbers new key number h e = λ name.
    ap (λ m. map.get m name) e ∙ get_put numbers key number name ∙ put_case numbers key number h name (bytes_eq name key) refl

kept_case : (numbers : Numbers) (key : List ℕ) (number : ℕ) → is_some (map.get numbers key) ≡ true → (name : List ℕ) (t : Bool) → bytes_eq name key ≡ t
    → map.get numbers name ≡ option_or (map.get numbers name) (cond t (Some number) None)
kept_case numbers key number h name true e = has_case (map.get numbers name) (ap (λ text. is_some (map.get numbers text)) ((bytes_eq-Decides name key).0 e) ∙ h)
  where
    has_case : (o : Option ℕ) → is_some o ≡ true → o ≡ option_or o (Some number)
    has_case None e = cc
    has_case (Some x) e = refl
kept_case numbers key number h name false e = sym (or_none (map.get numbers name))

-- a name that has a number keeps it
pub gains_kept : (numbers : Numbers) (key : List ℕ) (number : ℕ) → is_some (map.get numbers key) ≡ true → Gains numbers (λ name. bytes_eq name key) number numbers
gains_kept numbers key number h = λ name. kept_case numbers key number h name (bytes_eq name key) refl

both_case : (a : Option ℕ) (s t d : Bool) (number : ℕ) → d ≡ true → option_or (option_or a (cond s (Some number) None)) (cond t (Some number) None)
    ≡ option_or a (cond (s || (d && t)) (Some number) None)
both_case None true t true number e = refl
both_case None false t true number e = refl
both_case (Some x) s t true number e = refl
both_case a s t false number e = cc

-- the names that mean a default node gain its number
pub gains_both : (old between new : Numbers) (info : NodeInfo) (number : ℕ) → info.is_default ≡ true → Gains old (λ name. bytes_eq name info.node) number between
    → Gains between (λ name. bytes_eq name (origin_name info.origin)) number new → Gains old (λ name. is_meant name info) number new
gains_both old between new info number default first second = λ name.
    second name ∙ ap (λ o. option_or o (cond (bytes_eq name (origin_name info.origin)) (Some number) None)) (first name)
    ∙ both_case (map.get old name) (bytes_eq name info.node) (bytes_eq name (origin_name info.origin)) info.is_default number default

own_case : (s t d : Bool) → d ≡ false → s ≡ (s || (d && t))
own_case true t d e = refl
own_case false t false e = refl
own_case false t true e = cc

-- the name of a node that is no default gains its number
pub gains_own : (old new : Numbers) (info : NodeInfo) (number : ℕ) → info.is_default ≡ false → Gains old (λ name. bytes_eq name info.node) number new
    → Gains old (λ name. is_meant name info) number new
gains_own old new info number default first = λ name.
    first name ∙ ap (λ b. option_or (map.get old name) (cond b (Some number) None)) (own_case (bytes_eq name info.node) (bytes_eq name (origin_name info.origin)) info.is_default default)

-- a look-up finds a value where the map has one
pub found_is : (o : Option (Bor ℕ)) (found : Option ℕ) → option_copied o ≡ found → is_some o ≡ is_some found
found_is None found e = ap is_some e
found_is (Some x) found e = ap is_some e
