-- The places of packages by their names.
use Rattle.std.proofs.Common.{◌≡◌, ℕ, ◌+◌, ◌<◌, ◌≤◌, Bool, true, false, List, [], ◌∷◌, ◌++◌, ap, subst, sym, ◌∙◌, refl, arith, length, take, drop, get_or}
use Rattle.std.specs.Prelude.{Option, Some, None, cond, ◌||◌, ◌&&◌, bytes_eq}
use Rattle.std.specs.Option.{option_or, option_map_or, option_copied, is_some, unwrap_or}
use Rattle.std.specs.Borrow.{Bor}
use Rattle.std.specs.List.{list_any, find}
use Rattle.std.specs.Ordering.{nat_cmp}
use Rattle.std.specs.Cmp.Lexicographic.{slice_cmp, nat_list_cmp_total, texts_ties}
use Rattle.std.specs.FinMap as map
use Rattle.std.proofs.lemmas.List.{take_more, take-append-drop, take_all}
use Rattle.std.proofs.lemmas.List.Folds.{find-append, list_any-append}
use Rattle.std.proofs.lemmas.Slice.Eq.{bytes_eq-Decides}
use Rattle.bulk_model.specs.Digests.{no_digest}
use Rattle.bulk_model.specs.Bake.{mark_among}
use Rattle.bulk_model.specs.Spelling.{mark}
use Rattle.bulk_model.specs.Views.{PackageView, node_of_package}
use Rattle.bulk_model.specs.declared.depend.Depend.{Depend}
use Rattle.phase_runner.specs.Marks.{is_meant, is_named, IsPlace, ArePlaces}

or_false : (a b : Bool) → (a || (b || false)) ≡ (a || b)
or_false a b = grind arith

each_false : (a b : Bool) → (a || b) ≡ false → (a ≡ false) × (b ≡ false)
each_false a b e = (grind arith, grind arith)

neither : (a b : Bool) → b ≡ false → (a && b) ≡ false
neither a b e = grind arith

-- one more package is seen, and its name gets its place where it had none
one_named : (packages : List PackageView) (i : ℕ) (name : List ℕ) (old : Option ℕ) (b : Bool) → i < length packages → list_any (is_named name) (take (i + 1) packages) ≡ (list_any (is_named name) (take i packages) || b)
    → IsPlace i packages name old → IsPlace (i + 1) packages name (option_or old (cond b (Some i) None))
one_named packages i name (Some at) b l e h = h
one_named packages i name None true l e h = (l, h)
one_named packages i name None false l e h = e ∙ ap (λ b. b || false) h

pub place_next : (packages : List PackageView) (i : ℕ) (p : PackageView) (old new : map.FinMap (slice_cmp nat_cmp) ℕ) (key : List ℕ) → i < length packages → key ≡ (get_or packages i p).name
    → ((name : List ℕ) → map.get new name ≡ option_or (map.get old name) (cond (bytes_eq name key) (Some i) None))
    → ArePlaces i packages old → ArePlaces (i + 1) packages new
place_next packages i p old new key l k gains h = λ name.
    let more : list_any (is_named name) (take (i + 1) packages) ≡ (list_any (is_named name) (take i packages) || bytes_eq name key) =
    ap (list_any (is_named name)) (take_more packages i p l)
    ∙ list_any-append (is_named name) (take i packages) (get_or packages i p ∷ [])
    ∙ ap (λ x. list_any (is_named name) (take i packages) || (bytes_eq name x || false)) (sym k)
    ∙ or_false (list_any (is_named name) (take i packages)) (bytes_eq name key) in
    subst (IsPlace (i + 1) packages name) (sym (gains name)) (one_named packages i name (map.get old name) (bytes_eq name key) l more (h name))

or_none : (o : Option ℕ) → o ≡ option_or o None
or_none None = refl
or_none (Some n) = refl

-- a name that has no place gains one
gained : (places : map.FinMap (slice_cmp nat_cmp) ℕ) (key : List ℕ) (at : ℕ) → map.get places key ≡ None → (name : List ℕ)
    → map.get (map.insert places key at) name ≡ option_or (map.get places name) (cond (bytes_eq name key) (Some at) None)
gained places key at none name =
    map.get-insert nat_list_cmp_total places key at name
    ∙ ap (λ b. cond b (Some at) (map.get places name)) (sym (texts_ties name key))
    ∙ elim (bytes_eq name key) as (λ b. bytes_eq name key ≡ b → cond b (Some at) (map.get places name) ≡ option_or (map.get places name) (cond b (Some at) None)) [
      | true ↦ λ e. sym (ap (λ o. option_or o (Some at)) (ap (map.get places) ((bytes_eq-Decides name key).0 e) ∙ none))
      | false ↦ λ e. or_none (map.get places name)
    ] refl

none_is : (o : Option ℕ) → is_some o ≡ false → o ≡ None
none_is None e = refl
none_is (Some n) e = absurd cc

pub found_is : (found : Option (Bor ℕ)) (o : Option ℕ) → option_copied found ≡ o → is_some found ≡ is_some o
found_is None o e = ap is_some e
found_is (Some n) o e = ap is_some e

pub gains_put : (places now : map.FinMap (slice_cmp nat_cmp) ℕ) (key : List ℕ) (at : ℕ) → is_some (map.get places key) ≡ false → now ≡ map.insert places key at → (name : List ℕ)
    → map.get now name ≡ option_or (map.get places name) (cond (bytes_eq name key) (Some at) None)
gains_put places now key at none e name = ap (λ m. map.get m name) e ∙ gained places key at (none_is (map.get places key) none) name

kept_or : (o : Option ℕ) (n : Option ℕ) → is_some o ≡ true → o ≡ option_or o n
kept_or (Some m) n e = refl
kept_or None n e = absurd cc

pub gains_kept : (places : map.FinMap (slice_cmp nat_cmp) ℕ) (key : List ℕ) (at : ℕ) → is_some (map.get places key) ≡ true → (name : List ℕ)
    → map.get places name ≡ option_or (map.get places name) (cond (bytes_eq name key) (Some at) None)
gains_kept places key at some name =
    elim (bytes_eq name key) as (λ b. bytes_eq name key ≡ b → map.get places name ≡ option_or (map.get places name) (cond b (Some at) None)) [
      | true ↦ λ e. kept_or (map.get places name) (Some at) (ap (λ k. is_some (map.get places k)) ((bytes_eq-Decides name key).0 e) ∙ some)
      | false ↦ λ e. or_none (map.get places name)
    ] refl

pub no_places : (packages : List PackageView) (places : map.FinMap (slice_cmp nat_cmp) ℕ) → places ≡ map.empty → ArePlaces 0 packages places
no_places packages places e = λ name. subst (IsPlace 0 packages name) (sym (ap (λ m. map.get m name) e ∙ map.get-empty (slice_cmp nat_cmp) name)) refl

-- what a dependency means does not stand among packages of other names
none_meant : (depend : Depend) (packages : List PackageView) → list_any (is_named depend.name) packages ≡ false → find (is_meant depend) packages ≡ None
none_meant depend [] h = refl
none_meant depend (p ∷ packages) h =
    let parts = each_false (is_named depend.name p) (list_any (is_named depend.name) packages) h in
    ap (λ b. cond b (Some p) (find (is_meant depend) packages)) (neither (bytes_eq depend.node (node_of_package p)) (is_named depend.name p) parts.0) ∙ none_meant depend packages parts.1

-- so its record is found from its name's place on, and not at all where its name has none
pub mark_from : (packages : List PackageView) (depend : Depend) (place : Option ℕ) (at : ℕ) → place ≡ Some at → IsPlace (length packages) packages depend.name place
    → mark_among (drop at packages) depend ≡ mark_among packages depend
mark_from packages depend None at e h = absurd cc
mark_from packages depend (Some other) at e h =
    let same : other ≡ at = ap (λ o. unwrap_or o 0) e in
    ap (λ o. option_map_or mark o no_digest)
    (sym (ap (find (is_meant depend)) (sym (take-append-drop at packages))
    ∙ find-append (is_meant depend) (take at packages) (drop at packages)
    ∙ ap (λ o. option_or o (find (is_meant depend) (drop at packages)))
    (none_meant depend (take at packages) (ap (λ n. list_any (is_named depend.name) (take n packages)) (sym same) ∙ h.1))))

pub mark_nowhere : (packages : List PackageView) (depend : Depend) (place : Option ℕ) → place ≡ None → IsPlace (length packages) packages depend.name place → no_digest ≡ mark_among packages depend
mark_nowhere packages depend (Some at) e h = absurd cc
mark_nowhere packages depend None e h =
    sym (ap (λ o. option_map_or mark o no_digest) (none_meant depend packages (ap (list_any (is_named depend.name)) (sym (take_all (length packages) packages (omega arith))) ∙ h)))

pub place_within : (packages : List PackageView) (name : List ℕ) (place : Option ℕ) (at : ℕ) → place ≡ Some at → IsPlace (length packages) packages name place → at < length packages
place_within packages name None at e h = absurd cc
place_within packages name (Some other) at e h = subst (λ n. n < length packages) (ap (λ o. unwrap_or o 0) e) h.0
