use Rattle.std.proofs.Common.{◌≡◌, ◌<◌, ◌∷◌, [], ◌++◌, ◌+◌, ◌∙◌, ℕ, List, ap, sym, subst, length, take, arith}
use Rattle.std.specs.FinMap as map
use Rattle.std.proofs.lemmas.List.{take_more, length-take}
use Rattle.moved_list.specs.declared.line.MovedLine.{MovedLine}
use Rattle.moved_list.specs.Moved.{IsPlaceOf}
use Rattle.moved_list.proofs.Last.{place_push, no_places}
use Rattle.moved_list.proofs.moved.last_places.Goals as goal

pub loop-at-init : goal.loop-at-init
loop-at-init c = no_places c.new-places.result c.new-places.ensures

pub loop-at-preserved : goal.loop-at-preserved
loop-at-preserved c = λ name.
    let all : List MovedLine = c.as_slice-all.result.now in
    let at : ℕ = c.loop-at.at in
    let line : MovedLine = c.index-all-at.result in
    let within : at < length all = omega arith in
    let more : take (at + 1) all ≡ take at all ++ line ∷ [] = take_more all at line within ∙ ap (λ x. take at all ++ x ∷ []) (sym c.index-all-at.is) in
    let size : length (take at all) ≡ at = omega (arith, length-take at all) in
    let put : c.insert.new.self ≡ map.insert c.loop-at.places line.from (length (take at all)) =
    c.in_ok-insert.ensures.ok ∙ ap (λ key. map.insert c.loop-at.places key at) (c.in_ok-copy.ensures ∙ ap (λ (l : MovedLine). l.from) (sym c.index-all-at.is)) ∙ ap (λ n. map.insert c.loop-at.places line.from n) (sym size) in
    subst (λ m. IsPlaceOf (take (at + 1) all) name (map.get m name)) (sym put)
    (subst (λ lines. IsPlaceOf lines name (map.get (map.insert c.loop-at.places line.from (length (take at all))) name)) (sym more) (place_push (take at all) line c.loop-at.places c.loop-at.invariant name))
