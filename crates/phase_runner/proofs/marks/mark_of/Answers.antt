use Rattle.std.proofs.Common.{◌≡◌, ◌∙◌, ap, sym}
use Rattle.std.specs.FinMap.{get}
use Rattle.std.proofs.lemmas.Result.{IfOk-weaker}
use Rattle.bulk_model.specs.Bake.{mark_among}
use Rattle.phase_runner.proofs.Placing.{mark_from, mark_nowhere, place_within}
use Rattle.phase_runner.proofs.marks.mark_of.Goals as goal

pub from_place-requires : goal.from_place-requires
from_place-requires c = place_within c.args.packages.now c.args.depend.now.name (get c.args.places.now c.args.depend.now.name) c.in-Some.place.now (sym c.in-Some.ensures) (c.requires c.args.depend.now.name)

pub returns-in-Some : goal.returns-in-Some
returns-in-Some c =
    IfOk-weaker c.first_mark.result (λ digest. digest ≡ mark_among c.from_place.result.now c.args.depend.now) (λ digest. digest ≡ mark_among c.args.packages.now c.args.depend.now)
    (λ digest e. e ∙ ap (λ ps. mark_among ps c.args.depend.now) c.from_place.ensures
    ∙ mark_from c.args.packages.now c.args.depend.now (get c.args.places.now c.args.depend.now.name) c.in-Some.place.now (sym c.in-Some.ensures) (c.requires c.args.depend.now.name))
    c.first_mark.ensures

pub returns-in-None : goal.returns-in-None
returns-in-None c =
    c.none.ensures ∙ mark_nowhere c.args.packages.now c.args.depend.now (get c.args.places.now c.args.depend.now.name) (sym c.in-None.ensures) (c.requires c.args.depend.now.name)
