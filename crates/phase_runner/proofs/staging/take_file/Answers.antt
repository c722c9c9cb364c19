use Rattle.std.proofs.Common.{◌≡◌, ℕ, List, ◌∙◌, ap, sym, Vec, Global}
use Rattle.std.specs.Prelude.{Some}
use Rattle.std.specs.Option.{option_map}
use Rattle.std.specs.FinMap.{get}
use Rattle.phase_runner.specs.Staged.{taken_of}
use Rattle.phase_runner.proofs.Cutting.{taken_of-first}
use Rattle.phase_runner.proofs.staging.take_file.Goals as goal

pub returns-in_ok-path-in-Some-clause-told : goal.returns-in_ok-path-in-Some-clause-told
returns-in_ok-path-in-Some-clause-told g c t =
    c.within.ensures
    ∙ (λ k. taken_of c.args.left (Some (record { path = c.in_ok-path-in-Some.ensures.path k; bytes = c.from_vec-bytes.ensures k })))
    ∙ taken_of-first c.args.left _ c.in-Some.bytes.items (get (g.R.Room.folder c.args.room.now) c.args.path.now)
    (ap (option_map (λ (b : Vec ℕ Global). b.items)) (sym c.in-Some.is) ∙ c.in_ok-bytes.ensures.told t)
