use Rattle.std.proofs.Common.{◌≡◌, ◌∙◌, ap, sym, subst, refl, []}
use Rattle.std.specs.Prelude.{IfOk, IsTrue, is_some}
use Rattle.bulk_model.specs.Bake.{first_conflict, first_folder, installed, packed, phases_of, run_phases}
use Rattle.bulk_model.specs.Baked.{IsBuildOf}
use Rattle.root_clone.specs.Filled.{left_by}
use Rattle.phase_runner.specs.Running.{is_conflict}
use Rattle.phase_runner.proofs.Baking.{has_conflict, has_none, conflict_bakes, ready_bakes, is_build, is_apart}
use Rattle.phase_runner.proofs.runner.RunnerBaking.bake.Goals.{in-Conflict, in-Ready}
use Rattle.phase_runner.proofs.runner.RunnerBaking.bake.Goals as goal

pub returns-clause-built : goal.returns-clause-built
returns-clause-built g c = elim c.match-branch-3.branch [
  | in-Conflict w ↦
      let found = has_conflict (first_conflict [] (installed c.args.packages.now)) _ (sym w.in-Conflict.is ∙ c.in_ok-fill.ensures.answer) in
      subst (λ r. IfOk r (IsBuildOf g.R.Ways.Ways.tells g.R.Ways.Ways.runs c.args.base.now c.args.job.now c.args.packages.now)) (sym w.result-is)
      (record { fields = tt; told = λ t. conflict_bakes g.R.Ways.Ways.runs c.args.base.now c.args.job.now c.args.packages.now found })
  | in-Ready w ↦
      let none = has_none (first_conflict [] (installed c.args.packages.now)) (sym w.in-Ready.is ∙ c.in_ok-fill.ensures.answer) in
      let full = λ (t : IsTrue g.R.Ways.Ways.tells). c.in_ok-fill.ensures.told t ∙ ap (λ f. left_by f (first_folder c.args.base.now c.args.packages.now c.args.job.now)) w.in-Ready.is in
      subst (λ r. IfOk r (IsBuildOf g.R.Ways.Ways.tells g.R.Ways.Ways.runs c.args.base.now c.args.job.now c.args.packages.now)) (sym w.result-is)
      (is_build g.R.Ways.Ways.tells g.R.Ways.Ways.runs c.args.base.now c.args.job.now c.args.packages.now _ w.build.result w.build.ensures.fields w.build.ensures.told
      (λ t. ready_bakes g.R.Ways.Ways.runs c.args.base.now c.args.job.now c.args.packages.now (g.R.Room.folder c.fill.new.room) none (full t)))
]

pub returns-clause-conflict : goal.returns-clause-conflict
returns-clause-conflict g c = elim c.match-branch-3.branch [
  | in-Conflict w ↦
      let found = has_conflict (first_conflict [] (installed c.args.packages.now)) _ (sym w.in-Conflict.is ∙ c.in_ok-fill.ensures.answer) in
      subst (λ r. IfOk r (λ outcome. is_conflict outcome ≡ is_some (first_conflict [] (installed c.args.packages.now)))) (sym w.result-is) (sym found)
  | in-Ready w ↦
      let none = has_none (first_conflict [] (installed c.args.packages.now)) (sym w.in-Ready.is ∙ c.in_ok-fill.ensures.answer) in
      subst (λ r. IfOk r (λ outcome. is_conflict outcome ≡ is_some (first_conflict [] (installed c.args.packages.now)))) (sym w.result-is)
      (is_apart (first_conflict [] (installed c.args.packages.now)) w.build.result none w.build.ensures.apart)
]
