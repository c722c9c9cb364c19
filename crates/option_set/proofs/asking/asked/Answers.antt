use Rattle.std.proofs.Common.{◌≡◌, ap, ◌∙◌}
use Rattle.std.specs.Prelude.{map}
use Rattle.std.proofs.Math.Path.{fun_ext}
use Rattle.std.proofs.lemmas.Result.{IfOk-weaker}
use Rattle.bulk_base.specs.declared.file.Switch.{Switch}
use Rattle.option_set.specs.Layers.{asked}
use Rattle.option_set.specs.Stack.{layered_switches}
use Rattle.option_set.proofs.asking.asked.Goals as goal

pub returns : goal.returns
returns c =
    IfOk-weaker c.apply_layers.result (λ switches. switches ≡ layered_switches c.in_ok-stack.stack c.as_slice.result.now) (λ switches. switches ≡ asked c.args.options.now c.args.default.now c.args.layers.now)
    (λ switches e. e ∙ ap (layered_switches c.in_ok-stack.stack) c.as_slice.ensures
    ∙ ap (λ on. map (λ name. let s : Switch = record { name = name; on = on name } in s) c.args.options.now) (fun_ext c.in_ok-stack.ensures)) c.apply_layers.ensures
