use Rattle.std.proofs.Common.{◌∙◌, Ok, Some, ap, sym}
use Rattle.port_vars.proofs.Changed.{put_back}
use Rattle.port_vars.specs.Assignment.{changed}
use Rattle.port_vars.specs.declared.operator.Operator.TheVariants.{Append}
use Rattle.port_vars.proofs.assignment.append_to.Goals.{in-Some, in-None+in_ok-value-in-None}
use Rattle.port_vars.proofs.assignment.append_to.Goals as goal

pub returns : goal.returns
returns c =
    put_back c.args.limit c.args.vars.now c.take.new.self c.args.name c.match-take.value c.append.new.value c.args.text.now c.take.ensures.rest
    (elim c.match-take.branch [
      | in-Some w ↦ ap (λ found. changed Append found c.args.text.now) (ap Some w.value-is ∙ w.in-Some.ensures.value)
      | in-None+in_ok-value-in-None w ↦
          ap (λ value. changed Append (Some value) c.args.text.now) (w.value-is ∙ w.in_ok-value-in-None.ensures)
          ∙ ap (λ found. changed Append found c.args.text.now) w.in-None.ensures.value
    ])
    c.in_ok-append.ensures ∙ ap Ok (sym c.in_ok-insert.ensures.ok)
