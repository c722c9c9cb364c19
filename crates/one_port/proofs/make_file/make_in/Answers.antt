use Rattle.std.proofs.Common.{◌∙◌, ap, refl}
use Rattle.conf_file.specs.declared.fault.ConfError.TheVariants.{NoMemory}
use Rattle.one_port.specs.PortsWanted.{make_file}
use Rattle.one_port.specs.TreeAnswers.{conf_answer}
use Rattle.one_port.proofs.TreeSteps.{value_told, other_fault, fault_told}
use Rattle.one_port.proofs.make_file.make_in.Goals as goal

pub returns-in-Ok-clause-told : goal.returns-in-Ok-clause-told
returns-in-Ok-clause-told c = value_told _ (conf_answer make_file) _ c.in-Ok.ensures.ok

pub returns-in-Err-clause-told : goal.returns-in-Err-clause-told
returns-in-Err-clause-told c =
    fault_told _ (conf_answer make_file) c.in-Err.fault c.conf_answer.result (λ r. c.in-Err.ensures.bad_line (other_fault (conf_answer make_file) c.in-Err.fault NoMemory r refl))
    (λ r. c.conf_answer.ensures.told r ∙ ap (λ path. conf_answer path c.in-Err.fault) c.requires)
