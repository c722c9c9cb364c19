use Rattle.std.proofs.Common.{◌++◌, ◌∷◌, ◌∙◌, ap, append_assoc}
use Rattle.std.specs.Prelude.{codes}
use Rattle.run_answer.proofs.kind_text.group_text.Goals as goal

pub returns : goal.returns
returns c = c.in_ok-format.ensures.ok ∙ ap (λ members. codes "option group " ++ (c.args.group.now ++ (58 ∷ members))) c.in_ok-members.ensures ∙ simp append_assoc
