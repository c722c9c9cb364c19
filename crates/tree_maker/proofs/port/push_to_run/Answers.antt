use Rattle.std.proofs.Common.{◌≡◌, ◌++◌, subst, OnOk}
use Rattle.std.specs.String.{string_bytes}
use Rattle.tree_maker.proofs.Lines.{run_two}
use Rattle.tree_maker.proofs.port.push_to_run.Goals as goal

pub returns-in-len2-up : goal.returns-in-len2-up
returns-in-len2-up c =
    subst (λ line. OnOk c.push_depends.result (string_bytes c.push_depends.new.text ≡ string_bytes c.args.text.now ++ line))
    (run_two c.args.targets.now c.in-len2-up.len_at_least) c.push_depends.ensures
