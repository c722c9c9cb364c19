use Rattle.std.proofs.Common.{◌≡◌, ◌++◌, subst, OnOk}
use Rattle.std.specs.String.{string_bytes}
use Rattle.tree_maker.proofs.Lines.{build_few, build_three}
use Rattle.tree_maker.proofs.port.push_to_build.Goals as goal

pub returns-in-len1 : goal.returns-in-len1
returns-in-len1 c =
    subst (λ line. OnOk c.push_depends.result (string_bytes c.push_depends.new.text ≡ string_bytes c.args.text.now ++ line))
    (build_few c.args.targets.now c.in-len1.len_at_least c.in-len1.len_below) c.push_depends.ensures

pub returns-in-len3-up : goal.returns-in-len3-up
returns-in-len3-up c =
    subst (λ line. OnOk c.push_depends-in-len3-up.result (string_bytes c.push_depends-in-len3-up.new.text ≡ string_bytes c.args.text.now ++ line))
    (build_three c.args.targets.now c.in-len3-up.len_at_least) c.push_depends-in-len3-up.ensures
