use Rattle.std.proofs.Common.{◌∙◌, sym, rules}
use Rattle.root_clone.proofs.Seen.{meets_nested, meets_itself}
use Rattle.root_clone.proofs.conflict.meets.Goals as goal

pub returns-then-nested : goal.returns-then-nested
returns-then-nested c = c.if-nested.true ∙ sym (meets_nested c.args.path.now c.args.seen.now (sym c.in_ok-nested.ensures ∙ c.if-nested.true))

pub returns-else-nested : goal.returns-else-nested
returns-else-nested c =
    let rest = meets_itself c.args.path.now c.args.seen.now (sym c.in_ok-nested.ensures ∙ c.if-nested.false) in
    c.is_some.ensures ∙ (search rules) ∙ sym rest
