use Rattle.std.proofs.Common.{◌∷◌, ap, sym, ◌∙◌}
use Rattle.std.specs.Prelude.{bytes_eq}
use Rattle.stale_check.proofs.Prefixes.{skip_front, no_front}
use Rattle.stale_check.proofs.holder.is_flavored_node.Goals as goal

pub returns-in-Some : goal.returns-in-Some
returns-in-Some c =
    c.is_flavored.ensures ∙ ap (λ xs. bytes_eq xs (64 ∷ c.args.flavor.now)) c.in-Some.ensures.cases.1 ∙ skip_front c.args.origin.now c.args.node.now (64 ∷ c.args.flavor.now) c.in-Some.ensures.cases.0

pub returns-in-None : goal.returns-in-None
returns-in-None c = sym (no_front c.args.origin.now c.args.node.now (64 ∷ c.args.flavor.now) c.in-None.ensures.cases)
