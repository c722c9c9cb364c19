use Rattle.std.proofs.Common.{take, length, arith, sym, ap, ◌∙◌}
use Rattle.std.proofs.lemmas.Grind.{common_steps}
use Rattle.std.specs.FinMap as map
use Rattle.bulk_base.proofs.Above.{none_above, one_above}
use Rattle.bulk_base.proofs.path_map.PathMap.has_above.Goals as goal

pub returns-then-has_text : goal.returns-then-has_text
returns-then-has_text g c =
    grind (arith, common_steps, one_above (map.keys c.args.self.now) c.args.path.now c.loop-at.at, map.contains_key-keys c.args.self.now (take c.loop-at.at c.args.path.now))

pub returns : goal.returns
returns g c =
    sym (none_above (map.keys c.args.self.now) c.args.path.now (λ k l e.
    sym (map.contains_key-keys c.args.self.now (take k c.args.path.now)) ∙ c.loop-at.invariant k (omega (arith, ap length c.bytes-bytes.ensures.same)) e))
