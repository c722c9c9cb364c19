use Rattle.std.proofs.Common.{◌∙◌, sym, ap, List, ℕ}
use Rattle.std.specs.Prelude.{◌||◌}
use Rattle.std.specs.List.{list_any}
use Rattle.std.specs.FinMap as map
use Rattle.bulk_base.specs.Path.{is_below}
use Rattle.bulk_base.proofs.Above.{any_nested}
use Rattle.bulk_base.proofs.path_map.PathMap.has_nested.Goals as goal

pub returns-then-branch : goal.returns-then-branch
returns-then-branch g c =
    c.if-branch.true ∙ sym (ap (λ b. b || list_any (λ o. is_below o c.args.path.now) (map.keys c.args.self.now)) (sym c.in_ok-has_below.ensures ∙ c.if-branch.true)) ∙ sym (any_nested c.args.path.now (map.keys c.args.self.now))

pub returns-in_ok-has_above : goal.returns-in_ok-has_above
returns-in_ok-has_above g c =
    c.in_ok-has_above.ensures ∙ sym (ap (λ b. b || list_any (λ o. is_below o c.args.path.now) (map.keys c.args.self.now)) (sym c.in_ok-has_below.ensures ∙ c.if-branch.false)) ∙ sym (any_nested c.args.path.now (map.keys c.args.self.now))
