use Rattle.std.proofs.Common.{◌∙◌, ap, sym}
use Rattle.std.specs.Prelude.{◌&&◌, bytes_eq}
use Rattle.bulk_model.specs.Views.{PackageView, node_of_package}
use Rattle.stale_check.specs.Placing.{member_at}
use Rattle.stale_check.proofs.Holding.{holder_none, holder_other, not_named}
use Rattle.stale_check.proofs.holder.holder.Goals as goal

pub returns-in_default-clause-holder : goal.returns-in_default-clause-holder
returns-in_default-clause-holder c =
    holder_none c.args.members.now c.args.places.now c.requires.places c.requires.names c.args.depend.now (sym c.place_of.ensures.is ∙ c.in_default.is)

pub returns-then-not-is_named-clause-holder : goal.returns-then-not-is_named-clause-holder
returns-then-not-is_named-clause-holder c =
    holder_other c.args.members.now c.args.places.now c.requires.places c.requires.names c.args.depend.now c.in-Some.at (sym c.place_of.ensures.is ∙ c.in-Some.is)
    (not_named c.args.depend.now (member_at c.args.members.now c.in-Some.at)
    (sym (c.is_named.ensures ∙ ap (λ (m : PackageView). bytes_eq c.args.depend.now.node (node_of_package m) && bytes_eq c.args.depend.now.name m.name) c.member.ensures) ∙ c.if-not-is_named.true))
