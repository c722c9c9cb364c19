use Rattle.std.proofs.Common.{◌∙◌, sym}
use Rattle.port_desc.proofs.Texts.{node_plain}
use Rattle.port_desc.proofs.dependencies.target_behind.Goals as goal

pub literal-requires : goal.literal-requires
literal-requires c = node_plain c.args.node.now (sym c.is_node.ensures.test ∙ c.if-not-is_node.false)
