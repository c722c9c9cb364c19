use Rattle.std.proofs.Common.{◌∙◌, ap}
use Rattle.bulk_base.specs.Text.{is_text}
use Rattle.origin_flavor.proofs.Pieces.{is_text-word}
use Rattle.origin_flavor.proofs.list_file.take_line.Goals as goal

pub of-requires : goal.of-requires
of-requires c = ap is_text c.word_of-word.ensures ∙ is_text-word c.args.line.now c.requires
