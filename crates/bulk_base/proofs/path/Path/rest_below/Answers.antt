use Rattle.std.proofs.Common.{◌∙◌, ap}
use Rattle.bulk_base.specs.Text.{is_text}
use Rattle.bulk_base.specs.Path.{is_path}
use Rattle.bulk_base.proofs.Paths.{is_path-below, is_text-below, rest_as_slice}
use Rattle.bulk_base.proofs.path.Path.rest_below.Goals as goal

pub of-requires-clause-text : goal.of-requires-clause-text
of-requires-clause-text c =
    ap is_text (rest_as_slice c.bytes.result.now c.args.self.now c.bytes-2.result.now c.args.folder.now c.bytes.ensures.same c.bytes-2.ensures.same)
    ∙ is_text-below c.args.folder.now c.args.self.now c.requires c.bytes.ensures.text

pub of-requires-clause-path : goal.of-requires-clause-path
of-requires-clause-path c =
    ap is_path (rest_as_slice c.bytes.result.now c.args.self.now c.bytes-2.result.now c.args.folder.now c.bytes.ensures.same c.bytes-2.ensures.same)
    ∙ is_path-below c.args.folder.now c.args.self.now c.requires c.bytes.ensures.form
