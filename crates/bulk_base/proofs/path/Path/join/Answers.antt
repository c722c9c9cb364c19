use Rattle.std.proofs.Common.{◌≤◌, ◌∷◌, ◌∙◌, ap, arith, length}
use Rattle.std.proofs.lemmas.List.{length-append}
use Rattle.bulk_base.specs.Path.{is_path, joined}
use Rattle.bulk_base.specs.Text.{has_text_bytes}
use Rattle.bulk_base.proofs.Paths.{has_text_bytes-joined, is_path-joined}
use Rattle.bulk_base.proofs.path.Path.join.Goals as goal

pub from_string-requires : goal.from_string-requires
from_string-requires c =
    ap has_text_bytes c.in_ok-format.ensures.ok ∙ has_text_bytes-joined c.args.self.now c.args.rest.now c.bytes-folder.ensures.text.1 c.bytes-below.ensures.text.1

pub invariant_of-result : goal.invariant_of-result
invariant_of-result c =
    let short : length (joined c.args.self.now c.args.rest.now) ≤ 1024 =
    omega (arith, length-append c.args.self.now (47 ∷ c.args.rest.now), ap length c.bytes-folder.ensures.same, ap length c.bytes-below.ensures.same) in
    ap is_path (c.from_string.ensures ∙ c.in_ok-format.ensures.ok) ∙ is_path-joined c.args.self.now c.args.rest.now c.bytes-folder.ensures.form c.bytes-below.ensures.form short
