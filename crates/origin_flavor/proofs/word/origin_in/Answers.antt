use Rattle.std.proofs.Common.{subst, sym}
use Rattle.bulk_base.specs.Text.{IsText}
use Rattle.origin_flavor.proofs.Pieces.{IsText-before_at, is_text-from_IsText}
use Rattle.origin_flavor.proofs.word.origin_in.Goals as goal

pub of-requires : goal.of-requires
of-requires c = is_text-from_IsText _ (IsText-before_at c.bytes-bytes.result.now c.place_or_end.result c.place_or_end.ensures.place (subst IsText (sym c.bytes-bytes.ensures.same) c.bytes-bytes.ensures.form))
