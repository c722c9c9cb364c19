use Rattle.bulk_base.proofs.TextBytes.{has_text_bytes-decimal}
use Rattle.bulk_base.specs.Text.{has_text_bytes}
use Rattle.std.proofs.Common.{◌∙◌, ap}
use Rattle.bulk_base.proofs.numeral.decimal.Goals as goal

pub from_string-requires : goal.from_string-requires
from_string-requires c = ap has_text_bytes c.in_ok-to_string.ensures.ok ∙ has_text_bytes-decimal c.args.n c.ranges.n.fits
