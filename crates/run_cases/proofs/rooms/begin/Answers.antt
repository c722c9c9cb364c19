use Rattle.std.proofs.Common.{subst, sym}
use Rattle.outside.specs.Contents.{IsFree}
use Rattle.outside.proofs.Listings.{is_free-empty}
use Rattle.run_cases.proofs.rooms.begin.Goals as goal

pub put-requires : goal.put-requires
put-requires c = subst (IsFree c.args.file.now) (sym c.in_ok-clear.ensures.emptied) (is_free-empty c.args.file.now)
