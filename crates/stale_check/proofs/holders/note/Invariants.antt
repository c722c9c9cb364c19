use Rattle.std.proofs.Common.{◌≡◌, take}
use Rattle.std.specs.List.{list_all, list_any}
use Rattle.bulk_model.specs.Among.{is_recorded_as}
use Rattle.stale_check.specs.Recording.{AreMarks, Noted}
use Rattle.stale_check.proofs.holders.note.Given as goal

abbrev pub invariant-loop-depend : goal.invariant-loop-depend
invariant-loop-depend l = record {
  all : l.all ≡ list_all (λ depend. list_any (is_recorded_as depend) l.members) (take l.depend-index l.depends);
  noted : Noted l.members l.at (take l.depend-index l.depends) l.initial.dependents.items l.dependents.items;
  known : AreMarks l.members l.known.items;
}
