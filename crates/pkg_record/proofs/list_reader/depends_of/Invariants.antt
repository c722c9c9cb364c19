use Rattle.std.proofs.Common.{◌≡◌, ◌-◌, []}
use Rattle.bulk_model.specs.Facts.{IsRecordedList}
use Rattle.pkg_record.specs.Reading.{items_at, depend_at}
use Rattle.pkg_record.proofs.list_reader.depends_of.Given as goal

abbrev pub invariant-loop : goal.invariant-loop
invariant-loop l = (items_at (depend_at l.version) (l.count - l.counter) l.found l.rest ≡ items_at (depend_at l.version) l.count [] l.bytes) × IsRecordedList l.found
