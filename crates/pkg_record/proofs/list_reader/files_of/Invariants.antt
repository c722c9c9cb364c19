use Rattle.std.proofs.Common.{◌≡◌, ◌-◌, []}
use Rattle.bulk_model.specs.Facts.{IsFileList}
use Rattle.pkg_record.specs.Reading.{items_at, file_at}
use Rattle.pkg_record.proofs.list_reader.files_of.Given as goal

abbrev pub invariant-loop : goal.invariant-loop
invariant-loop l = (items_at file_at (l.count - l.counter) l.found l.rest ≡ items_at file_at l.count [] l.bytes) × IsFileList 1018 l.found
