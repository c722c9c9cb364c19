use Rattle.std.proofs.Common.{◌≡◌, ◌-◌, []}
use Rattle.bulk_model.specs.Facts.{IsOptionList}
use Rattle.pkg_record.specs.Reading.{items_at, option_at}
use Rattle.pkg_record.proofs.list_reader.options_of.Given as goal

abbrev pub invariant-loop : goal.invariant-loop
invariant-loop l = (items_at option_at (l.count - l.counter) l.found l.rest ≡ items_at option_at l.count [] l.bytes) × IsOptionList l.found
