-- What is noted of a dependency's line, as what a package records.
use Rattle.bulk_model.specs.declared.depend.Recorded.{Recorded}
use Rattle.pkg_record.specs.declared.words.Noted.{Noted}
use Rattle.pkg_record.specs.Said.{recorded}

abbrev pub recorded_of : Noted → Recorded
recorded_of x = recorded x.kind x.node.now x.name.now x.digest
