-- What holds of any two records (docs/FORMATS.md).
use Rattle.std.specs.Prelude.{◌≡◌, ℕ, List, [], ◌++◌}
use Rattle.bulk_model.specs.declared.version.Version.{Version}
use Rattle.bulk_model.specs.Spelling.{signed}
use Rattle.bulk_model.specs.Views.{PackageView}
use Rattle.pkg_record.specs.Laws.{HasRecord}
use Rattle.pkg_record.specs.Reading.{answer}

-- where a record is another with more behind it, nothing is behind it, and both are answered alike: as the same package, or
-- as the same name of version 1
abbrev pub NoRecordBeginsAnother : Type 0
NoRecordBeginsAnother =
    (v w : Version) (p q : PackageView) (more : List ℕ) → HasRecord v p → HasRecord w q
    → signed w q ≡ signed v p ++ more → (more ≡ []) × (answer v p ≡ answer w q)
