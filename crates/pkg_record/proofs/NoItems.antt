-- The empty lists are in form.
use Rattle.std.proofs.Common.{ℕ, [], refl}
use Rattle.std.specs.List.Sorted.{IsStrictlySortedBy}
use Rattle.std.specs.Cmp.Lexicographic.{slice_cmp}
use Rattle.std.specs.Ordering.{nat_cmp}
use Rattle.bulk_model.specs.Facts.{IsOptionList, IsRecordedList, IsFileList}

none_ascend : IsStrictlySortedBy (slice_cmp nat_cmp) []
unfolding IsStrictlySortedBy
none_ascend = tt

pub no_options : IsOptionList []
no_options = record { order = none_ascend; forms = refl }

pub no_depends : IsRecordedList []
no_depends = record { order = refl; nodes = tt; names = tt }

pub no_files : (most : ℕ) → IsFileList most []
no_files most = record { order = none_ascend; apart = refl; short = refl }
