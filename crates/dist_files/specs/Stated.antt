-- What is stated of each file, counted up to twice, as a map from files.
use Rattle.std.specs.Prelude.{ℕ, List, Option, Some, None, unwrap_or}
use Rattle.std.specs.List.{fold, filter_map}
use Rattle.std.specs.Ordering.{nat_cmp}
use Rattle.std.specs.Cmp.Lexicographic.{slice_cmp}
use Rattle.std.specs.FinMap as map
use Rattle.dist_files.specs.declared.dist.Dist.{Dist}
use Rattle.dist_files.specs.declared.stated.Known.{Known}
use Rattle.dist_files.specs.declared.stated.Known.TheVariants.{Never, Once, Again}
use Rattle.dist_files.specs.declared.stated.Stated.{Stated}
use Rattle.dist_files.specs.declared.statement.Fact.{Fact}
use Rattle.dist_files.specs.declared.statement.Fact.TheVariants.{Sha256, Size}
use Rattle.dist_files.specs.declared.statement.Statement.{Statement}
use Rattle.dist_files.specs.Distinfo.{dist_of}
use Rattle.dist_files.specs.Lines.{said}

abbrev pub StatedMap : Type 0
StatedMap = map.FinMap (slice_cmp nat_cmp) Stated

-- something that is stated once more
abbrev pub once_more : {X : Type 0} → Known X → X → Known X
once_more Never x = Once x
once_more (Once y) x = Again
once_more Again x = Again

-- what is stated, where it is stated once
abbrev pub once : {X : Type 0} → Known X → Option X
once Never = None
once (Once x) = Some x
once Again = None

abbrev pub unstated : Stated
unstated = record { sha256 = Never; size = Never }

abbrev pub with_fact : Stated → Fact → Stated
with_fact stated (Sha256 digest) = record { sha256 = once_more stated.sha256 digest; size = stated.size }
with_fact stated (Size size) = record { sha256 = stated.sha256; size = once_more stated.size size }

abbrev pub stated_at : StatedMap → List ℕ → Stated
stated_at stated file = unwrap_or (map.get stated file) unstated

-- the map with one more statement
abbrev pub noted : StatedMap → Statement → StatedMap
noted stated s = map.insert stated s.file (with_fact (stated_at stated s.file) s.fact)

abbrev pub all_noted : List Statement → StatedMap
all_noted statements = fold noted map.empty statements

-- the entry of a file by the map
abbrev pub entry_at : StatedMap → List ℕ → Option Dist
entry_at stated file = dist_of file (once (stated_at stated file).sha256) (once (stated_at stated file).size)

-- the map with what a line states, if it states something
abbrev pub noted_of : StatedMap → Option Statement → StatedMap
noted_of stated None = stated
noted_of stated (Some s) = noted stated s
