-- The usage lines (docs/FORMATS.md, "The words of a command").
use Rattle.std.specs.Prelude.{ℕ, List, codes}
use Rattle.command_words.specs.declared.asked.CommandName.{CommandName}
use Rattle.command_words.specs.declared.asked.CommandName.TheVariants.{Bulk, PkgClean, TestPort, DistClean, Publish}

abbrev pub usage_of : CommandName → List ℕ
usage_of Bulk = codes "usage: poudriere bulk [-acCnT] [-f path] [-J n] [origin ...]"
usage_of PkgClean = codes "usage: poudriere pkgclean [-an] [-f path] [origin ...]"
usage_of TestPort = codes "usage: poudriere testport origin"
usage_of DistClean = codes "usage: poudriere distclean [-n]"
usage_of Publish = codes "usage: poudriere publish"
