use Rattle.path_laws.proofs.PathLists.{IsPathList-rest as law}
use Rattle.path_laws.proofs.laws.rests_are_lists.Goals as goal

pub returns : goal.returns
returns c = law
