use Rattle.path_laws.proofs.PathLists.{collides-joined_both as law}
use Rattle.path_laws.proofs.laws.joined_collide_alike.Goals as goal

pub returns : goal.returns
returns c = law
