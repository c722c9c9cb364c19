use Rattle.tree_index.proofs.OneParts.{name_is_path}
use Rattle.tree_index.proofs.place.name_path.Goals as goal

pub of_text-requires : goal.of_text-requires
of_text-requires c = name_is_path c.args.name.now c.requires
