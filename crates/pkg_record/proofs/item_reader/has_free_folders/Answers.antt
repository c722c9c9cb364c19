use Rattle.std.proofs.Common.{arith}
use Rattle.std.proofs.lemmas.Grind.{common_steps}
use Rattle.bulk_model.specs.Facts.{paths_of}
use Rattle.pkg_record.proofs.Folders.{none_above, one_above}
use Rattle.pkg_record.proofs.item_reader.has_free_folders.Goals as goal

pub returns-then-has_path : goal.returns-then-has_path
returns-then-has_path c =
    grind (arith, common_steps, one_above (paths_of c.args.files.now) c.args.path.now c.loop-at.at)

pub returns : goal.returns
returns c = grind (arith, common_steps, none_above (paths_of c.args.files.now) c.args.path.now)
