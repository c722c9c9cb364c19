use Rattle.std.proofs.Common.{◌∙◌, ap}
use Rattle.std.specs.FinMap.{keys}
use Rattle.bulk_model.specs.Bake.{first_conflict, installed}
use Rattle.root_clone.proofs.Seen.{keys-empty}
use Rattle.root_clone.proofs.conflict.find_conflict.Goals as goal

pub loop-package-init : goal.loop-package-init
loop-package-init c =
    ap (λ m. first_conflict (keys m) (installed c.args.packages.now)) c.new-seen.ensures
    ∙ ap (λ ks. first_conflict ks (installed c.args.packages.now)) (keys-empty _)
