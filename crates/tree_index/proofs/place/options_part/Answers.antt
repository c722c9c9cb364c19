use Rattle.std.proofs.Common.{◌≡◌, true, sym, subst}
use Rattle.bulk_base.specs.Path.{is_path}
use Rattle.tree_index.proofs.OneParts.{pair_is_path}
use Rattle.tree_index.proofs.place.options_part.Goals as goal

pub of_text-requires : goal.of_text-requires
of_text-requires c =
    let origin = c.args.origin.now in
    subst (λ bytes. is_path bytes ≡ true) (sym c.in_ok-joined_by.ensures) (pair_is_path origin.category origin.port c.requires.category c.requires.port)
