use Rattle.std.proofs.Common.{◌≡◌, None, ap, ◌∙◌}
use Rattle.std.specs.FinMap.{keys}
use Rattle.outside.specs.Given.{content_of, first_folder}
use Rattle.tree_maker.proofs.Apart.{none_is_folder}
use Rattle.tree_maker.proofs.making.make_tree.Goals as goal

pub unreachable-requires : goal.unreachable-requires
unreachable-requires c =
    let none : first_folder (keys (content_of c.in_ok-files.files)) ≡ None =
    ap (λ files. first_folder (keys (content_of files))) c.in_ok-files.ensures ∙ none_is_folder c.args.number c.args.ports c.requires in
    let some = rw c.in-Err-NotFolder.field-0-is at c.in-Err-NotFolder.ensures.not_folder in
    cc (none, some)
