use Rattle.std.proofs.Common.{◌≡◌, ◌++◌, [], ◌∙◌, ap, codes}
use Rattle.bulk_model.specs.Lines.{line, name_lines}
use Rattle.bulk_model.specs.Views.{JobView}
use Rattle.pkg_record.proofs.Appending.{appended}
use Rattle.pkg_record.proofs.Hashing.{takes_as}
use Rattle.pkg_record.proofs.recipe_writer.add_names.Goals as goal

pub returns : goal.returns
returns c =
    let j = c.args.job.now in
    let first = line (codes "poudriere-recipe 1") in
    let names = name_lines j.name j.origin j.flavor in
    let at_first = c.put_line.new.out.items in
    let at_names = c.put_names.new.out.items in
    let a : at_first ≡ [] ++ first = c.in_ok-put_line.ensures ∙ ap (λ t. t ++ first) c.new-text.ensures.items in
    let b : at_names ≡ at_first ++ names = c.in_ok-put_names.ensures ∙ ap (λ (j : JobView). at_first ++ name_lines j.name j.origin j.flavor) c.job.view_is in
    takes_as c.args.hasher.now c.update.new.self c.as_slice.result.now (first ++ names) (c.as_slice.ensures.value ∙ appended [] first names at_first at_names a b) c.update.ensures
