use Rattle.std.proofs.Common.{◌++◌, ◌∙◌, ap, codes}
use Rattle.bulk_model.specs.Lines.{line, name_lines, option_lines, file_pieces}
use Rattle.bulk_model.specs.Recipe.{depend_lines, step_lines}
use Rattle.bulk_model.specs.Views.{JobView}
use Rattle.pkg_record.specs.Hashing.{Takes}
use Rattle.pkg_record.proofs.Hashing.{takes_both, takes_as}
use Rattle.pkg_record.proofs.recipe_writer.add_recipe.Goals as goal

pub returns : goal.returns
returns c =
    let j = c.args.job.now in
    let view = c.job.view_is in
    let before = c.args.hasher.now in
    let h0 = c.add_names.new.hasher in
    let h1 = c.add_options.new.hasher in
    let h2 = c.add_depends.new.hasher in
    let h3 = c.add_steps.new.hasher in
    let h4 = c.add_files.new.hasher in
    let h5 = c.add_files-2.new.hasher in
    let names = line (codes "poudriere-recipe 1") ++ name_lines j.name j.origin j.flavor in
    let options = option_lines j.options in
    let depends = depend_lines j.depends in
    let steps = step_lines j.steps in
    let files = file_pieces (codes "files ") j.files in
    let base = file_pieces (codes "base ") c.args.base.now in
    let a : Takes h0 options h1 = takes_as h0 h1 (option_lines c.as_slice.result.now) options (ap option_lines (c.as_slice.ensures ∙ ap (λ (j : JobView). j.options) view)) c.in_ok-add_options.ensures in
    let b : Takes h1 depends h2 = takes_as h1 h2 (depend_lines c.as_slice-2.result.now) depends (ap depend_lines (c.as_slice-2.ensures ∙ ap (λ (j : JobView). j.depends) view)) c.in_ok-add_depends.ensures in
    let d : Takes h2 steps h3 = takes_as h2 h3 (step_lines c.job.inside.steps) steps (ap (λ (j : JobView). step_lines j.steps) view) c.in_ok-add_steps.ensures in
    let e : Takes h3 files h4 = takes_as h3 h4 (file_pieces (codes "files ") c.as_slice-3.result.now) files (ap (file_pieces (codes "files ")) (c.as_slice-3.ensures ∙ ap (λ (j : JobView). j.files) view)) c.in_ok-add_files.ensures in
    let f : Takes h4 base h5 = takes_as h4 h5 (file_pieces (codes "base ") c.as_slice-4.result.now) base (ap (file_pieces (codes "base ")) c.as_slice-4.ensures) c.in_ok-add_files-2.ensures in
    takes_both before h4 h5 (names ++ options ++ depends ++ steps ++ files) base
    (takes_both before h3 h4 (names ++ options ++ depends ++ steps) files
    (takes_both before h2 h3 (names ++ options ++ depends) steps
    (takes_both before h1 h2 (names ++ options) depends
    (takes_both before h0 h1 names options c.in_ok-add_names.ensures a) b) d) e) f
