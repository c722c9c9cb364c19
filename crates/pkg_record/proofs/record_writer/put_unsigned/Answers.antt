use Rattle.std.proofs.Common.{◌≡◌, ◌++◌, ◌∙◌, ap, codes}
use Rattle.bulk_model.specs.declared.version.Version.TheVariants.{Two}
use Rattle.bulk_model.specs.Digests.{hex}
use Rattle.bulk_model.specs.Lines.{line, name_lines, option_lines, file_pieces}
use Rattle.bulk_model.specs.Spelling.{recipe_line, recorded_lines}
use Rattle.bulk_model.specs.Views.{PackageView}
use Rattle.pkg_record.proofs.Appending.{appended}
use Rattle.pkg_record.proofs.record_writer.put_unsigned.Goals as goal

pub returns : goal.returns
returns c =
    let out = c.args.out.now.items in
    let p = c.args.built.now in
    let at_first = c.put_line.new.out.items in
    let at_names = c.put_names.new.out.items in
    let at_recipe = c.put_line-2.new.out.items in
    let at_options = c.put_options.new.out.items in
    let at_depends = c.put_depends.new.out.items in
    let at_files = c.put_files.new.out.items in
    let first = line (codes "poudriere-package 2") in
    let names = name_lines p.name p.origin p.flavor in
    let recipe = recipe_line Two p.recipe in
    let options = option_lines p.options in
    let depends = recorded_lines Two p.depends in
    let files = file_pieces (codes "files ") p.files in
    let view = c.built.view_is in
    let a : at_first ≡ out ++ first = c.in_ok-put_line.ensures in
    let b : at_names ≡ at_first ++ names = c.in_ok-put_names.ensures ∙ ap (λ (q : PackageView). at_first ++ name_lines q.name q.origin q.flavor) view in
    let r : at_recipe ≡ at_names ++ recipe =
    c.in_ok-put_line-2.ensures ∙ ap (λ t. at_names ++ line (codes "recipe " ++ t)) (c.bytes-2.ensures.same ∙ c.in_ok-hex.ensures ∙ ap (λ (q : PackageView). hex q.recipe) view) in
    let o : at_options ≡ at_recipe ++ options = c.in_ok-put_options.ensures ∙ ap (λ xs. at_recipe ++ option_lines xs) (c.as_slice.ensures ∙ ap (λ (q : PackageView). q.options) view) in
    let d : at_depends ≡ at_options ++ depends = c.in_ok-put_depends.ensures ∙ ap (λ xs. at_options ++ recorded_lines Two xs) (c.as_slice-2.ensures ∙ ap (λ (q : PackageView). q.depends) view) in
    let f : at_files ≡ at_depends ++ files = c.in_ok-put_files.ensures ∙ ap (λ xs. at_depends ++ file_pieces (codes "files ") xs) (c.as_slice-3.ensures ∙ ap (λ (q : PackageView). q.files) view) in
    appended out (first ++ names ++ recipe ++ options ++ depends) files at_depends at_files
    (appended out (first ++ names ++ recipe ++ options) depends at_options at_depends
    (appended out (first ++ names ++ recipe) options at_recipe at_options
    (appended out (first ++ names) recipe at_names at_recipe (appended out first names at_first at_names a b) r) o) d) f
