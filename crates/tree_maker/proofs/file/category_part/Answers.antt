use Rattle.std.proofs.Common.{◌≡◌, ◌≤◌, length, true, sym, subst, ◌∙◌}
use Rattle.bulk_base.specs.Path.{is_path}
use Rattle.bulk_base.specs.Text.{is_plain_text}
use Rattle.tree_maker.proofs.Names.{category_plain, category_path_is, category_short}
use Rattle.tree_maker.proofs.file.category_part.Goals as goal

pub literal-requires-clause-text : goal.literal-requires-clause-text
literal-requires-clause-text c =
    subst (λ name. is_plain_text name ≡ true) (sym (c.as_bytes.ensures.value ∙ c.as_str.ensures.value ∙ c.in_ok-name.ensures))
    (category_plain c.args.c c.requires)

pub literal-requires-clause-path : goal.literal-requires-clause-path
literal-requires-clause-path c =
    subst (λ name. is_path name ≡ true) (sym (c.as_bytes.ensures.value ∙ c.as_str.ensures.value ∙ c.in_ok-name.ensures))
    (category_path_is c.args.c c.requires)

pub returns-clause-short : goal.returns-clause-short
returns-clause-short c =
    subst (λ path. length path ≤ 2)
    (sym (c.in_ok-literal.ensures ∙ c.as_bytes.ensures.value ∙ c.as_str.ensures.value ∙ c.in_ok-name.ensures))
    (category_short c.args.c c.requires)
