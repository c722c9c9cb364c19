use Rattle.std.proofs.Common.{◌∙◌, ap, sym}
use Rattle.bulk_base.specs.Path.{is_slash}
use Rattle.bulk_base.specs.Text.{is_plain_text}
use Rattle.bulk_base.specs.Names.{is_port_name, origin_of}
use Rattle.std.specs.List.{before_first, after_first}
use Rattle.port_name.proofs.Plain.{port_name_plain}
use Rattle.port_name.proofs.Origins.{front_is, back_is, names_in_form, origin_spelled}
use Rattle.port_name.proofs.word.parted.Goals as goal

pub literal-requires : goal.literal-requires
literal-requires c =
    let word = c.args.word.now in
    ap is_plain_text (front_is word c.args.slash c.requires.place) ∙ port_name_plain (before_first is_slash word) (names_in_form word c.requires.form).0

pub literal-requires-2 : goal.literal-requires-2
literal-requires-2 c =
    let word = c.args.word.now in
    ap is_plain_text (back_is word c.args.slash c.requires.place) ∙ port_name_plain (after_first is_slash word) (names_in_form word c.requires.form).1

pub returns-clause-spelled : goal.returns-clause-spelled
returns-clause-spelled c =
    let word = c.args.word.now in
    origin_spelled word c.requires.form
    ∙ ap (λ x. origin_of x (after_first is_slash word)) (sym (c.in_ok-literal.ensures ∙ front_is word c.args.slash c.requires.place))
    ∙ ap (λ x. origin_of c.in_ok-literal.field-0 x) (sym (c.in_ok-literal-2.ensures ∙ back_is word c.args.slash c.requires.place))

pub returns-clause-category : goal.returns-clause-category
returns-clause-category c =
    let word = c.args.word.now in
    ap is_port_name (c.in_ok-literal.ensures ∙ front_is word c.args.slash c.requires.place) ∙ (names_in_form word c.requires.form).0

pub returns-clause-port : goal.returns-clause-port
returns-clause-port c =
    let word = c.args.word.now in
    ap is_port_name (c.in_ok-literal-2.ensures ∙ back_is word c.args.slash c.requires.place) ∙ (names_in_form word c.requires.form).1
