use Rattle.std.proofs.Common.{◌≡◌, ◌∙◌, ◌<◌, length, Ok, ap, sym, subst}
use Rattle.std.specs.List.{AllByRecursion}
use Rattle.std.specs.List.Sorted.{IsStrictlySortedBy}
use Rattle.std.specs.Ordering.{nat_cmp}
use Rattle.std.specs.Option.{option_copied}
use Rattle.std.proofs.lemmas.Result.{err_from_is_err_and}
use Rattle.origin_flavor.specs.Answers.{answers_of}
use Rattle.origin_flavor.specs.declared.selection.Wanted.{Wanted}
use Rattle.origin_flavor.specs.Command.{wanted_by}
use Rattle.origin_flavor.proofs.Commanded.{bad_list, refused_word, all_served}
use Rattle.origin_flavor.proofs.Numbered.{wanted_within, wanted_order}
use Rattle.origin_flavor.proofs.command.wanted.Goals as goal

pub returns-in_err-asked-clause-refused : goal.returns-in_err-asked-clause-refused
returns-in_err-asked-clause-refused c =
    let p = err_from_is_err_and c.from_residual.result c.from_residual.ensures.1 in
    rw (p.1, p.2) (λ some. bad_list c.args.index.now (option_copied c.args.list) c.args.words.now c.args.all c.args.every_flavor _ (c.in_err-asked.ensures.refused some))

pub returns-in_err-answers-clause-refused : goal.returns-in_err-answers-clause-refused
returns-in_err-answers-clause-refused c =
    let p = err_from_is_err_and c.from_residual-in_err-answers.result c.from_residual-in_err-answers.ensures.1 in
    rw (p.1, p.2) (λ some. refused_word c.args.index.now (option_copied c.args.list) c.args.words.now c.args.all c.args.every_flavor c.in_ok-asked.asked _ c.in_ok-asked.ensures.ok
    (ap (answers_of c.args.index.now) (sym c.as_slice.ensures) ∙ c.in_err-answers.ensures.refused some))

answered : (c : goal.After-drop-asked-inside-2) → answers_of c.args.index.now c.in_ok-asked.asked ≡ Ok c.in_ok-answers.answers
answered c = ap (answers_of c.args.index.now) (sym c.as_slice.ensures) ∙ c.in_ok-answers.ensures.ok

selected : (c : goal.After-drop-asked-inside-2) → c.in_ok-select_by.field-0 ≡ wanted_by c.args.index.now c.args.all c.args.every_flavor c.in_ok-answers.answers
selected c = c.in_ok-select_by.ensures ∙ ap (wanted_by c.args.index.now c.args.all c.args.every_flavor) c.as_slice-2.ensures

pub returns-clause-ok : goal.returns-clause-ok
returns-clause-ok c =
    all_served c.args.index.now (option_copied c.args.list) c.args.words.now c.args.all c.args.every_flavor c.in_ok-asked.asked c.in_ok-answers.answers c.in_ok-asked.ensures.ok (answered c)
    ∙ ap Ok (sym (selected c))

pub returns-clause-within : goal.returns-clause-within
returns-clause-within c =
    subst (λ (found : Wanted). AllByRecursion (λ n. n < length c.args.index.now.nodes) found.nodes) (sym (selected c))
    (wanted_within c.args.all c.args.every_flavor c.in_ok-answers.answers c.args.index.now.nodes)

pub returns-clause-order : goal.returns-clause-order
returns-clause-order c =
    subst (λ (found : Wanted). IsStrictlySortedBy nat_cmp found.nodes) (sym (selected c)) (wanted_order c.args.all c.args.every_flavor c.in_ok-answers.answers c.args.index.now.nodes)
