use Rattle.std.proofs.Common.{◌∙◌, ap, sym, subst, take, Vec, Global, ℕ}
use Rattle.std.specs.Option.{option_map}
use Rattle.std.specs.FinMap.{get}
use Rattle.outside.specs.Contents.{Contents}
use Rattle.conf_file.specs.Make.{make_of}
use Rattle.tree_index.specs.Faults.{refused_as}
use Rattle.run_answer.specs.Steps.{Tells}
use Rattle.run_plan.specs.Settings.{make_path}
use Rattle.run_plan.specs.Told.{conf_answer}
use Rattle.run_plan.proofs.FirstBytes.{first_of_make, no_bytes}
use Rattle.run_plan.proofs.settings.make_at.Goals as goal

pub returns-in-Ok-Some-clause-told : goal.returns-in-Ok-Some-clause-told
returns-in-Ok-Some-clause-told g c t =
    let content : Contents = g.T.Tree.content c.args.tree.now in
    let found = ap (option_map (λ (b : Vec ℕ Global). b.items)) (sym c.in-Ok-Some.field-0-is) ∙ c.in-Ok-Some.ensures.told t
    ∙ ap (λ path. option_map (take 65537) (get content path)) c.in_ok-path.ensures in
    subst (λ made. Tells (refused_as (conf_answer make_path) made) c.make_in.result)
    (sym (first_of_make c.in-Ok-Some.bytes.items (get content make_path) found ∙ ap make_of (sym c.as_slice.ensures.value))) c.make_in.ensures.told

pub returns-in-Ok-None-clause-told : goal.returns-in-Ok-None-clause-told
returns-in-Ok-None-clause-told g c t =
    let content : Contents = g.T.Tree.content c.args.tree.now in
    let found = ap (option_map (λ (b : Vec ℕ Global). b.items)) (sym c.in-Ok-None.field-0-is) ∙ c.in-Ok-None.ensures.told t
    ∙ ap (λ path. option_map (take 65537) (get content path)) c.in_ok-path.ensures in
    subst (λ made. Tells (refused_as (conf_answer make_path) made) c.make_in-in-Ok-None.result) (sym (no_bytes make_of (get content make_path) found)) c.make_in-in-Ok-None.ensures.told
