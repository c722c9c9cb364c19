use Rattle.std.proofs.Common.{◌∙◌, ◌≡◌, true, fold, ap, ap₂}
use Rattle.std.proofs.lemmas.Result.{IfOk-weaker}
use Rattle.clap.specs.Simple.{app_of_fields, on_top}
use Rattle.clap.specs.Words.{App, app_of, with_rule}
use Rattle.command_words.specs.Description.{bare_app, flag_rules}
use Rattle.command_words.proofs.description.describe.Goals as goal

pub returns : goal.returns
returns c =
    let bare : app_of c.disable_help_flag-bare.result ≡ bare_app =
    ap app_of_fields c.disable_help_flag-bare.ensures ∙ ap (on_top (λ s. record s { disable_help_flag = true })) c.new.ensures.app in
    let flags = c.in_ok-with_flags.ensures ∙ ap (λ (a : App). fold with_rule a (flag_rules c.args.flags)) bare in
    IfOk-weaker c.arg.result _ _ (λ r added. added.shape c.origins.ensures.local ∙ ap₂ with_rule flags c.origins.ensures.rule) c.arg.ensures
