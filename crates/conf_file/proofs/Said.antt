-- What a line with a statement says.
use Rattle.std.proofs.Common.{◌≡◌, ℕ, ◌≤◌, Bool, true, false, List, length, cond, arith, ◌∙◌, sym, ap, refl, subst, Result, Ok, Err}
use Rattle.std.specs.Prelude.{not, nat_lt, Option, Some, None}
use Rattle.std.proofs.lemmas.Bool.Decides.{nat_tests}
use Rattle.bulk_base.specs.Text.{is_text}
use Rattle.port_vars.specs.declared.fault.LineKind.TheVariants.{NotText, TooLong}
use Rattle.conf_file.specs.declared.fault.ConfKind.{ConfKind}
use Rattle.conf_file.specs.declared.fault.ConfKind.TheVariants.{Line}
use Rattle.conf_file.specs.declared.fault.LineError.{LineError}
use Rattle.conf_file.specs.declared.conf_reader.Conf.{Conf}
use Rattle.conf_file.specs.Lines.{Setting, says_nothing, statement, stated, said, mapped}
use Rattle.conf_file.specs.Conf.{with_setting, with_line, Leaves}

abbrev says : List ℕ → Bool → Bool → Bool → Result (Option Setting) ConfKind
says line text long nothing = cond (not text) (Err (Line NotText)) (cond long (Err (Line TooLong)) (cond nothing (Ok None) (mapped Some (stated (statement line)))))

said_statement : (line : List ℕ) → is_text line ≡ true → length line ≤ 8192 → says_nothing line ≡ false → said line ≡ mapped Some (stated (statement line))
said_statement line text short some =
    let fits : nat_lt 8192 (length line) ≡ false = grind (arith, nat_tests) in
    ap (λ t. says line t (nat_lt 8192 (length line)) (says_nothing line)) text ∙ ap (λ t. says line true t (says_nothing line)) fits ∙ ap (says line true false) some

after_some : (conf : Conf) (r : Result Setting ConfKind) → mapped (with_line conf) (mapped Some r) ≡ mapped (with_setting conf) r
after_some conf (Ok setting) = refl
after_some conf (Err kind) = refl

pub stated_line : (conf new : Conf) (line : List ℕ) (result : Result (Unit {0}) LineError) → is_text line ≡ true → length line ≤ 8192 → says_nothing line ≡ false
    → Leaves (mapped (with_setting conf) (stated (statement line))) result new → Leaves (mapped (with_line conf) (said line)) result new
stated_line conf new line result text short some leaves =
    subst (λ s. Leaves s result new) (sym (ap (mapped (with_line conf)) (said_statement line text short some) ∙ after_some conf (stated (statement line)))) leaves
