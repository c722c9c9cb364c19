use Rattle.std.proofs.Common.{◌∙◌, ap, sym, Some, None, cond, arith, rules}
use Rattle.dist_files.specs.Lines.{statement}
use Rattle.dist_files.proofs.Tests.{is_file-path, no_file}
use Rattle.dist_files.proofs.statement.statement_of.Goals as goal

pub returns-in-Ok : goal.returns-in-Ok
returns-in-Ok c =
    ap (λ f. Some (statement f c.args.fact)) c.in-Ok.ensures.ok
    ∙ sym (ap (λ b. cond b (Some (statement c.args.file.now c.args.fact)) None) (is_file-path c.args.file.now c.in-Ok.ensures.form (omega arith)))

pub returns-in-Err-BadPath : goal.returns-in-Err-BadPath
returns-in-Err-BadPath c =
    sym (ap (λ b. cond b (Some (statement c.args.file.now c.args.fact)) None) (no_file c.args.file.now (search rules)))
