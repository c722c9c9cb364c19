use Rattle.clap.specs.Walk.{texts}
use Rattle.clap.specs.Words.{app_of, found_of, kind_of, rows_of}
use Rattle.command_words.proofs.Read.{matched, matched_texts, unmatched}
use Rattle.command_words.proofs.description.match_words.Goals as goal

pub returns-in-Ok-clause-rows : goal.returns-in-Ok-clause-rows
returns-in-Ok-clause-rows c =
    matched c.args.flags (app_of c.in_ok-describe.field-0) (texts c.args.words.now) (rows_of (found_of c.in-Ok.matches)) _
    c.in_ok-describe.ensures c.in-Ok.ensures.kinds c.in-Ok.ensures.matches

pub returns-in-Ok-clause-form : goal.returns-in-Ok-clause-form
returns-in-Ok-clause-form c =
    matched_texts c.args.flags (app_of c.in_ok-describe.field-0) (texts c.args.words.now) (rows_of (found_of c.in-Ok.matches)) _
    c.in_ok-describe.ensures c.in-Ok.ensures.matches c.requires

pub returns-in-Err-clause-rows : goal.returns-in-Err-clause-rows
returns-in-Err-clause-rows c =
    unmatched c.pass_memory.result (λ m. rows_of (found_of m)) c.args.flags (app_of c.in_ok-describe.field-0) (texts c.args.words.now)
    (kind_of c.in-Err.error) c.in_ok-describe.ensures c.pass_memory.ensures.none c.pass_memory.ensures.cause c.in-Err.ensures.kinds
