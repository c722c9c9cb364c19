use Rattle.bulk_run.proofs.InTheEnd.{words_in_the_end}
use Rattle.bulk_run.proofs.Printing.{line_alone}
use Rattle.bulk_run.proofs.top.dry_run.Goals as goal

pub returns-in-Err-clause-begun : goal.returns-in-Err-clause-begun
returns-in-Err-clause-begun g c t s k = line_alone _ _ _ _ (c.refuse.ensures.begun k)

pub returns-in-Err-clause-in_words : goal.returns-in-Err-clause-in_words
returns-in-Err-clause-in_words g c = words_in_the_end _ _ _ _ c.in-Err.is c.find_report.ensures.in_words c.refuse.ensures.answer
