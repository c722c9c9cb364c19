use Rattle.std.proofs.Common.{inl, refl}
use Rattle.bulk_run.proofs.Printing.{line_begins, kept_or_changed}
use Rattle.bulk_run.proofs.ending.refuse.Goals as goal

pub returns-in-Err-NoMemory-clause-begun : goal.returns-in-Err-NoMemory-clause-begun
returns-in-Err-NoMemory-clause-begun g c t = line_begins _ _ _ _ _ (c.say.ensures.told t) (kept_or_changed c.without_memory-answer.ensures.answer)

pub returns-in_default-clause-begun : goal.returns-in_default-clause-begun
returns-in_default-clause-begun g c t = line_begins _ _ _ _ _ (c.say.ensures.told t) (inl refl)
