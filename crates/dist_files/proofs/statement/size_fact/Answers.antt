use Rattle.std.proofs.Common.{ap, sym, rules}
use Rattle.std.specs.Option.{option_map}
use Rattle.dist_files.specs.declared.statement.Fact.TheVariants.{Size}
use Rattle.dist_files.proofs.Tests.{no_number}
use Rattle.dist_files.proofs.statement.size_fact.Goals as goal

pub returns-in-Err-NotText : goal.returns-in-Err-NotText
returns-in-Err-NotText c = sym (ap (option_map (λ n. Size n)) (no_number c.args.word.now (search rules)))
