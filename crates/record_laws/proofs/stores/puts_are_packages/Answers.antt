use Rattle.record_laws.proofs.Storing.{after_a_put}
use Rattle.record_laws.proofs.stores.puts_are_packages.Goals as goal

pub returns : goal.returns
returns c = after_a_put
