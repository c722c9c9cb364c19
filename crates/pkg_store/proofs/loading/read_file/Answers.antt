use Rattle.std.proofs.Common.{refl, None, Some}
use Rattle.std.proofs.lemmas.Result.{IfOk-weaker}
use Rattle.pkg_store.proofs.Ascending.{read_still}
use Rattle.pkg_store.proofs.loading.read_file.Goals as goal

pub returns-in-None-clause-form : goal.returns-in-None-clause-form
returns-in-None-clause-form g c = λ files may. read_still c.args.file.now c.args.found.now files may None c.args.found.now refl

pub returns-in-Some-clause-form : goal.returns-in-Some-clause-form
returns-in-Some-clause-form g c =
    IfOk-weaker c.take_in.result _ _ (λ x h files may. read_still c.args.file.now c.args.found.now files may (Some c.as_slice.result.now) c.take_in.new.found h) c.take_in.ensures.ok
