use Rattle.model_laws.proofs.Fitted.{built_have_fields as law}
use Rattle.model_laws.proofs.builds.built_have_fields.Goals as goal

pub returns : goal.returns
returns c = law
