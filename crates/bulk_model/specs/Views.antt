-- Jobs and packages as contracts see them: the records of their fields.
use Rattle.std.specs.Prelude.{ℕ, List, Option}
use Rattle.bulk_base.specs.Names.{node_of}
use Rattle.bulk_base.specs.declared.file.FileItem.{FileItem}
use Rattle.bulk_base.specs.declared.file.Switch.{Switch}
use Rattle.bulk_model.specs.declared.depend.Depend.{Depend}
use Rattle.bulk_model.specs.declared.depend.Recorded.{Recorded}
use Rattle.bulk_model.specs.declared.digest.Digest.{Digest}
use Rattle.bulk_model.specs.declared.steps.Steps.{Steps}

pub record JobView : Type 0 where
  pub name : List ℕ
  pub origin : List ℕ
  pub flavor : Option (List ℕ)
  pub options : List Switch
  pub depends : List Depend
  pub steps : Steps
  pub files : List FileItem

pub record PackageView : Type 0 where
  pub name : List ℕ
  pub origin : List ℕ
  pub flavor : Option (List ℕ)
  pub recipe : Digest
  pub options : List Switch
  pub depends : List Recorded
  pub files : List FileItem

abbrev pub node_of_job : JobView → List ℕ
node_of_job job = node_of job.origin job.flavor

abbrev pub node_of_package : PackageView → List ℕ
node_of_package p = node_of p.origin p.flavor

-- what a package records of a dependency, without the digest of that package's record
abbrev pub need_of : Recorded → Depend
need_of recorded = record { kind = recorded.kind; node = recorded.node; name = recorded.name }
