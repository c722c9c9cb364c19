-- A refusal for which the tree is to blame.
use Rattle.std.proofs.Common.{◌≡◌, ℕ, false, subst, sym, ap, refl}
use Rattle.std.specs.Prelude.{Option, Some, Result, Ok, Err}
use Rattle.std.specs.Result.{IfErr}
use Rattle.outside.specs.Faults.{IsCaused, is_fault, err_is}
use Rattle.outside.specs.declared.outer.Outer.{Outer}
use Rattle.outside.specs.declared.outer.Outer.TheVariants as outer
use Rattle.job_files.specs.Faults.{is_tree_fault}
use Rattle.job_files.specs.declared.fault.PlanError.{PlanError}
use Rattle.job_files.specs.declared.fault.PlanError.TheVariants.{TreeFault, NoMemory}

pub caused : (before now : ℕ) (refusal : PlanError) (blamed : Outer) (found : Option Outer) → found ≡ Some blamed → (found ≡ Some outer.Fault → refusal ≡ TreeFault) → (found ≡ Some outer.NoMemory → refusal ≡ NoMemory)
    → IsCaused before now (is_tree_fault refusal) → IsCaused before now (is_fault blamed)
caused before now refusal outer.Fault found e f m h = subst (λ x. IsCaused before now (is_tree_fault x)) (f e) h
caused before now refusal outer.NoMemory found e f m h = subst (λ x. IsCaused before now (is_tree_fault x)) (m e) h

-- want of memory alone leaves the count
quiet_is : {X : Type 0} (r : Result X Outer) → IfErr r (λ e. e ≡ outer.NoMemory) → false ≡ err_is is_fault r
quiet_is (Ok x) h = refl
quiet_is (Err e) h = sym (ap is_fault h)

pub quiet_caused : {X : Type 0} (before now : ℕ) (r : Result X Outer) → IfErr r (λ e. e ≡ outer.NoMemory) → IsCaused before now false → IsCaused before now (err_is is_fault r)
quiet_caused before now r h k = subst (IsCaused before now) (quiet_is r h) k
