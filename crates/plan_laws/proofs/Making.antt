-- What a plan that is made of a tree consists of.
use Rattle.std.proofs.Common.{◌≡◌, ◌∙◌, ℕ, zero, suc, ◌<◌, Bool, true, false, List, [], ◌∷◌, ◌++◌, length, get_or, ap, sym, refl, cond, append_assoc, append-nil, arith}
use Rattle.std.specs.Prelude.{Option, Some, None, Result, Ok, Err}
use Rattle.bulk_model.specs.PlanView.{PlanView, no_job}
use Rattle.bulk_model.specs.Views.{JobView}
use Rattle.outside.specs.Contents.{Contents}
use Rattle.port_vars.specs.Assignment.{◌>>=◌}
use Rattle.tree_index.specs.Index.{IndexView}
use Rattle.job_files.specs.BaseFiles.{base_files}
use Rattle.job_files.specs.NodeFiles.{node_files}
use Rattle.job_files.specs.Turns.{in_turn}
use Rattle.job_files.specs.declared.fault.PlanError.{PlanError}
use Rattle.job_files.specs.declared.gathered.Gathered.{Gathered}
use Rattle.plan_maker.specs.Jobs.{node_at, job_of, no_jobs, with_job, jobs_in}
use Rattle.plan_maker.specs.Lost.{first_lost}
use Rattle.plan_maker.specs.Needed.{needed}
use Rattle.plan_maker.specs.Plans.{none_lost, few, few_nodes, unlooped, plan_nodes, plan_of, plan_in}
use Rattle.plan_maker.specs.declared.job_list.JobList.{JobList}
use Rattle.plan_laws.proofs.Reading.{GoesOn, goes_on, same_ok}

-- ---- the nodes

cond_ok : {A E : Type 0} (b : Bool) (x y : A) (e : E) → cond b (Ok x) (Err e) ≡ Ok y → x ≡ y
cond_ok true x y e h = same_ok x y h
cond_ok false x y e h = absurd (cc)

abbrev by_lost : List ℕ → Option PlanError → Result (List ℕ) PlanError
by_lost nodes lost = elim lost [
  | None ↦ Ok nodes
  | Some why ↦ Err why
]

record AreFound (index : IndexView) (nodes found : List ℕ) : Type 0 where
  none : first_lost index nodes ≡ None
  same : nodes ≡ found

found_case : (index : IndexView) (nodes found : List ℕ) (lost : Option PlanError) → first_lost index nodes ≡ lost → by_lost nodes lost ≡ Ok found → AreFound index nodes found
found_case index nodes found None e h = record { none = e; same = same_ok nodes found h }
found_case index nodes found (Some why) e h = absurd (cc)

are_found : (index : IndexView) (nodes found : List ℕ) → none_lost index nodes ≡ Ok found → AreFound index nodes found
are_found index nodes found h = found_case index nodes found (first_lost index nodes) refl h

nodes_are : (index : IndexView) (wanted nodes : List ℕ) → plan_nodes index wanted ≡ Ok nodes → AreFound index (needed index wanted) nodes
unfolding plan_nodes
nodes_are index wanted nodes h =
    let last : GoesOn (few_nodes index wanted) (unlooped index) nodes = goes_on _ _ nodes h in
    let middle : GoesOn (none_lost index (needed index wanted)) few last.first = goes_on _ _ last.first last.is in
    let first : AreFound index (needed index wanted) middle.first = are_found index (needed index wanted) middle.first middle.is in
    record { none = first.none; same = first.same ∙ cond_ok _ middle.first last.first _ middle.then ∙ cond_ok _ last.first nodes _ last.then }

-- ---- the whole

pub record IsMade (content : Contents) (index : IndexView) (wanted boost : List ℕ) (plan : PlanView) : Type 0 where
  pub found : JobList
  pub root : Gathered
  pub none : first_lost index (needed index wanted) ≡ None
  pub jobs : jobs_in content index (needed index wanted) ≡ Ok found
  pub base : base_files content found.bytes ≡ Ok root
  pub is : plan ≡ plan_of index wanted boost (needed index wanted) found.jobs root.files

pub is_made : (content : Contents) (index : IndexView) (wanted boost : List ℕ) (plan : PlanView) → plan_in content index wanted boost ≡ Ok plan → IsMade content index wanted boost plan
unfolding plan_in
is_made content index wanted boost plan h =
    let on : GoesOn (plan_nodes index wanted) (λ nodes. jobs_in content index nodes >>= (λ found. base_files content found.bytes >>= (λ base. Ok (plan_of index wanted boost nodes found.jobs base.files)))) plan = goes_on _ _ plan h in
    let first : AreFound index (needed index wanted) on.first = nodes_are index wanted on.first on.is in
    let second : GoesOn (jobs_in content index on.first) (λ found. base_files content found.bytes >>= (λ base. Ok (plan_of index wanted boost on.first found.jobs base.files))) plan = goes_on _ _ plan on.then in
    let third : GoesOn (base_files content second.first.bytes) (λ base. Ok (plan_of index wanted boost on.first second.first.jobs base.files)) plan = goes_on _ _ plan second.then in
    record {
      found = second.first;
      root = third.first;
      none = first.none;
      jobs = ap (jobs_in content index) first.same ∙ second.is;
      base = third.is;
      is = sym (same_ok _ plan third.then) ∙ ap (λ nodes. plan_of index wanted boost nodes second.first.jobs third.first.files) (sym first.same);
    }

-- ---- its jobs

pub record IsJobOf (content : Contents) (index : IndexView) (n : ℕ) (job : JobView) : Type 0 where
  pub before : ℕ
  pub gathered : Gathered
  pub files : node_files content (node_at index n) before ≡ Ok gathered
  pub is : job ≡ job_of index n gathered.files

abbrev AreJobsOf : Contents → IndexView → List ℕ → List JobView → Type 0
AreJobsOf content index [] [] = Unit {0}
AreJobsOf content index [] (job ∷ jobs) = ⊥
AreJobsOf content index (n ∷ nodes) [] = ⊥
AreJobsOf content index (n ∷ nodes) (job ∷ jobs) = IsJobOf content index n job × AreJobsOf content index nodes jobs

record Gained (content : Contents) (index : IndexView) (nodes : List ℕ) (before now : JobList) : Type 0 where
  jobs : List JobView
  each : AreJobsOf content index nodes jobs
  more : now.jobs ≡ before.jobs ++ jobs

abbrev one_more : IndexView → JobList → ℕ → Gathered → JobList
one_more index before n gathered = record { jobs = before.jobs ++ job_of index n gathered.files ∷ []; bytes = gathered.bytes }

gained : (content : Contents) (index : IndexView) (nodes : List ℕ) (before now : JobList) → in_turn (with_job content index) before nodes ≡ Ok now → Gained content index nodes before now
gained content index [] before now h = record { jobs = []; each = tt; more = ap (λ (l : JobList). l.jobs) (sym (same_ok before now h)) ∙ sym (append-nil before.jobs) }
gained content index (n ∷ nodes) before now h =
    let on : GoesOn (with_job content index before n) (λ next. in_turn (with_job content index) next nodes) now = goes_on _ _ now h in
    let here : GoesOn (node_files content (node_at index n) before.bytes) (λ gathered. Ok (one_more index before n gathered)) on.first = goes_on _ _ on.first on.is in
    let rest : Gained content index nodes on.first now = gained content index nodes on.first now on.then in
    let job : JobView = job_of index n here.first.files in
    record {
      jobs = job ∷ rest.jobs;
      each = (record { before = before.bytes; gathered = here.first; files = here.is; is = refl }, rest.each);
      more = rest.more ∙ ap (λ (l : JobList). l.jobs ++ rest.jobs) (sym (same_ok (one_more index before n here.first) on.first here.then)) ∙ append_assoc before.jobs (job ∷ []) rest.jobs;
    }

job_there : (content : Contents) (index : IndexView) (nodes : List ℕ) (jobs : List JobView) (k : ℕ) → AreJobsOf content index nodes jobs → k < length jobs → IsJobOf content index (get_or nodes k 0) (get_or jobs k no_job)
job_there content index [] [] k each l = absurd (omega arith)
job_there content index [] (job ∷ jobs) k each l = absurd each
job_there content index (n ∷ nodes) [] k each l = absurd each
job_there content index (n ∷ nodes) (job ∷ jobs) zero each l = each.0
job_there content index (n ∷ nodes) (job ∷ jobs) (suc k) each l = job_there content index nodes jobs k each.1 (omega arith)

same_length : (content : Contents) (index : IndexView) (nodes : List ℕ) (jobs : List JobView) → AreJobsOf content index nodes jobs → length jobs ≡ length nodes
same_length content index [] [] each = refl
same_length content index [] (job ∷ jobs) each = absurd each
same_length content index (n ∷ nodes) [] each = absurd each
same_length content index (n ∷ nodes) (job ∷ jobs) each = ap suc (same_length content index nodes jobs each.1)

-- each job of the plan is its node's
pub made_job : (content : Contents) (index : IndexView) (nodes : List ℕ) (found : JobList) (k : ℕ) → jobs_in content index nodes ≡ Ok found → k < length found.jobs → IsJobOf content index (get_or nodes k 0) (get_or found.jobs k no_job)
made_job content index nodes found k h l =
    let all : Gained content index nodes no_jobs found = gained content index nodes no_jobs found h in
    (subst-jobs all.more (job_there content index nodes all.jobs k all.each (omega (arith, ap length all.more))))
  where
    subst-jobs : {jobs : List JobView} → found.jobs ≡ jobs → IsJobOf content index (get_or nodes k 0) (get_or jobs k no_job) → IsJobOf content index (get_or nodes k 0) (get_or found.jobs k no_job)
    subst-jobs e is = record { before = is.before; gathered = is.gathered; files = is.files; is = ap (λ (js : List JobView). get_or js k no_job) e ∙ is.is }

pub made_count : (content : Contents) (index : IndexView) (nodes : List ℕ) (found : JobList) → jobs_in content index nodes ≡ Ok found → length found.jobs ≡ length nodes
made_count content index nodes found h =
    let all : Gained content index nodes no_jobs found = gained content index nodes no_jobs found h in
    ap length all.more ∙ same_length content index nodes all.jobs all.each
