-- Files that nothing refuses behind others are refused by nothing alone, and are the same.
use Rattle.std.proofs.Common.{◌≡◌, ◌∙◌, ℕ, ◌+◌, ◌≤◌, ◌<◌, Bool, true, false, List, [], ◌∷◌, ◌++◌, length, ap, sym, refl, cond, arith}
use Rattle.std.specs.Prelude.{Option, Some, None, Result, Ok, Err, nat_le, is_some}
use Rattle.std.specs.Option.{option_map, option_map_or, option_and_then}
use Rattle.std.specs.Result.{result_ok}
use Rattle.std.specs.FinMap.{get}
use Rattle.std.proofs.lemmas.Bool.{leb-true, le-leb}
use Rattle.bulk_base.specs.declared.file.FileItem.{FileItem}
use Rattle.bulk_model.specs.Limits.{most}
use Rattle.bulk_model.specs.PlanView.{PlanView, count, job_at, is_ignored}
use Rattle.bulk_model.specs.Recipe.{recipe}
use Rattle.bulk_model.specs.declared.which.Which.TheVariants.{FileBytes, JobBytes, DistBytes}
use Rattle.dep_graph.specs.Graphs.{has}
use Rattle.dist_files.specs.Checked.{checked}
use Rattle.dist_files.specs.declared.dist.Dist.{Dist}
use Rattle.dist_files.specs.declared.fault.DistWhy.{DistWhy}
use Rattle.outside.specs.Contents.{Contents, files_below, first_bytes}
use Rattle.path_laws.specs.Laws.{rest_of}
use Rattle.port_vars.specs.Assignment.{◌>>=◌}
use Rattle.tree_index.specs.Depends.{depends_of}
use Rattle.tree_index.specs.Index.{IndexView}
use Rattle.tree_index.specs.Places.{files_folder, distinfo_file}
use Rattle.tree_index.specs.declared.node.NodeInfo.{NodeInfo}
use Rattle.job_files.specs.Distfiles.{distfiles, with_dist, with_dist_bytes, read_dist, tree_path, job_path, together}
use Rattle.job_files.specs.FolderFiles.{with_bytes, with_file, folder_files}
use Rattle.job_files.specs.Gathered.{counted, with_one, nothing_yet, too_long}
use Rattle.job_files.specs.NodeFiles.{by_list, list_beside, with_distfiles, with_listed, with_its_distfiles, node_files}
use Rattle.job_files.specs.Turns.{in_turn}
use Rattle.job_files.specs.declared.fault.PlanError.{PlanError}
use Rattle.job_files.specs.declared.fault.PlanError.TheVariants.{Limit, BadDist}
use Rattle.job_files.specs.declared.gathered.Gathered.{Gathered}
use Rattle.plan_maker.specs.Jobs.{node_at, job_with}
use Rattle.plan_maker.specs.Plans.{plan_in}
use Rattle.plan_maker.specs.Recipes.{job_alone, job_to_build, recipe_at}
use Rattle.plan_laws.specs.Laws.{number_at}
use Rattle.plan_laws.proofs.Built.{HasDepends, job_here, ignored_here, depends_here, job_with_them}
use Rattle.plan_laws.proofs.Making.{IsMade, is_made, IsJobOf}
use Rattle.plan_laws.proofs.Reading.{GoesOn, goes_on, same_ok}

-- the same files, with no more bytes counted
record IsLess (a b : Gathered) : Type 0 where
  files : a.files ≡ b.files
  bytes : a.bytes ≤ b.bytes

-- a result is good too, with less
record IsGood (r : Result Gathered PlanError) (b : Gathered) : Type 0 where
  now : Gathered
  is : r ≡ Ok now
  less : IsLess now b

-- a step that is good from less where it is good
record IsTame {X : Type 0} (step : Gathered → X → Result Gathered PlanError) : Type 0 where
  good : (x : X) (a b next : Gathered) → IsLess a b → step b x ≡ Ok next → IsGood (step a x) next

then_good : {X : Type 0} (step : Gathered → X → Result Gathered PlanError) (x : X) (xs : List X) (a next : Gathered) (r : Result Gathered PlanError)
    → step a x ≡ Ok next → IsGood (in_turn step next xs) next → IsGood (in_turn step a (x ∷ xs)) next
then_good step x xs a next r e good = record { now = good.now; is = ap (λ s. s >>= (λ n. in_turn step n xs)) e ∙ good.is; less = good.less }

turn_good : {X : Type 0} (step : Gathered → X → Result Gathered PlanError) → IsTame step → (xs : List X) (a b now : Gathered) → IsLess a b → in_turn step b xs ≡ Ok now → IsGood (in_turn step a xs) now
turn_good step tame [] a b now less h =
    let same : b ≡ now = same_ok b now h in
    record { now = a; is = refl; less = record { files = less.files ∙ ap (λ (g : Gathered). g.files) same; bytes = (let l : a.bytes ≤ b.bytes = less.bytes in let e : b.bytes ≡ now.bytes = ap (λ (g : Gathered). g.bytes) same in omega arith) } }
turn_good step tame (x ∷ xs) a b now less h =
    let on : GoesOn (step b x) (λ next. in_turn step next xs) now = goes_on _ _ now h in
    let first : IsGood (step a x) on.first = tame.good x a b on.first less on.is in
    let rest : IsGood (in_turn step first.now xs) now = turn_good step tame xs first.now on.first now first.less on.then in
    record { now = rest.now; is = ap (λ s. s >>= (λ n. in_turn step n xs)) first.is ∙ rest.is; less = rest.less }

-- ---- one file more

one_less : (a b : Gathered) (path bytes : List ℕ) → IsLess a b → IsLess (with_one a path bytes) (with_one b path bytes)
one_less a b path bytes less = record {
  files = ap (λ (fs : List FileItem). fs ++ record { path = path; bytes = bytes } ∷ []) less.files;
  bytes = (let l : a.bytes ≤ b.bytes = less.bytes in omega arith);
}

counted_case : (a b next : Gathered) (c : Bool) → nat_le b.bytes (most JobBytes) ≡ c → IsLess a b → cond c (Ok b) (Err (Limit JobBytes b.bytes)) ≡ Ok next → IsGood (counted a) next
counted_case a b next true e less h =
    let same : b ≡ next = same_ok b next h in
    let fits : nat_le a.bytes (most JobBytes) ≡ true = (let l : a.bytes ≤ b.bytes = less.bytes in le-leb a.bytes (most JobBytes) (let k : b.bytes ≤ most JobBytes = leb-true b.bytes (most JobBytes) e in omega arith)) in
    record {
      now = a;
      is = ap (λ c. cond c (Ok a) (Err (Limit JobBytes a.bytes))) fits;
      less = record { files = less.files ∙ ap (λ (g : Gathered). g.files) same; bytes = (let l : a.bytes ≤ b.bytes = less.bytes in let s : b.bytes ≡ next.bytes = ap (λ (g : Gathered). g.bytes) same in omega arith) };
    }
counted_case a b next false e less h = absurd (cc)

counted_good : (a b next : Gathered) → IsLess a b → counted b ≡ Ok next → IsGood (counted a) next
counted_good a b next less h = counted_case a b next (nat_le b.bytes (most JobBytes)) refl less h

bytes_case : (a b next : Gathered) (path bytes : List ℕ) (c : Bool) → nat_le (length bytes) (most FileBytes) ≡ c → IsLess a b → cond c (counted (with_one b path bytes)) too_long ≡ Ok next → IsGood (cond c (counted (with_one a path bytes)) too_long) next
bytes_case a b next path bytes true e less h = counted_good (with_one a path bytes) (with_one b path bytes) next (one_less a b path bytes less) h
bytes_case a b next path bytes false e less h = absurd (cc)

-- where nothing is added
same_good : (a b next : Gathered) → IsLess a b → (let r : Result Gathered PlanError = Ok b in r) ≡ Ok next → IsGood (Ok a) next
same_good a b next less h =
    let same : b ≡ next = same_ok b next h in
    record { now = a; is = refl; less = record { files = less.files ∙ ap (λ (g : Gathered). g.files) same; bytes = (let l : a.bytes ≤ b.bytes = less.bytes in let s : b.bytes ≡ next.bytes = ap (λ (g : Gathered). g.bytes) same in omega arith) } }

file_good : (path : List ℕ) (a b next : Gathered) (held : Option (List ℕ)) → IsLess a b → option_map_or (with_bytes b path) held (Ok b) ≡ Ok next → IsGood (option_map_or (with_bytes a path) held (Ok a)) next
file_good path a b next None less h = same_good a b next less h
file_good path a b next (Some bytes) less h = bytes_case a b next path bytes (nat_le (length bytes) (most FileBytes)) refl less h

files_tame : (folder : List ℕ) (content : Contents) → IsTame (with_file folder content)
files_tame folder content = record { good = λ path a b next less h. file_good (rest_of folder path) a b next (get content path) less h }

-- ---- one distfile more

abbrev by_check : List ℕ → Gathered → Dist → List ℕ → Result (Unit {0}) DistWhy → Result Gathered PlanError
by_check node g dist bytes r = elim r [
  | Ok good ↦ counted (with_one g (job_path dist.file) bytes)
  | Err why ↦ Err (BadDist node dist.file why)
]

check_good : (node : List ℕ) (dist : Dist) (bytes : List ℕ) (a b next : Gathered) (r : Result (Unit {0}) DistWhy) → IsLess a b → by_check node b dist bytes r ≡ Ok next → IsGood (by_check node a dist bytes r) next
check_good node dist bytes a b next (Ok u) less h = counted_good (with_one a (job_path dist.file) bytes) (with_one b (job_path dist.file) bytes) next (one_less a b (job_path dist.file) bytes less) h
check_good node dist bytes a b next (Err why) less h = absurd (cc)

read_good : (node : List ℕ) (dist : Dist) (a b next : Gathered) (e : PlanError) (held : Option (List ℕ)) → IsLess a b → option_map_or (with_dist_bytes node b dist) held (Err e) ≡ Ok next → IsGood (option_map_or (with_dist_bytes node a dist) held (Err e)) next
read_good node dist a b next e None less h = absurd (cc)
read_good node dist a b next e (Some bytes) less h = check_good node dist bytes a b next (checked dist bytes) less h

dist_case : (content : Contents) (node : List ℕ) (dist : Dist) (a b next : Gathered) (c : Bool) → IsLess a b → cond c (read_dist content node b dist) (Err (Limit DistBytes dist.size)) ≡ Ok next
    → IsGood (cond c (read_dist content node a dist) (Err (Limit DistBytes dist.size))) next
dist_case content node dist a b next true less h = read_good node dist a b next _ (first_bytes (dist.size + 1) (tree_path dist.file) content) less h
dist_case content node dist a b next false less h = absurd (cc)

dists_tame : (content : Contents) (node : List ℕ) → IsTame (with_dist content node)
dists_tame content node = record { good = λ dist a b next less h. dist_case content node dist a b next (nat_le dist.size (most DistBytes)) less h }

-- ---- a node's files

yet_less : (a b : ℕ) → a ≤ b → IsLess (nothing_yet a) (nothing_yet b)
yet_less a b l = record { files = refl; bytes = l }

list_good : (content : Contents) (node : NodeInfo) (a b next : Gathered) (bytes : List ℕ) → IsLess a b → by_list content node b bytes ≡ Ok next → IsGood (by_list content node a bytes) next
list_good content node a b next bytes less h =
    let on : GoesOn (list_beside node b bytes) (λ dists. distfiles content node.node b.bytes dists >>= (λ more. Ok (with_distfiles b more))) next = goes_on _ _ next h in
    let after : GoesOn (distfiles content node.node b.bytes on.first) (λ more. Ok (with_distfiles b more)) next = goes_on _ _ next on.then in
    let more : IsGood (distfiles content node.node a.bytes on.first) after.first = turn_good (with_dist content node.node) (dists_tame content node.node) on.first (nothing_yet a.bytes) (nothing_yet b.bytes) after.first (yet_less a.bytes b.bytes less.bytes) after.is in
    let beside : list_beside node a bytes ≡ Ok on.first = ap (λ (fs : List FileItem). list_beside node (record { files = fs; bytes = b.bytes }) bytes) less.files ∙ on.is in
    let same : with_distfiles b after.first ≡ next = same_ok _ next after.then in
    record {
      now = with_distfiles a more.now;
      is = ap (λ r. r >>= (λ dists. distfiles content node.node a.bytes dists >>= (λ m. Ok (with_distfiles a m)))) beside ∙ ap (λ r. r >>= (λ m. Ok (with_distfiles a m))) more.is;
      less = record {
        files = ap (λ (fs : List FileItem). together fs more.now.files) less.files ∙ ap (together b.files) more.less.files ∙ ap (λ (g : Gathered). g.files) same;
        bytes = (let l : more.now.bytes ≤ after.first.bytes = more.less.bytes in let s : after.first.bytes ≡ next.bytes = ap (λ (g : Gathered). g.bytes) same in omega arith);
      };
    }

listed_good : (content : Contents) (node : NodeInfo) (a b next : Gathered) (held : Option (List ℕ)) → IsLess a b → option_map_or (by_list content node b) held (Ok b) ≡ Ok next → IsGood (option_map_or (by_list content node a) held (Ok a)) next
listed_good content node a b next None less h = same_good a b next less h
listed_good content node a b next (Some bytes) less h = list_good content node a b next bytes less h

its_good : (content : Contents) (node : NodeInfo) (a b next : Gathered) (c : Bool) → IsLess a b → cond c (Ok b) (with_listed content node b) ≡ Ok next → IsGood (cond c (Ok a) (with_listed content node a)) next
its_good content node a b next true less h = same_good a b next less h
its_good content node a b next false less h = listed_good content node a b next (get content (distinfo_file node.origin)) less h

alone : (content : Contents) (node : NodeInfo) (before : ℕ) (g : Gathered) → node_files content node before ≡ Ok g → IsGood (node_files content node 0) g
unfolding node_files
alone content node before g h =
    let on : GoesOn (folder_files content (files_folder node.origin) before) (with_its_distfiles content node) g = goes_on _ _ g h in
    let own : IsGood (folder_files content (files_folder node.origin) 0) on.first =
    turn_good (with_file (files_folder node.origin) content) (files_tame (files_folder node.origin) content) (files_below (files_folder node.origin) content) (nothing_yet 0) (nothing_yet before) on.first (yet_less 0 before (omega arith)) on.is in
    let whole : IsGood (with_its_distfiles content node own.now) g = its_good content node own.now on.first g (is_some node.ignored) own.less on.then in
    record { now = whole.now; is = ap (λ r. r >>= with_its_distfiles content node) own.is ∙ whole.is; less = whole.less }

-- ---- the recipe of a node of a plan

module _ (content : Contents) (index : IndexView) (wanted boost : List ℕ) (plan : PlanView) (made : IsMade content index wanted boost plan) (n : ℕ) (l : n < count plan) (b : is_ignored plan n ≡ false) where
  to_build : job_to_build content index (number_at index wanted n) ≡ Some (job_at plan n)
  to_build =
      let node : NodeInfo = node_at index (number_at index wanted n) in
      let here : IsJobOf content index (number_at index wanted n) (job_at plan n) = job_here content index wanted boost plan made n l in
      let d : HasDepends content index wanted boost plan made (number_at index wanted n) = depends_here content index wanted boost plan made n l b in
      let good : IsGood (node_files content node 0) here.gathered = alone content node here.before here.gathered here.files in
      ap (λ c. cond c None (option_and_then (job_alone content node) (depends_of index (number_at index wanted n)))) (sym (ignored_here content index wanted boost plan made n l) ∙ b)
      ∙ ap (option_and_then (job_alone content node)) d.are
      ∙ ap (λ r. option_map (λ (g : Gathered). job_with node d.list g.files) (result_ok r)) good.is
      ∙ ap (λ fs. Some (job_with node d.list fs)) good.less.files
      ∙ ap Some (sym (job_with_them content index wanted boost plan made n l d))

  recipe_here : (nodes : List ℕ) → has nodes (number_at index wanted n) ≡ true → recipe_at content index plan.base nodes (number_at index wanted n) ≡ Some (recipe plan.base (job_at plan n))
  recipe_here nodes h =
      ap (λ c. cond c (option_map (recipe plan.base) (job_to_build content index (number_at index wanted n))) None) h
      ∙ ap (option_map (recipe plan.base)) to_build

pub has_recipe : (content : Contents) (index : IndexView) (wanted boost : List ℕ) (plan : PlanView) (nodes : List ℕ) (n : ℕ) → plan_in content index wanted boost ≡ Ok plan → n < count plan → is_ignored plan n ≡ false
    → has nodes (number_at index wanted n) ≡ true → recipe_at content index plan.base nodes (number_at index wanted n) ≡ Some (recipe plan.base (job_at plan n))
has_recipe content index wanted boost plan nodes n e l b h = recipe_here content index wanted boost plan (is_made content index wanted boost plan e) n l b nodes h
