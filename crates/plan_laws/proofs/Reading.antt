-- The files of a job that nothing refuses are those of the tree, whatever was counted before.
use Rattle.std.proofs.Common.{◌≡◌, ◌∙◌, ℕ, ◌+◌, Bool, true, false, List, [], ◌∷◌, ◌++◌, length, take, ap, sym, refl, cond, append_assoc, append-nil, arith}
use Rattle.std.specs.Prelude.{Option, Some, None, Result, Ok, Err, not, ◌==◌, ◌||◌, nat_le, is_some, find}
use Rattle.std.specs.Option.{option_map, option_map_or, option_and_then}
use Rattle.std.specs.Result.{is_ok, result_ok}
use Rattle.std.specs.List.{list_any, filter_map, cons_option}
use Rattle.std.specs.FinMap.{get}
use Rattle.std.proofs.lemmas.Bool.{eqb-true}
use Rattle.std.proofs.lemmas.List.{take_all, length-take}
use Rattle.bulk_base.specs.declared.file.FileItem.{FileItem}
use Rattle.bulk_model.specs.Files.{file_at}
use Rattle.bulk_model.specs.declared.which.Which.TheVariants.{FileBytes, JobBytes, DistBytes}
use Rattle.bulk_model.specs.Limits.{most}
use Rattle.outside.specs.Contents.{Contents, files_below}
use Rattle.dist_files.specs.declared.dist.Dist.{Dist}
use Rattle.dist_files.specs.declared.fault.DistWhy.{DistWhy}
use Rattle.dist_files.specs.declared.fault.DistWhy.TheVariants.{Absent, Size, Digest}
use Rattle.bulk_model.specs.Digests.{is_same, digest_of}
use Rattle.bulk_base.specs.Path.{joined}
use Rattle.tree_index.specs.declared.fault.PortKind.TheVariants.{Reserved}
use Rattle.dist_files.specs.Checked.{checked}
use Rattle.dist_files.specs.Distinfo.{distinfo_of}
use Rattle.dist_files.specs.declared.fault.DistError.{DistError}
use Rattle.port_vars.specs.Assignment.{◌>>=◌}
use Rattle.tree_index.specs.Faults.{refused_as}
use Rattle.tree_index.specs.Places.{files_folder, distinfo_file}
use Rattle.tree_index.specs.declared.node.NodeInfo.{NodeInfo}
use Rattle.job_files.specs.Distfiles.{entries_in, refuse_kept, distfiles, with_dist, with_dist_bytes, read_dist, tree_path, job_path, together, is_kept_for_dist}
use Rattle.job_files.specs.Faults.{dist_fault}
use Rattle.path_laws.specs.Laws.{rest_of}
use Rattle.job_files.specs.FolderFiles.{with_file, with_bytes, folder_files}
use Rattle.job_files.specs.Gathered.{counted, with_one, file, nothing_yet, too_long}
use Rattle.job_files.specs.NodeFiles.{node_files, by_list, list_beside, with_listed, with_its_distfiles, with_distfiles}
use Rattle.job_files.specs.Turns.{in_turn}
use Rattle.job_files.specs.declared.fault.PlanError.{PlanError}
use Rattle.job_files.specs.declared.fault.PlanError.TheVariants.{Limit, BadDist, BadPort}
use Rattle.job_files.specs.declared.gathered.Gathered.{Gathered}
use Rattle.plan_maker.specs.TreeJobs.{own_files, stated_file, dist_file, all_given, with_entries, with_list, files_by_tree}

-- ---- what goes on from a good step

pub record GoesOn {A B E : Type 0} (r : Result A E) (f : A → Result B E) (b : B) : Type 0 where
  pub first : A
  pub is : r ≡ Ok first
  pub then : f first ≡ Ok b

pub goes_on : {A B E : Type 0} (r : Result A E) (f : A → Result B E) (b : B) → (r >>= f) ≡ Ok b → GoesOn r f b
goes_on (Ok a) f b h = record { first = a; is = refl; then = h }
goes_on (Err e) f b h = absurd (cc)

pub same_ok : {A E : Type 0} (a b : A) → (let r : Result A E = Ok a in r) ≡ Ok b → a ≡ b
same_ok a b e = cc e

-- ---- a port's own files

counted_is : (g next : Gathered) (b : Bool) → cond b (Ok g) (Err (Limit JobBytes g.bytes)) ≡ Ok next → next ≡ g
counted_is g next true h = sym (same_ok g next h)
counted_is g next false h = absurd (cc)

bytes_are : (g next : Gathered) (path bytes : List ℕ) (b : Bool) → cond b (counted (with_one g path bytes)) too_long ≡ Ok next → next ≡ with_one g path bytes
bytes_are g next path bytes true h = counted_is (with_one g path bytes) next (nat_le (with_one g path bytes).bytes (most JobBytes)) h
bytes_are g next path bytes false h = absurd (cc)

file_is : (folder path : List ℕ) (g next : Gathered) (held : Option (List ℕ)) → option_map_or (with_bytes g (rest_of folder path)) held (Ok g) ≡ Ok next
    → next.files ≡ g.files ++ cons_option (option_map (file (rest_of folder path)) held) []
file_is folder path g next None h = ap (λ (x : Gathered). x.files) (sym (same_ok g next h)) ∙ sym (append-nil g.files)
file_is folder path g next (Some bytes) h = ap (λ (x : Gathered). x.files) (bytes_are g next (rest_of folder path) bytes (nat_le (length bytes) (most FileBytes)) h)

cons_more : {X : Type 0} (o : Option X) (xs : List X) → cons_option o [] ++ xs ≡ cons_option o xs
cons_more None xs = refl
cons_more (Some x) xs = refl

pub folder_is : (folder : List ℕ) (content : Contents) (paths : List (List ℕ)) (found g : Gathered) → in_turn (with_file folder content) found paths ≡ Ok g
    → g.files ≡ found.files ++ filter_map (file_at folder content) paths
folder_is folder content [] found g h = ap (λ (x : Gathered). x.files) (sym (same_ok found g h)) ∙ sym (append-nil found.files)
folder_is folder content (path ∷ paths) found g h =
    let on : GoesOn (with_file folder content found path) (λ next. in_turn (with_file folder content) next paths) g = goes_on _ _ g h in
    let here : on.first.files ≡ found.files ++ cons_option (file_at folder content path) [] = file_is folder path found on.first (get content path) on.is in
    folder_is folder content paths on.first g on.then ∙ ap (λ fs. fs ++ filter_map (file_at folder content) paths) here
    ∙ append_assoc found.files (cons_option (file_at folder content path) []) (filter_map (file_at folder content) paths)
    ∙ ap (λ fs. found.files ++ fs) (cons_more (file_at folder content path) (filter_map (file_at folder content) paths))

-- ---- distfiles

pub record IsTaken (content : Contents) (dist : Dist) (g next : Gathered) : Type 0 where
  pub taken : FileItem
  pub stands : dist_file content dist ≡ Some taken
  pub more : next.files ≡ g.files ++ taken ∷ []

size_is : (dist : Dist) (bytes : List ℕ) (b : Bool) (u : Unit {0}) → (length bytes == dist.size) ≡ b
    → cond (not b) (Err (Size dist.size (length bytes))) (cond (not (is_same dist.sha256 (digest_of bytes))) (Err (Digest dist.sha256 (digest_of bytes))) (Ok tt)) ≡ Ok u
    → length bytes ≡ dist.size
size_is dist bytes true u e h = eqb-true (length bytes) dist.size e
size_is dist bytes false u e h = absurd (cc)

whole : (dist : Dist) (bytes : List ℕ) (u : Unit {0}) → checked dist (take (dist.size + 1) bytes) ≡ Ok u → take (dist.size + 1) bytes ≡ bytes
whole dist bytes u h =
    let size : length (take (dist.size + 1) bytes) ≡ dist.size = size_is dist (take (dist.size + 1) bytes) (length (take (dist.size + 1) bytes) == dist.size) u refl h in
    take_all (dist.size + 1) bytes (omega (arith, length-take (dist.size + 1) bytes))

stated_is : (dist : Dist) (bytes : List ℕ) (u : Unit {0}) → checked dist bytes ≡ Ok u → stated_file dist bytes ≡ Some (file (job_path dist.file) bytes)
stated_is dist bytes u h = ap (λ r. cond (is_ok r) (Some (file (job_path dist.file) bytes)) None) h

abbrev by_check : List ℕ → Gathered → Dist → List ℕ → Result (Unit {0}) DistWhy → Result Gathered PlanError
by_check node g dist bytes r = elim r [
  | Ok good ↦ counted (with_one g (job_path dist.file) bytes)
  | Err why ↦ Err (BadDist node dist.file why)
]

bytes_taken : (content : Contents) (node : List ℕ) (dist : Dist) (g next : Gathered) (bytes : List ℕ) (r : Result (Unit {0}) DistWhy) → get content (tree_path dist.file) ≡ Some bytes → checked dist (take (dist.size + 1) bytes) ≡ r
    → by_check node g dist (take (dist.size + 1) bytes) r ≡ Ok next → IsTaken content dist g next
bytes_taken content node dist g next bytes (Err why) e k h = absurd (cc)
bytes_taken content node dist g next bytes (Ok u) e k h =
    let same : take (dist.size + 1) bytes ≡ bytes = whole dist bytes u k in
    let good : checked dist bytes ≡ Ok u = ap (checked dist) (sym same) ∙ k in
    record {
      taken = file (job_path dist.file) bytes;
      stands = ap (option_and_then (stated_file dist)) e ∙ stated_is dist bytes u good;
      more = ap (λ (x : Gathered). x.files) (counted_is (with_one g (job_path dist.file) (take (dist.size + 1) bytes)) next (nat_le (with_one g (job_path dist.file) (take (dist.size + 1) bytes)).bytes (most JobBytes)) h)
          ∙ ap (λ b. g.files ++ file (job_path dist.file) b ∷ []) same;
    }

read_taken : (content : Contents) (node : List ℕ) (dist : Dist) (g next : Gathered) (held : Option (List ℕ)) → get content (tree_path dist.file) ≡ held
    → option_map_or (with_dist_bytes node g dist) (option_map (take (dist.size + 1)) held) (Err (BadDist node dist.file Absent)) ≡ Ok next → IsTaken content dist g next
read_taken content node dist g next None e h = absurd (cc)
read_taken content node dist g next (Some bytes) e h = bytes_taken content node dist g next bytes (checked dist (take (dist.size + 1) bytes)) e refl h

dist_taken : (content : Contents) (node : List ℕ) (dist : Dist) (g next : Gathered) (b : Bool) → cond b (read_dist content node g dist) (Err (Limit DistBytes dist.size)) ≡ Ok next → IsTaken content dist g next
dist_taken content node dist g next true h = read_taken content node dist g next (get content (tree_path dist.file)) refl h
dist_taken content node dist g next false h = absurd (cc)

pub record AreTaken (content : Contents) (dists : List Dist) (found g : Gathered) : Type 0 where
  pub taken : List FileItem
  pub stand : all_given (dist_file content) dists ≡ Some taken
  pub more : g.files ≡ found.files ++ taken

pub dists_are : (content : Contents) (node : List ℕ) (dists : List Dist) (found g : Gathered) → in_turn (with_dist content node) found dists ≡ Ok g → AreTaken content dists found g
dists_are content node [] found g h = record { taken = []; stand = refl; more = ap (λ (x : Gathered). x.files) (sym (same_ok found g h)) ∙ sym (append-nil found.files) }
dists_are content node (dist ∷ dists) found g h =
    let on : GoesOn (with_dist content node found dist) (λ next. in_turn (with_dist content node) next dists) g = goes_on _ _ g h in
    let here : IsTaken content dist found on.first = dist_taken content node dist found on.first (nat_le dist.size (most DistBytes)) on.is in
    let rest : AreTaken content dists on.first g = dists_are content node dists on.first g on.then in
    record {
      taken = here.taken ∷ rest.taken;
      stand = ap (option_and_then (λ b. option_map (λ found. b ∷ found) (all_given (dist_file content) dists))) here.stands ∙ ap (option_map (λ found. here.taken ∷ found)) rest.stand;
      more = rest.more ∙ ap (λ fs. fs ++ rest.taken) here.more ∙ append_assoc found.files (here.taken ∷ []) rest.taken;
    }

-- ---- a node's files

entries_are : (path bytes : List ℕ) (dists : List Dist) (b : Bool) (r : Result (List Dist) DistError) → distinfo_of bytes ≡ r → cond b (refused_as (dist_fault path) r) too_long ≡ Ok dists → distinfo_of bytes ≡ Ok dists
entries_are path bytes dists true (Ok found) e h = e ∙ ap Ok (same_ok found dists h)
entries_are path bytes dists true (Err fault) e h = absurd (cc)
entries_are path bytes dists false r e h = absurd (cc)

none_any : (p : FileItem → Bool) (files : List FileItem) → find p files ≡ None → list_any p files ≡ false
none_any p [] h = refl
none_any p (f ∷ files) h = elim (p f) as (λ b. p f ≡ b → cond b (Some f) (find p files) ≡ None → (b || list_any p files) ≡ false) [
  | true ↦ λ e k. absurd (cc)
  | false ↦ λ e k. none_any p files k
] refl h

abbrev by_found : List ℕ → Option FileItem → Result (Unit {0}) PlanError
by_found folder found = elim found [
  | None ↦ Ok tt
  | Some f ↦ Err (BadPort (joined folder f.path) 0 Reserved)
]

free_is : (folder : List ℕ) (files : List FileItem) (u : Unit {0}) (found : Option FileItem) → find (λ file. is_kept_for_dist file.path) files ≡ found → refuse_kept folder files ≡ Ok u → list_any (λ file. is_kept_for_dist file.path) files ≡ false
free_is folder files u None e h = none_any (λ file. is_kept_for_dist file.path) files e
free_is folder files u (Some f) e h = absurd (let no : by_found folder (Some f) ≡ Ok u = sym (ap (by_found folder) e) ∙ h in cc)

-- the entries of a list beside a port's own files
pub record IsListed (node : NodeInfo) (own : Gathered) (bytes : List ℕ) (dists : List Dist) : Type 0 where
  pub list : distinfo_of bytes ≡ Ok dists
  pub free : list_any (λ file. is_kept_for_dist file.path) own.files ≡ false

listed_is : (node : NodeInfo) (own : Gathered) (bytes : List ℕ) (dists : List Dist) → list_beside node own bytes ≡ Ok dists → IsListed node own bytes dists
listed_is node own bytes dists h =
    let on : GoesOn (entries_in (distinfo_file node.origin) bytes) (λ found. refuse_kept (files_folder node.origin) own.files >>= (λ free. Ok found)) dists = goes_on _ _ dists h in
    let after : GoesOn (refuse_kept (files_folder node.origin) own.files) (λ free. Ok on.first) dists = goes_on _ _ dists on.then in
    let same : on.first ≡ dists = same_ok on.first dists after.then in
    record {
      list = entries_are (distinfo_file node.origin) bytes on.first (nat_le (length bytes) (most FileBytes)) (distinfo_of bytes) refl on.is ∙ ap Ok same;
      free = free_is (files_folder node.origin) own.files after.first (find (λ file. is_kept_for_dist file.path) own.files) refl after.is;
    }

by_list_is : (content : Contents) (node : NodeInfo) (own g : Gathered) (bytes : List ℕ) → by_list content node own bytes ≡ Ok g → with_list content own.files bytes ≡ Some g.files
by_list_is content node own g bytes h =
    let on : GoesOn (list_beside node own bytes) (λ dists. distfiles content node.node own.bytes dists >>= (λ more. Ok (with_distfiles own more))) g = goes_on _ _ g h in
    let listed : IsListed node own bytes on.first = listed_is node own bytes on.first on.is in
    let after : GoesOn (distfiles content node.node own.bytes on.first) (λ more. Ok (with_distfiles own more)) g = goes_on _ _ g on.then in
    let taken : AreTaken content on.first (nothing_yet own.bytes) after.first = dists_are content node.node on.first (nothing_yet own.bytes) after.first after.is in
    let same : with_distfiles own after.first ≡ g = same_ok (with_distfiles own after.first) g after.then in
    ap (λ r. option_and_then (with_entries content own.files) (result_ok r)) listed.list
    ∙ ap (λ b. cond b None (option_map (together own.files) (all_given (dist_file content) on.first))) listed.free
    ∙ ap (option_map (together own.files)) taken.stand
    ∙ ap (λ fs. Some (together own.files fs)) (sym taken.more)
    ∙ ap (λ (x : Gathered). Some x.files) same

listed_files : (content : Contents) (node : NodeInfo) (own g : Gathered) (held : Option (List ℕ)) → option_map_or (by_list content node own) held (Ok own) ≡ Ok g
    → option_map_or (with_list content own.files) held (Some own.files) ≡ Some g.files
listed_files content node own g None h = ap (λ (x : Gathered). Some x.files) (same_ok own g h)
listed_files content node own g (Some bytes) h = by_list_is content node own g bytes h

its_files : (content : Contents) (node : NodeInfo) (own g : Gathered) (b : Bool) → b ≡ false → cond b (Ok own) (with_listed content node own) ≡ Ok g
    → option_map_or (with_list content own.files) (get content (distinfo_file node.origin)) (Some own.files) ≡ Some g.files
its_files content node own g true e h = absurd (cc)
its_files content node own g false e h = listed_files content node own g (get content (distinfo_file node.origin)) h

-- the files of a job that nothing refuses are the tree's
pub files_are : (content : Contents) (node : NodeInfo) (bytes : ℕ) (g : Gathered) → is_some node.ignored ≡ false → node_files content node bytes ≡ Ok g → files_by_tree content node ≡ Some g.files
unfolding node_files
files_are content node bytes g i h =
    let on : GoesOn (folder_files content (files_folder node.origin) bytes) (with_its_distfiles content node) g = goes_on _ _ g h in
    let own : on.first.files ≡ own_files content node = folder_is (files_folder node.origin) content (files_below (files_folder node.origin) content) (nothing_yet bytes) on.first on.is in
    ap (λ fs. option_map_or (with_list content fs) (get content (distinfo_file node.origin)) (Some fs)) (sym own)
    ∙ its_files content node on.first g (is_some node.ignored) i on.then
