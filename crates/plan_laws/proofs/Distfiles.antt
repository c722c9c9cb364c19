-- The files of a job below `dist/` are those that its list states.
use Rattle.std.proofs.Common.{◌≡◌, ◌∙◌, ℕ, ◌<◌, Bool, true, false, List, [], ◌∷◌, ◌++◌, length, ap, sym, refl, cond, append-nil, subst}
use Rattle.std.specs.Prelude.{Option, Some, None, Result, Ok, Err, not, ◌||◌, ◌==◌, filter, codes, bytes_eq}
use Rattle.std.specs.Option.{option_map, option_map_or, option_and_then}
use Rattle.std.specs.Result.{is_ok, result_ok}
use Rattle.std.specs.List.{list_any}
use Rattle.std.specs.FinMap.{get}
use Rattle.std.proofs.lemmas.Bool.{eqb-true, or_right}
use Rattle.std.proofs.lemmas.Option.{same_Some}
use Rattle.std.proofs.lemmas.Slice.Eq.{bytes_eq-Decides}
use Rattle.bulk_base.specs.Path.{is_below}
use Rattle.bulk_base.specs.declared.file.FileItem.{FileItem}
use Rattle.bulk_base.proofs.Paths.{is_below-joined}
use Rattle.bulk_model.specs.Digests.{digest_of, is_same}
use Rattle.bulk_model.specs.declared.digest.Digest.{Digest}
use Rattle.bulk_model.specs.PlanView.{PlanView, count, job_at, is_ignored}
use Rattle.bulk_model.specs.Views.{JobView}
use Rattle.outside.specs.Contents.{Contents}
use Rattle.dist_files.specs.Checked.{checked}
use Rattle.dist_files.specs.Distinfo.{distinfo_of}
use Rattle.dist_files.specs.declared.dist.Dist.{Dist}
use Rattle.dist_files.specs.declared.fault.DistError.{DistError}
use Rattle.dist_files.specs.declared.fault.DistWhy.{DistWhy}
use Rattle.dist_files.specs.declared.fault.DistWhy.TheVariants.{Size, Digest as OtherDigest}
use Rattle.tree_index.specs.Index.{IndexView}
use Rattle.tree_index.specs.Places.{distinfo_file}
use Rattle.tree_index.specs.declared.node.NodeInfo.{NodeInfo}
use Rattle.tree_index.proofs.Lists.{filter_append}
use Rattle.job_files.specs.Distfiles.{tree_path, job_path, is_kept_for_dist, comes_before_dist, together}
use Rattle.job_files.specs.Gathered.{file}
use Rattle.plan_maker.specs.Jobs.{node_at}
use Rattle.plan_maker.specs.Plans.{plan_in}
use Rattle.plan_maker.specs.TreeJobs.{own_files, stated_file, dist_file, all_given, with_entries, with_list, files_by_tree}
use Rattle.plan_laws.specs.Laws.{number_at, IsAsStated, AreAsStated, HasItsDistfiles, dist_part}
use Rattle.plan_laws.proofs.Built.{job_here, files_here}
use Rattle.plan_laws.proofs.Making.{IsMade, is_made, IsJobOf}

-- ---- one file

abbrev kept_for : FileItem → Bool
kept_for f = is_kept_for_dist f.path

digest : List ℕ → Digest
digest bytes = record { bytes = bytes }

same_digest : (a b : Digest) → is_same a b ≡ true → a ≡ b
unfolding digest
same_digest a b h = ap digest ((bytes_eq-Decides a.bytes b.bytes).0 h)

stated_case : (dist : Dist) (bytes : List ℕ) (size same : Bool) (u : Unit {0}) → (length bytes == dist.size) ≡ size → is_same dist.sha256 (digest_of bytes) ≡ same
    → cond (not size) (Err (Size dist.size (length bytes))) (cond (not same) (Err (OtherDigest dist.sha256 (digest_of bytes))) (Ok tt)) ≡ Ok u
    → IsAsStated dist (file (job_path dist.file) bytes)
stated_case dist bytes false same u e f h = absurd (cc)
stated_case dist bytes true false u e f h = absurd (cc)
stated_case dist bytes true true u e f h = record { path = refl; size = eqb-true (length bytes) dist.size e; digest = sym (same_digest dist.sha256 (digest_of bytes) f) }

checked_case : (dist : Dist) (bytes : List ℕ) (f : FileItem) (r : Result (Unit {0}) DistWhy) → checked dist bytes ≡ r → cond (is_ok r) (Some (file (job_path dist.file) bytes)) None ≡ Some f → IsAsStated dist f
checked_case dist bytes f (Err why) e h = absurd (cc)
checked_case dist bytes f (Ok u) e h =
    subst (IsAsStated dist) (same_Some (file (job_path dist.file) bytes) f h) (stated_case dist bytes (length bytes == dist.size) (is_same dist.sha256 (digest_of bytes)) u refl refl e)

held_case : (dist : Dist) (f : FileItem) (held : Option (List ℕ)) → option_and_then (stated_file dist) held ≡ Some f → IsAsStated dist f
held_case dist f None h = absurd (cc)
held_case dist f (Some bytes) h = checked_case dist bytes f (checked dist bytes) refl h

is_stated : (content : Contents) (dist : Dist) (f : FileItem) → dist_file content dist ≡ Some f → IsAsStated dist f
is_stated content dist f h = held_case dist f (get content (tree_path dist.file)) h

-- ---- all files

more_case : (content : Contents) (dist : Dist) (dists : List Dist) (taken : List FileItem) (f : FileItem) (rest : Option (List FileItem))
    → dist_file content dist ≡ Some f → ((fs : List FileItem) → rest ≡ Some fs → AreAsStated dists fs) → option_map (λ fs. f ∷ fs) rest ≡ Some taken → AreAsStated (dist ∷ dists) taken
more_case content dist dists taken f None e each h = absurd (cc)
more_case content dist dists taken f (Some fs) e each h = subst (AreAsStated (dist ∷ dists)) (same_Some (f ∷ fs) taken h) (is_stated content dist f e, each fs refl)

given_case : (content : Contents) (dist : Dist) (dists : List Dist) (taken : List FileItem) (found : Option FileItem)
    → dist_file content dist ≡ found → ((fs : List FileItem) → all_given (dist_file content) dists ≡ Some fs → AreAsStated dists fs)
    → option_and_then (λ f. option_map (λ fs. f ∷ fs) (all_given (dist_file content) dists)) found ≡ Some taken → AreAsStated (dist ∷ dists) taken
given_case content dist dists taken None e each h = absurd (cc)
given_case content dist dists taken (Some f) e each h = more_case content dist dists taken f (all_given (dist_file content) dists) e each h

are_stated : (content : Contents) (dists : List Dist) (taken : List FileItem) → all_given (dist_file content) dists ≡ Some taken → AreAsStated dists taken
are_stated content [] taken h = subst (AreAsStated []) (same_Some [] taken h) tt
are_stated content (dist ∷ dists) taken h = given_case content dist dists taken (dist_file content dist) refl (λ fs e. are_stated content dists fs e) h

-- ---- those below `dist/`

stands_below : (dist : Dist) (f : FileItem) → IsAsStated dist f → kept_for f ≡ true
stands_below dist f is =
    ap is_kept_for_dist is.path
    ∙ or_right (bytes_eq (codes "dist") (job_path dist.file)) (is_below (codes "dist") (job_path dist.file)) (is_below-joined (codes "dist") dist.file)

taken_stay : (dists : List Dist) (taken : List FileItem) → AreAsStated dists taken → filter kept_for taken ≡ taken
taken_stay [] [] are = refl
taken_stay [] (f ∷ taken) are = absurd are
taken_stay (dist ∷ dists) [] are = refl
taken_stay (dist ∷ dists) (f ∷ taken) are =
    ap (λ b. cond b (f ∷ filter kept_for taken) (filter kept_for taken)) (stands_below dist f are.0) ∙ ap (λ fs. f ∷ fs) (taken_stay dists taken are.1)

none_case : (p : FileItem → Bool) (f : FileItem) (fs : List FileItem) (b k : Bool) → kept_for f ≡ k → (k || list_any kept_for fs) ≡ false → (list_any kept_for fs ≡ false → filter kept_for (filter p fs) ≡ [])
    → filter kept_for (cond b (f ∷ filter p fs) (filter p fs)) ≡ []
none_case p f fs b true e h rest = absurd (cc)
none_case p f fs true false e h rest = ap (λ c. cond c (f ∷ filter kept_for (filter p fs)) (filter kept_for (filter p fs))) e ∙ rest h
none_case p f fs false false e h rest = rest h

none_of : (p : FileItem → Bool) (fs : List FileItem) → list_any kept_for fs ≡ false → filter kept_for (filter p fs) ≡ []
none_of p [] h = refl
none_of p (f ∷ fs) h = none_case p f fs (p f) (kept_for f) refl h (λ k. none_of p fs k)

only_taken : (own taken : List FileItem) (dists : List Dist) → list_any kept_for own ≡ false → AreAsStated dists taken → filter kept_for (together own taken) ≡ taken
only_taken own taken dists h are =
    let before : List FileItem = filter comes_before_dist own in
    let behind : List FileItem = filter (λ f. not (comes_before_dist f)) own in
    filter_append kept_for before (taken ++ behind)
    ∙ ap (λ fs. fs ++ filter kept_for (taken ++ behind)) (none_of comes_before_dist own h)
    ∙ filter_append kept_for taken behind
    ∙ ap (λ fs. filter kept_for taken ++ fs) (none_of (λ f. not (comes_before_dist f)) own h)
    ∙ append-nil (filter kept_for taken)
    ∙ taken_stay dists taken are

-- ---- a list

record IsListed (bytes : List ℕ) (files : List FileItem) : Type 0 where
  dists : List Dist
  list : distinfo_of bytes ≡ Ok dists
  stated : AreAsStated dists (filter kept_for files)

taken_case : (own files : List FileItem) (bytes : List ℕ) (dists : List Dist) (found : Option (List FileItem)) → distinfo_of bytes ≡ Ok dists → list_any kept_for own ≡ false
    → ((taken : List FileItem) → found ≡ Some taken → AreAsStated dists taken) → option_map (together own) found ≡ Some files → IsListed bytes files
taken_case own files bytes dists None e b each h = absurd (cc)
taken_case own files bytes dists (Some taken) e b each h =
    let are : AreAsStated dists taken = each taken refl in
    let same : together own taken ≡ files = same_Some (together own taken) files h in
    record { dists = dists; list = e; stated = subst (AreAsStated dists) (sym (only_taken own taken dists b are) ∙ ap (filter kept_for) same) are }

free_case : (content : Contents) (own files : List FileItem) (bytes : List ℕ) (dists : List Dist) (b : Bool) → distinfo_of bytes ≡ Ok dists → list_any kept_for own ≡ b
    → cond b None (option_map (together own) (all_given (dist_file content) dists)) ≡ Some files → IsListed bytes files
free_case content own files bytes dists true e k h = absurd (cc)
free_case content own files bytes dists false e k h = taken_case own files bytes dists (all_given (dist_file content) dists) e k (λ taken g. are_stated content dists taken g) h

list_case : (content : Contents) (own files : List FileItem) (bytes : List ℕ) (r : Result (List Dist) DistError) → distinfo_of bytes ≡ r → option_and_then (with_entries content own) (result_ok r) ≡ Some files → IsListed bytes files
list_case content own files bytes (Err e) k h = absurd (cc)
list_case content own files bytes (Ok dists) k h = free_case content own files bytes dists (list_any kept_for own) k refl h

is_listed : (content : Contents) (node : NodeInfo) (files : List FileItem) (bytes : List ℕ) → get content (distinfo_file node.origin) ≡ Some bytes → files_by_tree content node ≡ Some files → IsListed bytes files
is_listed content node files bytes e h =
    list_case content (own_files content node) files bytes (distinfo_of bytes) refl
    (ap (λ held. option_map_or (with_list content (own_files content node)) held (Some (own_files content node))) (sym e) ∙ h)

pub has_distfiles : (content : Contents) (index : IndexView) (wanted boost : List ℕ) (plan : PlanView) (n : ℕ) (bytes : List ℕ) → plan_in content index wanted boost ≡ Ok plan → n < count plan → is_ignored plan n ≡ false
    → get content (distinfo_file (node_at index (number_at index wanted n)).origin) ≡ Some bytes → HasItsDistfiles bytes (job_at plan n)
has_distfiles content index wanted boost plan n bytes e l b h =
    let made : IsMade content index wanted boost plan = is_made content index wanted boost plan e in
    let here : IsJobOf content index (number_at index wanted n) (job_at plan n) = job_here content index wanted boost plan made n l in
    let listed : IsListed bytes here.gathered.files = is_listed content (node_at index (number_at index wanted n)) here.gathered.files bytes h (files_here content index wanted boost plan made n l b) in
    record { dists = listed.dists; list = listed.list; stated = subst (λ (job : JobView). AreAsStated listed.dists (dist_part job)) (sym here.is) listed.stated }
