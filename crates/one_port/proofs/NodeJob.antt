-- The job of a node in form is in form, and the jobs of nodes so far.
use Rattle.std.proofs.Common.{◌≡◌, ℕ, ◌+◌, ◌<◌, ◌≤◌, true, List, [], ◌∷◌, ◌++◌, length, take, drop, map, get_or, ◌∙◌, sym, ap, refl, Result, Ok, Err}
use Rattle.std.specs.Prelude.{Option, Some, None, slice_get, find, cond, Bool, false}
use Rattle.std.specs.Option.{option_or}
use Rattle.std.specs.List.{cons_option}
use Rattle.std.proofs.lemmas.List.{append_assoc, append-nil, at_drop_more, at_drop_all, take_more, map-append, take_all, take-append-drop}
use Rattle.std.proofs.lemmas.List.Elements.{filter_map-append}
use Rattle.std.proofs.lemmas.List.Folds.{find-append}
use Rattle.port_vars.specs.Assignment.{mapped, ◌>>=◌}
use Rattle.outside.specs.Contents.{Contents}
use Rattle.bulk_base.specs.Names.{IsOrigin}
use Rattle.bulk_base.specs.declared.file.FileItem.{FileItem}
use Rattle.bulk_model.specs.Facts.{IsJob, IsDependList, IsFileList}
use Rattle.bulk_model.specs.Views.{JobView}
use Rattle.tree_index.specs.declared.node.NodeInfo.{NodeInfo}
use Rattle.tree_index.specs.Facts.{IsNodeInfo, IsPlace}
use Rattle.tree_index.specs.Places.{origin_name}
use Rattle.port_name.specs.declared.place.Origin.{Origin}
use Rattle.one_port.specs.declared.answer.Answer.{Answer}
use Rattle.one_port.specs.NodeJobs.{job_with, job_in, jobs_in, nodes_at}
use Rattle.one_port.specs.PortsWanted.{names_of}

origin_form : (origin : Origin) → IsPlace origin → IsOrigin (origin_name origin)
origin_form origin h = record { category = origin.category; port = origin.port; category_form = h.category; port_form = h.port; spelled = refl }

no_depends : IsDependList []
no_depends = record { order = refl; nodes = tt; names = tt }

pub IsJob-node : (node : NodeInfo) (files : List FileItem) → IsNodeInfo node → IsFileList 1019 files → IsJob (job_with node files)
IsJob-node node files h f = record {
  name = h.name;
  origin = origin_form node.origin h.origin;
  flavor = h.flavor;
  options = h.options;
  depends = no_depends;
  files = f;
}

-- ---- jobs of nodes with some numbers, one after another

-- the jobs so far, and then what the rest gives
abbrev pub joined : List JobView → Result (List JobView) Answer → Result (List JobView) Answer
joined jobs rest = mapped (λ others. jobs ++ others) rest

-- what is due of the numbers from one on
abbrev due_from : Contents → List NodeInfo → List JobView → List ℕ → Result (List JobView) Answer
due_from content nodes acc numbers = joined acc (jobs_in content (nodes_at nodes numbers))

-- the same where the first number's node is known
abbrev due_at : Contents → List NodeInfo → List JobView → List ℕ → Option NodeInfo → Result (List JobView) Answer
due_at content nodes acc numbers found = joined acc (jobs_in content (cons_option found (nodes_at nodes numbers)))

due_next : (content : Contents) (nodes : List NodeInfo) (numbers : List ℕ) (i : ℕ) (found : Option NodeInfo) (acc : List JobView) → i < length numbers → slice_get nodes (get_or numbers i 0) ≡ found
    → due_from content nodes acc (drop i numbers) ≡ due_at content nodes acc (drop (i + 1) numbers) found
due_next content nodes numbers i found acc l f =
    at_drop_more (due_from content nodes acc) numbers i 0 l ∙ ap (due_at content nodes acc (drop (i + 1) numbers)) f

one_more : (acc : List JobView) (job : JobView) (rest : Result (List JobView) Answer) → joined acc (rest >>= (λ jobs. Ok (job ∷ jobs))) ≡ joined (acc ++ job ∷ []) rest
one_more acc job (Ok jobs) = ap Ok (sym (append_assoc acc (job ∷ []) jobs))
one_more acc job (Err e) = refl

pub job_more : (content : Contents) (nodes : List NodeInfo) (numbers : List ℕ) (i : ℕ) (node : NodeInfo) (job : JobView) (acc now : List JobView) (whole : Result (List JobView) Answer)
    → i < length numbers → slice_get nodes (get_or numbers i 0) ≡ Some node → job_in content node ≡ Ok job → now ≡ acc ++ job ∷ []
    → whole ≡ joined acc (jobs_in content (nodes_at nodes (drop i numbers))) → whole ≡ joined now (jobs_in content (nodes_at nodes (drop (i + 1) numbers)))
job_more content nodes numbers i node job acc now whole l f r w h =
    h ∙ due_next content nodes numbers i (Some node) acc l f
    ∙ ap (λ j. joined acc (j >>= (λ job. jobs_in content (nodes_at nodes (drop (i + 1) numbers)) >>= (λ jobs. Ok (job ∷ jobs))))) r
    ∙ one_more acc job (jobs_in content (nodes_at nodes (drop (i + 1) numbers)))
    ∙ ap (λ acc. joined acc (jobs_in content (nodes_at nodes (drop (i + 1) numbers)))) (sym w)

pub no_job : (content : Contents) (nodes : List NodeInfo) (numbers : List ℕ) (i : ℕ) (acc : List JobView) (whole : Result (List JobView) Answer) → i < length numbers → slice_get nodes (get_or numbers i 0) ≡ None
    → whole ≡ joined acc (jobs_in content (nodes_at nodes (drop i numbers))) → whole ≡ joined acc (jobs_in content (nodes_at nodes (drop (i + 1) numbers)))
no_job content nodes numbers i acc whole l f h = h ∙ due_next content nodes numbers i None acc l f

pub job_refused : (content : Contents) (nodes : List NodeInfo) (numbers : List ℕ) (i : ℕ) (node : NodeInfo) (answer : Answer) (acc : List JobView) (whole : Result (List JobView) Answer)
    → i < length numbers → slice_get nodes (get_or numbers i 0) ≡ Some node → job_in content node ≡ Err answer
    → whole ≡ joined acc (jobs_in content (nodes_at nodes (drop i numbers))) → whole ≡ Err answer
job_refused content nodes numbers i node answer acc whole l f r h =
    h ∙ due_next content nodes numbers i (Some node) acc l f
    ∙ ap (λ j. joined acc (j >>= (λ job. jobs_in content (nodes_at nodes (drop (i + 1) numbers)) >>= (λ jobs. Ok (job ∷ jobs))))) r

pub jobs_done : (content : Contents) (nodes : List NodeInfo) (numbers : List ℕ) (i : ℕ) (acc : List JobView) (whole : Result (List JobView) Answer)
    → length numbers ≤ i → whole ≡ joined acc (jobs_in content (nodes_at nodes (drop i numbers))) → whole ≡ Ok acc
jobs_done content nodes numbers i acc whole l h =
    h ∙ at_drop_all (λ numbers. joined acc (jobs_in content (nodes_at nodes numbers))) numbers i l ∙ ap Ok (append-nil acc)

-- ---- the nodes with the first of some numbers

nodes_more : (nodes : List NodeInfo) (numbers : List ℕ) (i : ℕ) (found : Option NodeInfo) → i < length numbers → slice_get nodes (get_or numbers i 0) ≡ found
    → nodes_at nodes (take (i + 1) numbers) ≡ nodes_at nodes (take i numbers) ++ cons_option found []
nodes_more nodes numbers i found l f =
    ap (nodes_at nodes) (take_more numbers i 0 l) ∙ filter_map-append (slice_get nodes) (take i numbers) (get_or numbers i 0 ∷ [])
    ∙ ap (λ o. nodes_at nodes (take i numbers) ++ cons_option o []) f

pub name_more : (nodes : List NodeInfo) (numbers : List ℕ) (i : ℕ) (node : NodeInfo) (job : JobView) (jobs now : List JobView) → i < length numbers → slice_get nodes (get_or numbers i 0) ≡ Some node
    → job.name ≡ node.desc.name → now ≡ jobs ++ job ∷ [] → names_of jobs ≡ map (λ node. node.desc.name) (nodes_at nodes (take i numbers)) → names_of now ≡ map (λ node. node.desc.name) (nodes_at nodes (take (i + 1) numbers))
name_more nodes numbers i node job jobs now l f j w h =
    ap names_of w ∙ map-append (λ job. job.name) jobs (job ∷ []) ∙ ap (λ names. names ++ job.name ∷ []) h ∙ ap (λ name. map (λ node. node.desc.name) (nodes_at nodes (take i numbers)) ++ name ∷ []) j
    ∙ sym (ap (map (λ node. node.desc.name)) (nodes_more nodes numbers i (Some node) l f) ∙ map-append (λ node. node.desc.name) (nodes_at nodes (take i numbers)) (node ∷ []))

pub no_name : (nodes : List NodeInfo) (numbers : List ℕ) (i : ℕ) (jobs : List JobView) → i < length numbers → slice_get nodes (get_or numbers i 0) ≡ None
    → names_of jobs ≡ map (λ node. node.desc.name) (nodes_at nodes (take i numbers)) → names_of jobs ≡ map (λ node. node.desc.name) (nodes_at nodes (take (i + 1) numbers))
no_name nodes numbers i jobs l f h =
    h ∙ sym (ap (map (λ node. node.desc.name)) (nodes_more nodes numbers i None l f ∙ append-nil (nodes_at nodes (take i numbers))))

pub names_done : (nodes : List NodeInfo) (numbers : List ℕ) (i : ℕ) (jobs : List JobView) → length numbers ≤ i
    → names_of jobs ≡ map (λ node. node.desc.name) (nodes_at nodes (take i numbers)) → names_of jobs ≡ map (λ node. node.desc.name) (nodes_at nodes numbers)
names_done nodes numbers i jobs l h = h ∙ ap (λ numbers. map (λ node. node.desc.name) (nodes_at nodes numbers)) (take_all i numbers l)

-- ---- the first node that passes a test

pub none_passes : (p : NodeInfo → Bool) (nodes : List NodeInfo) (numbers : List ℕ) (i : ℕ) (node : NodeInfo) → i < length numbers → slice_get nodes (get_or numbers i 0) ≡ Some node → p node ≡ false
    → find p (nodes_at nodes (take i numbers)) ≡ None → find p (nodes_at nodes (take (i + 1) numbers)) ≡ None
none_passes p nodes numbers i node l f fails h =
    ap (find p) (nodes_more nodes numbers i (Some node) l f) ∙ find-append p (nodes_at nodes (take i numbers)) (node ∷ []) ∙ ap (λ o. option_or o (cond (p node) (Some node) None)) h ∙ ap (λ b. cond b (Some node) None) fails

pub none_there : (p : NodeInfo → Bool) (nodes : List NodeInfo) (numbers : List ℕ) (i : ℕ) → i < length numbers → slice_get nodes (get_or numbers i 0) ≡ None
    → find p (nodes_at nodes (take i numbers)) ≡ None → find p (nodes_at nodes (take (i + 1) numbers)) ≡ None
none_there p nodes numbers i l f h = ap (find p) (nodes_more nodes numbers i None l f ∙ append-nil (nodes_at nodes (take i numbers))) ∙ h

pub none_at_end : (p : NodeInfo → Bool) (nodes : List NodeInfo) (numbers : List ℕ) (i : ℕ) → length numbers ≤ i → find p (nodes_at nodes (take i numbers)) ≡ None → find p (nodes_at nodes numbers) ≡ None
none_at_end p nodes numbers i l h = sym (ap (λ numbers. find p (nodes_at nodes numbers)) (take_all i numbers l)) ∙ h

pub first_passes : (p : NodeInfo → Bool) (nodes : List NodeInfo) (numbers : List ℕ) (i : ℕ) (node : NodeInfo) → i < length numbers → slice_get nodes (get_or numbers i 0) ≡ Some node → p node ≡ true
    → find p (nodes_at nodes (take i numbers)) ≡ None → find p (nodes_at nodes numbers) ≡ Some node
first_passes p nodes numbers i node l f passes h =
    ap (λ numbers. find p (nodes_at nodes numbers)) (sym (take-append-drop i numbers)) ∙ ap (find p) (filter_map-append (slice_get nodes) (take i numbers) (drop i numbers))
    ∙ find-append p (nodes_at nodes (take i numbers)) (nodes_at nodes (drop i numbers)) ∙ ap (λ o. option_or o (find p (nodes_at nodes (drop i numbers)))) h
    ∙ at_drop_more (λ numbers. find p (nodes_at nodes numbers)) numbers i 0 l
    ∙ ap (λ o. find p (cons_option o (nodes_at nodes (drop (i + 1) numbers)))) f ∙ ap (λ b. cond b (Some node) (find p (nodes_at nodes (drop (i + 1) numbers)))) passes
