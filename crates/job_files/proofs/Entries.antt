-- The entries of a list stand by file, none a folder of another, each short enough to stand below a folder.
use Rattle.std.proofs.Common.{◌≡◌, ℕ, ◌+◌, Bool, true, false, List, [], ◌∷◌, length, ap, subst, sym, ◌∙◌, refl, cond, map, Ok, Err}
use Rattle.std.specs.Prelude.{Option, Some, None, not, ◌&&◌, nat_le, is_some, find, position, Contains, codes, IfSome}
use Rattle.std.specs.Option.{option_and_then, option_map}
use Rattle.std.specs.declared.result.Result.{Result}
use Rattle.std.specs.List.{list_all, list_any, filter_map, cons_option}
use Rattle.std.specs.Str.Lines.{lines}
use Rattle.std.proofs.lemmas.Bool.{and_parts, and_from}
use Rattle.std.proofs.lemmas.Option.{same_Some}
use Rattle.bulk_base.specs.Path.{is_below}
use Rattle.bulk_base.proofs.InOrder.{list_all-in_order, in_order-ascends}
use Rattle.bulk_base.proofs.Members.{passes_all, contains_find, member_any}
use Rattle.outside.specs.Contents.{IsAscending, has_no_folder}
use Rattle.bulk_model.specs.declared.digest.Digest.{Digest}
use Rattle.dist_files.specs.declared.dist.Dist.{Dist}
use Rattle.dist_files.specs.declared.fault.DistError.{DistError}
use Rattle.dist_files.specs.declared.fault.DistError.TheVariants.{BadLine, Unpaired, Collide}
use Rattle.dist_files.specs.Distinfo.{judged, distinfo_of, entry, files_in, is_unpaired, is_inside, dist, dist_of, only, facts, hash_in, size_in}
use Rattle.dist_files.specs.Lines.{said, is_bad, is_file, statement, statement_of, stated_by, stated, hash_fact, size_fact, name_and_word, behind}
use Rattle.job_files.specs.FileForms.{AreEntries, files_of}

-- ---- what an accepted list has

pub record IsJudged (entry_of : List ℕ → Option Dist) (files : List (List ℕ)) (dists : List Dist) : Type 0 where
  pub paired : find (is_unpaired entry_of) files ≡ None
  pub apart : find (is_inside files) files ≡ None
  pub all : filter_map entry_of files ≡ dists

abbrev inner : (List ℕ → Option Dist) → List (List ℕ) → Option (List ℕ) → Result (List Dist) DistError
inner entry_of files found = elim found [
  | Some file ↦ Err (Collide file)
  | None ↦ Ok (filter_map entry_of files)
]

abbrev outer : (List ℕ → Option Dist) → List (List ℕ) → Option (List ℕ) → Result (List Dist) DistError
outer entry_of files found = elim found [
  | Some file ↦ Err (Unpaired file)
  | None ↦ inner entry_of files (find (is_inside files) files)
]

same_ok : {A E : Type 0} (a b : A) → (let r : Result A E = Ok a in r) ≡ Ok b → a ≡ b
same_ok a b e = cc e

at_inner : (entry_of : List ℕ → Option Dist) (files : List (List ℕ)) (dists : List Dist) (found : Option (List ℕ)) → find (is_inside files) files ≡ found
    → find (is_unpaired entry_of) files ≡ None → inner entry_of files found ≡ Ok dists → IsJudged entry_of files dists
at_inner entry_of files dists None f p h = record { paired = p; apart = f; all = same_ok (filter_map entry_of files) dists h }
at_inner entry_of files dists (Some file) f p h = absurd (cc)

at_outer : (entry_of : List ℕ → Option Dist) (files : List (List ℕ)) (dists : List Dist) (found : Option (List ℕ)) → find (is_unpaired entry_of) files ≡ found
    → outer entry_of files found ≡ Ok dists → IsJudged entry_of files dists
at_outer entry_of files dists None f h = at_inner entry_of files dists (find (is_inside files) files) refl f h
at_outer entry_of files dists (Some file) f h = absurd (cc)

judged_has : (entry_of : List ℕ → Option Dist) (files : List (List ℕ)) (dists : List Dist) → judged entry_of files ≡ Ok dists → IsJudged entry_of files dists
judged_has entry_of files dists h = at_outer entry_of files dists (find (is_unpaired entry_of) files) refl h

abbrev answer : List (List ℕ) → Option ℕ → Result (List Dist) DistError
answer ls place = elim place [
  | Some at ↦ Err (BadLine (at + 1))
  | None ↦ judged (entry (filter_map said ls)) (files_in (filter_map said ls))
]

at_answer : (ls : List (List ℕ)) (dists : List Dist) (place : Option ℕ) → answer ls place ≡ Ok dists → IsJudged (entry (filter_map said ls)) (files_in (filter_map said ls)) dists
at_answer ls dists None h = judged_has (entry (filter_map said ls)) (files_in (filter_map said ls)) dists h
at_answer ls dists (Some at) h = absurd (cc)

pub list_has : (bytes : List ℕ) (dists : List Dist) → distinfo_of bytes ≡ Ok dists → IsJudged (entry (filter_map said (lines bytes))) (files_in (filter_map said (lines bytes))) dists
unfolding distinfo_of
list_has bytes dists h = at_answer (lines bytes) dists (position is_bad (lines bytes)) h

-- ---- the files of the entries are those of which something is stated

file_of_dist : (file : List ℕ) (sha256 : Option Digest) (size : Option ℕ) (d : Dist) → dist_of file sha256 size ≡ Some d → d.file ≡ file
file_of_dist file None size d h = absurd (cc)
file_of_dist file (Some s) None d h = absurd (cc)
file_of_dist file (Some s) (Some n) d h = ap (λ x. x.file) (sym (same_Some (dist file s n) d h))

entry_named : (ls : List (List ℕ)) (file : List ℕ) (d : Dist) → entry (filter_map said ls) file ≡ Some d → d.file ≡ file
entry_named ls file d h = file_of_dist file (only (facts hash_in file (filter_map said ls))) (only (facts size_in file (filter_map said ls))) d h

abbrev Names : (List ℕ → Option Dist) → Type 0
Names entry_of = (file : List ℕ) (d : Dist) → entry_of file ≡ Some d → d.file ≡ file

files_more : (entry_of : List ℕ → Option Dist) (file : List ℕ) (files : List (List ℕ)) (o : Option Dist) → Names entry_of → entry_of file ≡ o
    → cond (not (is_some o)) (Some file) (find (is_unpaired entry_of) files) ≡ None
    → (find (is_unpaired entry_of) files ≡ None → files_of (filter_map entry_of files) ≡ files) → files_of (cons_option o (filter_map entry_of files)) ≡ file ∷ files
files_more entry_of file files None named e h more = absurd (cc)
files_more entry_of file files (Some d) named e h more = (λ i. named file d e i ∷ more h i)

files_are : (entry_of : List ℕ → Option Dist) (files : List (List ℕ)) → Names entry_of → find (is_unpaired entry_of) files ≡ None → files_of (filter_map entry_of files) ≡ files
files_are entry_of [] named h = refl
files_are entry_of (file ∷ files) named h = files_more entry_of file files (entry_of file) named refl h (files_are entry_of files named)

-- ---- none is a folder of another

none_passes : (p : List ℕ → Bool) (xs : List (List ℕ)) (x : List ℕ) (b : Bool) → find p xs ≡ None → Contains xs x → p x ≡ b → b ≡ false
none_passes p xs x true h c e = let found = contains_find p xs x c e in absurd (let no : None ≡ Some found.0 = sym h ∙ found.1 in cc)
none_passes p xs x false h c e = refl

not_below : (files : List (List ℕ)) (folder path : List ℕ) (b : Bool) → is_below folder path ≡ b → Contains files folder → is_inside files path ≡ false → not b ≡ true
not_below files folder path true e c h = absurd (let no : false ≡ true = sym h ∙ member_any (λ other. is_below other path) files folder c e in cc)
not_below files folder path false e c h = refl

files_apart : (files : List (List ℕ)) → find (is_inside files) files ≡ None → has_no_folder files ≡ true
files_apart files h =
    passes_all (λ folder. list_all (λ path. not (is_below folder path)) files) files (λ folder f.
    passes_all (λ path. not (is_below folder path)) files (λ path p.
    not_below files folder path (is_below folder path) refl f (none_passes (is_inside files) files path (is_inside files path) h p refl)))

-- ---- each is short

abbrev is_short : List ℕ → Bool
is_short file = nat_le (length file) 1014

short_file : (name : List ℕ) → is_file name ≡ true → is_short name ≡ true
short_file name h = (and_parts _ (is_short name) h).1

hash_form : (name word : List ℕ) → IfSome (option_and_then (statement_of name) (hash_fact word)) (λ s. is_short s.file ≡ true)
hash_form name word =
    elim (hash_fact word) as (λ o. IfSome (option_and_then (statement_of name) o) (λ s. is_short s.file ≡ true)) [
      | None ↦ tt
      | Some fact ↦ elim (is_file name) as (λ b. is_file name ≡ b → IfSome (cond b (Some (statement name fact)) None) (λ s. is_short s.file ≡ true)) [
        | true ↦ λ e. short_file name e
        | false ↦ λ e. tt
      ] refl
    ]

size_form : (name word : List ℕ) → IfSome (option_and_then (statement_of name) (size_fact word)) (λ s. is_short s.file ≡ true)
size_form name word =
    elim (size_fact word) as (λ o. IfSome (option_and_then (statement_of name) o) (λ s. is_short s.file ≡ true)) [
      | None ↦ tt
      | Some fact ↦ elim (is_file name) as (λ b. is_file name ≡ b → IfSome (cond b (Some (statement name fact)) None) (λ s. is_short s.file ≡ true)) [
        | true ↦ λ e. short_file name e
        | false ↦ λ e. tt
      ] refl
    ]

hash_stated : (parts : Option (List ℕ × List ℕ)) → IfSome (option_and_then (stated_by hash_fact) parts) (λ s. is_short s.file ≡ true)
hash_stated None = tt
hash_stated (Some parts) = hash_form parts.0 parts.1

size_stated : (parts : Option (List ℕ × List ℕ)) → IfSome (option_and_then (stated_by size_fact) parts) (λ s. is_short s.file ≡ true)
size_stated None = tt
size_stated (Some parts) = size_form parts.0 parts.1

size_said : (text : Option (List ℕ)) → IfSome (option_and_then (stated size_fact) text) (λ s. is_short s.file ≡ true)
size_said None = tt
size_said (Some text) = size_stated (name_and_word text)

said_form : (line : List ℕ) → IfSome (said line) (λ s. is_short s.file ≡ true)
unfolding said
said_form line =
    elim (behind (codes "SHA256 (") line) as (λ o. IfSome (elim o [
      | Some text ↦ stated hash_fact text
      | None ↦ option_and_then (stated size_fact) (behind (codes "SIZE (") line)
    ]) (λ s. is_short s.file ≡ true)) [
      | None ↦ size_said (behind (codes "SIZE (") line)
      | Some text ↦ hash_stated (name_and_word text)
    ]

one_said : {S : Type 0} (file : S → List ℕ) (p : List ℕ → Bool) (o : Option S) (more : List S) → IfSome o (λ s. p (file s) ≡ true) → list_all p (map file more) ≡ true → list_all p (map file (cons_option o more)) ≡ true
one_said file p None more h k = k
one_said file p (Some s) more h k = and_from _ _ h k

-- what each that is said passes, all pass
all_said : {S : Type 0} (say : List ℕ → Option S) (file : S → List ℕ) (p : List ℕ → Bool) → ((line : List ℕ) → IfSome (say line) (λ s. p (file s) ≡ true)) → (ls : List (List ℕ))
    → list_all p (map file (filter_map say ls)) ≡ true
all_said say file p each [] = refl
all_said say file p each (line ∷ ls) = one_said file p (say line) (filter_map say ls) (each line) (all_said say file p each ls)

files_short : (ls : List (List ℕ)) → list_all is_short (files_in (filter_map said ls)) ≡ true
files_short ls = list_all-in_order is_short (map (λ s. s.file) (filter_map said ls)) (all_said said (λ s. s.file) is_short said_form ls)

pub entries_form : (bytes : List ℕ) (dists : List Dist) → distinfo_of bytes ≡ Ok dists → AreEntries dists
entries_form bytes dists h =
    let ls = lines bytes in
    let has = list_has bytes dists h in
    let files : files_of dists ≡ files_in (filter_map said ls) =
    ap files_of (sym has.all) ∙ files_are (entry (filter_map said ls)) (files_in (filter_map said ls)) (entry_named ls) has.paired in
    record {
      order = subst IsAscending (sym files) (in_order-ascends (map (λ s. s.file) (filter_map said ls)));
      apart = ap has_no_folder files ∙ files_apart (files_in (filter_map said ls)) has.apart;
      short = ap (list_all (λ file. nat_le (length file) 1014)) files ∙ files_short ls;
    }
