-- What the loop over the lines of poudriere.conf keeps.
use Rattle.std.proofs.Common.{◌≡◌, ℕ, ◌+◌, ◌<◌, ◌≤◌, Bool, true, false, List, [], ◌∷◌, ◌++◌, length, get_or, drop, cond, arith, ◌∙◌, ap, sym, refl, Result, Ok, Err}
use Rattle.std.specs.Prelude.{reverse, find, bytes_eq, codes, nat_lt, unwrap_or, Option, Some, None}
use Rattle.std.specs.Option.{option_map, option_map_or, option_and_then}
use Rattle.std.specs.Str.Lines.{lines}
use Rattle.std.proofs.lemmas.List.{drop_more, drop_all, append_assoc, append-nil, reverse-append}
use Rattle.std.proofs.lemmas.Bool.Decides.{nat_tests}
use Rattle.bulk_base.specs.Number.{number_of}
use Rattle.port_vars.specs.declared.fault.LineKind.TheVariants.{TooLong}
use Rattle.conf_file.specs.declared.fault.ConfKind.{ConfKind}
use Rattle.conf_file.specs.declared.fault.ConfKind.TheVariants.{Line}
use Rattle.conf_file.specs.declared.fault.ConfError.{ConfError}
use Rattle.conf_file.specs.declared.fault.ConfError.TheVariants.{BadLine, NoMemory}
use Rattle.conf_file.specs.declared.conf_reader.Conf.{Conf}
use Rattle.conf_file.specs.Lines.{Setting, said, mapped}
use Rattle.conf_file.specs.Conf.{settings_from, last_value, conf_by, conf_of, with_setting, with_line, LeavesAt}

-- one setting more
chosen : {A B : Type 0} (f : A → B) (t : Bool) (x y : A) → f (cond t x y) ≡ cond t (f x) (f y)
chosen f true x y = refl
chosen f false x y = refl

last_value-push : (above : List Setting) (s : Setting) (name : List ℕ) → last_value (above ++ s ∷ []) name ≡ cond (bytes_eq s.name name) (Some s.value) (last_value above name)
last_value-push above s name =
    ap (λ all. option_map (λ x. x.value) (find (λ x. bytes_eq x.name name) all)) (reverse-append above (s ∷ []))
    ∙ chosen (option_map (λ x. x.value)) (bytes_eq s.name name) (Some s) (find (λ x. bytes_eq x.name name) (reverse above))

by_last : {B : Type 0} (f : Option (List ℕ) → B) (above : List Setting) (s : Setting) (name : List ℕ)
    → f (last_value (above ++ s ∷ []) name) ≡ cond (bytes_eq s.name name) (f (Some s.value)) (f (last_value above name))
by_last f above s name = ap f (last_value-push above s name) ∙ chosen f (bytes_eq s.name name) (Some s.value) (last_value above name)

conf_by-push : (above : List Setting) (s : Setting) → conf_by (above ++ s ∷ []) ≡ with_setting (conf_by above) s
conf_by-push above s = λ i. record {
  jobs = by_last (option_and_then number_of) above s (codes "PARALLEL_JOBS") i;
  flavor_all = by_last (λ o. option_map_or (λ value. bytes_eq value (codes "yes")) o false) above s (codes "FLAVOR_DEFAULT_ALL") i;
  boost = by_last (λ o. unwrap_or o []) above s (codes "PRIORITY_BOOST") i;
}

-- what is said so far is what some settings say, and behind these stand the settings of the other lines
pub record ReadSoFar (lines : List (List ℕ)) (at : ℕ) (conf : Conf) : Type 0 where
  pub above : List Setting
  pub same : conf ≡ conf_by above
  pub rest : mapped (λ more. above ++ more) (settings_from (at + 1) (drop at lines)) ≡ settings_from 1 lines

nothing_above : (r : Result (List Setting) ConfError) → mapped (λ more. [] ++ more) r ≡ r
nothing_above (Ok more) = refl
nothing_above (Err e) = refl

pub read_begin : (lines : List (List ℕ)) (conf : Conf) → conf ≡ conf_by [] → ReadSoFar lines 0 conf
read_begin lines conf e = record { above = []; same = e; rest = nothing_above (settings_from 1 lines) }

abbrev go_on : ℕ → List (List ℕ) → Result (Option Setting) ConfKind → Result (List Setting) ConfError
go_on number rest s = elim s [
  | Ok None ↦ settings_from (number + 1) rest
  | Ok (Some setting) ↦ mapped (λ more. setting ∷ more) (settings_from (number + 1) rest)
  | Err kind ↦ Err (BadLine number kind)
]

at_front : (lines : List (List ℕ)) (at : ℕ) (line : List ℕ) (conf : Conf) → at < length lines → line ≡ get_or lines at line → (so_far : ReadSoFar lines at conf)
    → mapped (λ more. so_far.above ++ more) (go_on (at + 1) (drop (at + 1) lines) (said line)) ≡ settings_from 1 lines
at_front lines at line conf l e so_far =
    ap (λ left. mapped (λ more. so_far.above ++ more) (settings_from (at + 1) left)) (sym (drop_more lines at line l ∙ ap (λ x. x ∷ drop (at + 1) lines) (sym e))) ∙ so_far.rest

one_above : (above : List Setting) (s : Setting) (r : Result (List Setting) ConfError) → mapped (λ more. (above ++ s ∷ []) ++ more) r ≡ mapped (λ more. above ++ more) (mapped (λ more. s ∷ more) r)
one_above above s (Ok more) = ap Ok (append_assoc above (s ∷ []) more)
one_above above s (Err e) = refl

took : (lines : List (List ℕ)) (at : ℕ) (conf new : Conf) (above : List Setting) → conf ≡ conf_by above
    → (s : Result (Option Setting) ConfKind) → mapped (λ more. above ++ more) (go_on (at + 1) (drop (at + 1) lines) s) ≡ settings_from 1 lines
    → mapped (with_line conf) s ≡ Ok new → ReadSoFar lines (at + 1) new
took lines at conf new above same (Ok None) rest h = let now : conf ≡ new = cc in record { above = above; same = sym now ∙ same; rest = rest }
took lines at conf new above same (Ok (Some s)) rest h =
    let now : with_setting conf s ≡ new = cc in
    record {
      above = above ++ s ∷ [];
      same = sym now ∙ ap (λ x. with_setting x s) same ∙ sym (conf_by-push above s);
      rest = one_above above s (settings_from (at + 1 + 1) (drop (at + 1) lines)) ∙ rest;
    }
took lines at conf new above same (Err kind) rest h = absurd (cc)

pub read_line : (lines : List (List ℕ)) (at : ℕ) (line : List ℕ) (conf new : Conf) → at < length lines → line ≡ get_or lines at line
    → mapped (with_line conf) (said line) ≡ Ok new → ReadSoFar lines at conf → ReadSoFar lines (at + 1) new
read_line lines at line conf new l e h so_far = took lines at conf new so_far.above so_far.same (said line) (at_front lines at line conf l e so_far) h

failed : (number : ℕ) (rest : List (List ℕ)) (conf : Conf) (above : List Setting) (kind : ConfKind) (s : Result (Option Setting) ConfKind)
    → mapped (with_line conf) s ≡ Err kind → mapped (λ more. above ++ more) (go_on number rest s) ≡ Err (BadLine number kind)
failed number rest conf above kind (Ok None) h = absurd (cc)
failed number rest conf above kind (Ok (Some s)) h = absurd (cc)
failed number rest conf above kind (Err found) h = let same : found ≡ kind = cc in ap (λ k. Err (BadLine number k)) same

abbrev by_size : List ℕ → Bool → Result Conf ConfError
by_size bytes long = cond long (Err (BadLine 0 (Line TooLong))) (mapped conf_by (settings_from 1 (lines bytes)))

short_file : (bytes : List ℕ) → length bytes ≤ 65536 → conf_of bytes ≡ mapped conf_by (settings_from 1 (lines bytes))
short_file bytes l = let fits : nat_lt 65536 (length bytes) ≡ false = grind (arith, nat_tests) in ap (by_size bytes) fits

pub read_all : (bytes : List ℕ) (at : ℕ) (conf : Conf) → length bytes ≤ 65536 → length (lines bytes) ≤ at → ReadSoFar (lines bytes) at conf → conf_of bytes ≡ Ok conf
read_all bytes at conf fits l so_far =
    let none : drop at (lines bytes) ≡ [] = drop_all at (lines bytes) l in
    short_file bytes fits
    ∙ ap (mapped conf_by) (sym so_far.rest ∙ ap (λ left. mapped (λ more. so_far.above ++ more) (settings_from (at + 1) left)) none)
    ∙ ap Ok (ap conf_by (append-nil so_far.above) ∙ sym so_far.same)

pub read_fault : (bytes : List ℕ) (at : ℕ) (line : List ℕ) (number : ℕ) (conf new : Conf) (fault : ConfError) → length bytes ≤ 65536 → at < length (lines bytes)
    → line ≡ get_or (lines bytes) at line → number ≡ at + 1 → ReadSoFar (lines bytes) at conf
    → LeavesAt number (mapped (with_line conf) (said line)) (Err fault) new → (fault ≡ NoMemory → ⊥) → conf_of bytes ≡ Err fault
read_fault bytes at line number conf new (BadLine found kind) fits l is count so_far h some =
    short_file bytes fits
    ∙ ap (mapped conf_by) (sym (at_front (lines bytes) at line conf l is so_far) ∙ failed (at + 1) (drop (at + 1) (lines bytes)) conf so_far.above kind (said line) h.1)
    ∙ ap (λ n. Err (BadLine n kind)) (sym (h.0 ∙ count))
read_fault bytes at line number conf new NoMemory fits l is count so_far h some = absurd (some refl)
