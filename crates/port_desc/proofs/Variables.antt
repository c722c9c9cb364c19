-- What the loop over the dependency variables keeps.
use Rattle.std.proofs.Common.{◌≡◌, ℕ, ◌+◌, ◌≤◌, true, false, List, [], ◌∷◌, ◌++◌, length, drop, cond, ap, sym, ◌∙◌, Ok, Err, Result, Option, nat_le}
use Rattle.std.proofs.lemmas.List.{drop_all, append_assoc, append-nil}
use Rattle.bulk_model.specs.declared.depend.DepKind.{DepKind}
use Rattle.port_vars.specs.Reference.{Values}
use Rattle.port_vars.specs.Assignment.{mapped, ◌>>=◌}
use Rattle.port_desc.specs.declared.fault.DescError.{DescError}
use Rattle.port_desc.specs.declared.fault.DescError.TheVariants.{Limit}
use Rattle.port_desc.specs.declared.entry.Entry.{Entry}
use Rattle.port_desc.specs.Dependencies.{depends_variable, variables, words_for, targets_of, entries_with, entries_among, few, entries_of}
use Rattle.port_desc.proofs.Refused.{ok_then, err_then, mapped-none, mapped-mapped, mapped_alike, then_ok}

-- entries behind some that are known
abbrev pub behind : List Entry → Result (List Entry) DescError → Result (List Entry) DescError
behind found r = mapped (λ rest. found ++ rest) r

module _ (values : Values) (flavor : Option (List ℕ)) (on : List (List ℕ)) where
  abbrev among : List (Option DepKind) → Result (List Entry) DescError
  among kinds = entries_among values flavor on kinds

  abbrev targets_for : Option DepKind → Result (List (List ℕ)) DescError
  targets_for kind = targets_of (words_for values flavor on (depends_variable kind))

  -- a variable without a fault
  pub variable_next : (kind : Option DepKind) (targets : List (List ℕ)) (more : List (Option DepKind)) (found longer : List Entry) → targets_for kind ≡ Ok targets
      → longer ≡ found ++ entries_with kind targets → behind found (among (kind ∷ more)) ≡ behind longer (among more)
  variable_next kind targets more found longer h m =
      ap (behind found) (ok_then (targets_for kind) (λ ts. among more >>= λ entries. Ok (entries_with kind ts ++ entries)) targets h ∙ then_ok (among more) (λ entries. entries_with kind targets ++ entries))
      ∙ mapped-mapped (λ rest. found ++ rest) (λ entries. entries_with kind targets ++ entries) (among more)
      ∙ mapped_alike (λ entries. found ++ (entries_with kind targets ++ entries)) (λ entries. (found ++ entries_with kind targets) ++ entries) (among more)
      (λ entries. sym (append_assoc found (entries_with kind targets) entries))
      ∙ ap (λ f. behind f (among more)) (sym m)

  -- a variable with a fault
  pub variable_fault : (kind : Option DepKind) (e : DescError) (more : List (Option DepKind)) → targets_for kind ≡ Err e → among (kind ∷ more) ≡ Err e
  variable_fault kind e more h = err_then (targets_for kind) (λ ts. among more >>= λ entries. Ok (entries_with kind ts ++ entries)) e h

  -- the entries so far, with those of the variables that are left, are all
  abbrev pub EntriesSoFar : List (Option DepKind) → List Entry → ℕ → Type 0
  EntriesSoFar kinds found at = behind found (among (drop at kinds)) ≡ among kinds

  pub entries_begin : (kinds : List (Option DepKind)) (found : List Entry) → found ≡ [] → EntriesSoFar kinds found 0
  entries_begin kinds found e = ap (λ f. behind f (among kinds)) e ∙ mapped-none (among kinds)

  pub entries_more : (kinds : List (Option DepKind)) (found longer : List Entry) (at : ℕ) (kind : Option DepKind) → drop at kinds ≡ kind ∷ drop (at + 1) kinds
      → behind found (among (kind ∷ drop (at + 1) kinds)) ≡ behind longer (among (drop (at + 1) kinds)) → EntriesSoFar kinds found at → EntriesSoFar kinds longer (at + 1)
  entries_more kinds found longer at kind next step so_far =
      sym step ∙ ap (λ left. behind found (among left)) (sym next) ∙ so_far

  pub entries_refused : (kinds : List (Option DepKind)) (found : List Entry) (at : ℕ) (kind : Option DepKind) (e : DescError) → drop at kinds ≡ kind ∷ drop (at + 1) kinds
      → among (kind ∷ drop (at + 1) kinds) ≡ Err e → EntriesSoFar kinds found at → among kinds ≡ Err e
  entries_refused kinds found at kind e next h so_far =
      sym so_far ∙ ap (behind found) (ap among next ∙ h)

  pub entries_end : (kinds : List (Option DepKind)) (found : List Entry) (at : ℕ) → length kinds ≤ at → EntriesSoFar kinds found at → among kinds ≡ Ok found
  entries_end kinds found at l so_far = sym so_far ∙ ap (λ left. behind found (among left)) (drop_all at kinds l) ∙ ap Ok (append-nil found)

  -- all variables have an answer
  pub entries_fault : (e : DescError) → among variables ≡ Err e → entries_of values flavor on ≡ Err e
  unfolding entries_of
  entries_fault e h = err_then (among variables) few e h

  pub entries_few : (entries : List Entry) → among variables ≡ Ok entries → nat_le (length entries) 256 ≡ true → entries_of values flavor on ≡ Ok entries
  unfolding entries_of
  entries_few entries h l = ok_then (among variables) few entries h ∙ ap (λ b. cond b (Ok entries) (Err (Limit (length entries)))) l

  pub entries_many : (entries : List Entry) → among variables ≡ Ok entries → nat_le (length entries) 256 ≡ false → entries_of values flavor on ≡ Err (Limit (length entries))
  unfolding entries_of
  entries_many entries h l = ok_then (among variables) few entries h ∙ ap (λ b. cond b (Ok entries) (Err (Limit (length entries)))) l
