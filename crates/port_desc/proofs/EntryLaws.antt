-- What holds of every list of entries that a port's variables give.
use Rattle.std.proofs.Common.{◌≡◌, ℕ, ◌≤◌, Bool, true, false, List, [], ◌∷◌, ◌++◌, length, cond, ap, sym, subst, ◌∙◌, refl, arith, Ok, Err, Option, Some, None, Result, nat_le}
use Rattle.std.specs.Prelude.{not, ◌&&◌, ◌==◌, filter, bytes_eq}
use Rattle.std.specs.List.{AllByRecursion, IsDistinct, list_all, slice_split}
use Rattle.std.proofs.lemmas.Bool.Decides.{nat_tests}
use Rattle.std.proofs.lemmas.Bool.{and_parts}
use Rattle.bulk_base.specs.Names.{IsNode}
use Rattle.bulk_base.specs.Words.{is_filled}
use Rattle.bulk_model.specs.Facts.{kind_number}
use Rattle.bulk_model.specs.declared.depend.DepKind.{DepKind}
use Rattle.port_vars.specs.Reference.{Values}
use Rattle.port_vars.specs.Assignment.{◌>>=◌}
use Rattle.port_name.specs.Forms.{is_node}
use Rattle.port_name.proofs.Origins.{IsNode-from_test}
use Rattle.port_desc.specs.declared.fault.DescError.{DescError}
use Rattle.port_desc.specs.declared.fault.DescError.TheVariants.{BadDepend, Limit}
use Rattle.port_desc.specs.declared.entry.Entry.{Entry}
use Rattle.port_desc.specs.Dependencies.{depends_variable, variables, words_for, target_in, target_of, targets_of, each_once, entries_with, entries_among, few, entries_of, is_same, AreEntries}
use Rattle.port_desc.proofs.Lists.{all_weaker, all_append, all_mapped, all_of, all_kept, all_passed, distinct_kept, distinct_append, distinct_mapped}
use Rattle.port_desc.proofs.Refused.{same_ok, no_err}

abbrev AreNodes : List (List ℕ) → Type 0
AreNodes targets = AllByRecursion (λ target. is_node target ≡ true) targets

-- a target is a node
behind_case : (word what node target : List ℕ) (b : Bool) → (is_filled what && is_node node) ≡ b → cond b (Ok node) (Err (BadDepend word)) ≡ Ok target → is_node target ≡ true
behind_case word what node target true e h = ap is_node (sym (same_ok node target h)) ∙ (and_parts (is_filled what) (is_node node) e).1
behind_case word what node target false e h = absurd (no_err (BadDepend word) target h)

in_case : (word target : List ℕ) (parts : List (List ℕ)) → target_in word parts ≡ Ok target → is_node target ≡ true
in_case word target [] h = absurd (no_err (BadDepend word) target h)
in_case word target (a ∷ []) h = absurd (no_err (BadDepend word) target h)
in_case word target (a ∷ b ∷ []) h = behind_case word a b target (is_filled a && is_node b) refl h
in_case word target (a ∷ b ∷ c ∷ []) h = absurd (no_err _ target h)
in_case word target (a ∷ b ∷ c ∷ d ∷ more) h = absurd (no_err (BadDepend word) target h)

target_node : (word target : List ℕ) → target_of word ≡ Ok target → is_node target ≡ true
unfolding target_of
target_node word target h = in_case word target (slice_split (λ b. b == 58) word) h

-- the parts of a good answer
ok_parts : {A B E : Type 0} (r : Result A E) (f : A → Result B E) (b : B) → (r >>= f) ≡ Ok b → (a : A) × (r ≡ Ok a) × (f a ≡ Ok b)
ok_parts (Ok a) f b h = (a, refl, h)
ok_parts (Err e) f b h = absurd (no_err e b h)

targets_nodes : (words targets : List (List ℕ)) → targets_of words ≡ Ok targets → AreNodes targets
targets_nodes [] targets h = subst AreNodes (same_ok [] targets h) tt
targets_nodes (word ∷ more) targets h =
    let one = ok_parts (target_of word) (λ t. targets_of more >>= λ ts. Ok (t ∷ ts)) targets h in
    let two = ok_parts (targets_of more) (λ ts. Ok (one.0 ∷ ts)) targets one.2 in
    subst AreNodes (same_ok (one.0 ∷ two.0) targets two.2) (target_node word one.0 one.1, targets_nodes more two.0 two.1)

-- each text once
once_all : (P : List ℕ → Type 0) (texts : List (List ℕ)) → AllByRecursion P texts → AllByRecursion P (each_once texts)
once_all P [] a = tt
once_all P (x ∷ texts) a = (a.0, all_kept P (λ other. not (bytes_eq x other)) (each_once texts) (once_all P texts a.1))

not_true : (b : Bool) → not b ≡ true → b ≡ false
not_true true h = cc
not_true false h = refl

once_distinct : (texts : List (List ℕ)) → IsDistinct bytes_eq (each_once texts)
unfolding IsDistinct
once_distinct [] = tt
once_distinct (x ∷ texts) = (
  all_weaker (λ other. not (bytes_eq x other) ≡ true) (λ other. bytes_eq x other ≡ false) (λ other h. not_true (bytes_eq x other) h)
      (filter (λ other. not (bytes_eq x other)) (each_once texts)) (all_passed (λ other. not (bytes_eq x other)) (each_once texts)),
  distinct_kept bytes_eq (λ other. not (bytes_eq x other)) (each_once texts) (once_distinct texts),
)

and_second : (a b : Bool) → b ≡ false → (a && b) ≡ false
and_second true b h = h
and_second false b h = refl

and_first : (a b : Bool) → a ≡ false → (a && b) ≡ false
and_first true b h = cc
and_first false b h = refl

-- the entries of one variable
abbrev entry_of : DepKind → List ℕ → Entry
entry_of kind target = record { kind = kind; target = target }

with_nodes : (kind : Option DepKind) (targets : List (List ℕ)) → AreNodes targets → AllByRecursion (λ entry. is_node entry.target ≡ true) (entries_with kind targets)
with_nodes None targets a = tt
with_nodes (Some kind) targets a = all_mapped (λ entry. is_node entry.target ≡ true) (entry_of kind) (each_once targets) (once_all (λ target. is_node target ≡ true) targets a)

with_distinct : (kind : Option DepKind) (targets : List (List ℕ)) → IsDistinct is_same (entries_with kind targets)
unfolding IsDistinct
with_distinct None targets = tt
with_distinct (Some kind) targets =
    distinct_mapped bytes_eq is_same (entry_of kind) (λ a b h. and_second (kind_number kind == kind_number kind) (bytes_eq a b) h) (each_once targets) (once_distinct targets)

-- a kind that none of some variables has
abbrev differs : DepKind → Option DepKind → Bool
differs kind None = true
differs kind (Some other) = not (kind_number kind == kind_number other)

abbrev is_fresh : Option DepKind → List (Option DepKind) → Bool
is_fresh None kinds = true
is_fresh (Some kind) kinds = list_all (differs kind) kinds

abbrev are_fresh : List (Option DepKind) → Bool
are_fresh [] = true
are_fresh (kind ∷ more) = is_fresh kind more && are_fresh more

abbrev IsOther : DepKind → Entry → Type 0
IsOther kind entry = (kind_number kind == kind_number entry.kind) ≡ false

with_other : (kind : DepKind) (other : Option DepKind) (targets : List (List ℕ)) → differs kind other ≡ true → AllByRecursion (IsOther kind) (entries_with other targets)
with_other kind None targets h = tt
with_other kind (Some other) targets h =
    all_mapped (IsOther kind) (entry_of other) (each_once targets)
    (all_of (λ target. (kind_number kind == kind_number other) ≡ false) (λ target. not_true (kind_number kind == kind_number other) h) (each_once targets))

apart_all : (kind : Option DepKind) (targets : List (List ℕ)) (rest : List Entry) → ((k : DepKind) → kind ≡ Some k → AllByRecursion (IsOther k) rest)
    → AllByRecursion (λ a. AllByRecursion (λ b. is_same a b ≡ false) rest) (entries_with kind targets)
apart_all None targets rest h = tt
apart_all (Some kind) targets rest h =
    all_mapped (λ a. AllByRecursion (λ b. is_same a b ≡ false) rest) (entry_of kind) (each_once targets)
    (all_of (λ target. AllByRecursion (λ b. is_same (entry_of kind target) b ≡ false) rest)
    (λ target. all_weaker (IsOther kind) (λ b. is_same (entry_of kind target) b ≡ false) (λ b o. and_first (kind_number kind == kind_number b.kind) (bytes_eq target b.target) o) rest (h kind refl)) (each_once targets))

module _ (values : Values) (flavor : Option (List ℕ)) (on : List (List ℕ)) where
  abbrev among : List (Option DepKind) → Result (List Entry) DescError
  among kinds = entries_among values flavor on kinds

  abbrev targets_for : Option DepKind → Result (List (List ℕ)) DescError
  targets_for kind = targets_of (words_for values flavor on (depends_variable kind))

  abbrev Parts : Option DepKind → List (Option DepKind) → List Entry → Type 0
  Parts kind more entries = (targets : List (List ℕ)) × (rest : List Entry) × (targets_for kind ≡ Ok targets) × (among more ≡ Ok rest) × (entries_with kind targets ++ rest ≡ entries)

  parts : (kind : Option DepKind) (more : List (Option DepKind)) (entries : List Entry) → among (kind ∷ more) ≡ Ok entries → Parts kind more entries
  parts kind more entries h =
      let one = ok_parts (targets_for kind) (λ ts. among more >>= λ rest. Ok (entries_with kind ts ++ rest)) entries h in
      let two = ok_parts (among more) (λ rest. Ok (entries_with kind one.0 ++ rest)) entries one.2 in
      (one.0, two.0, one.1, two.1, same_ok (entries_with kind one.0 ++ two.0) entries two.2)

  among_other : (kind : DepKind) (kinds : List (Option DepKind)) (entries : List Entry) → list_all (differs kind) kinds ≡ true → among kinds ≡ Ok entries → AllByRecursion (IsOther kind) entries
  among_other kind [] entries f h = subst (AllByRecursion (IsOther kind)) (same_ok [] entries h) tt
  among_other kind (other ∷ more) entries f h =
      let p = parts other more entries h in
      let fresh = and_parts (differs kind other) (list_all (differs kind) more) f in
      subst (AllByRecursion (IsOther kind)) p.4
      (all_append (IsOther kind) (entries_with other p.0) p.1 (with_other kind other p.0 fresh.0) (among_other kind more p.1 fresh.1 p.3))

  among_nodes : (kinds : List (Option DepKind)) (entries : List Entry) → among kinds ≡ Ok entries → AllByRecursion (λ entry. is_node entry.target ≡ true) entries
  among_nodes [] entries h = subst (AllByRecursion (λ entry. is_node entry.target ≡ true)) (same_ok [] entries h) tt
  among_nodes (kind ∷ more) entries h =
      let p = parts kind more entries h in
      subst (AllByRecursion (λ entry. is_node entry.target ≡ true)) p.4
      (all_append (λ entry. is_node entry.target ≡ true) (entries_with kind p.0) p.1
      (with_nodes kind p.0 (targets_nodes (words_for values flavor on (depends_variable kind)) p.0 p.2)) (among_nodes more p.1 p.3))

  fresh_kind : (kind : Option DepKind) (more : List (Option DepKind)) (rest : List Entry) → is_fresh kind more ≡ true → among more ≡ Ok rest → (k : DepKind) → kind ≡ Some k → AllByRecursion (IsOther k) rest
  fresh_kind kind more rest f h k e = among_other k more rest (ap (λ o. is_fresh o more) (sym e) ∙ f) h

  among_distinct : (kinds : List (Option DepKind)) (entries : List Entry) → are_fresh kinds ≡ true → among kinds ≡ Ok entries → IsDistinct is_same entries
  unfolding IsDistinct
  among_distinct [] entries f h = subst (IsDistinct is_same) (same_ok [] entries h) tt
  among_distinct (kind ∷ more) entries f h =
      let p = parts kind more entries h in
      let fresh = and_parts (is_fresh kind more) (are_fresh more) f in
      subst (IsDistinct is_same) p.4
      (distinct_append is_same (entries_with kind p.0) p.1 (with_distinct kind p.0) (among_distinct more p.1 fresh.1 p.3)
      (apart_all kind p.0 p.1 (fresh_kind kind more p.1 fresh.0 p.3)))

  few_case : (entries found : List Entry) (b : Bool) → nat_le (length entries) 256 ≡ b → cond b (Ok entries) (Err (Limit (length entries))) ≡ Ok found → (entries ≡ found) × (length entries ≤ 256)
  few_case entries found true e h = (same_ok entries found h, grind (arith, nat_tests))
  few_case entries found false e h = absurd (no_err (Limit (length entries)) found h)

  -- what a port depends on
  pub entries_sound : (entries : List Entry) → entries_of values flavor on ≡ Ok entries → AreEntries entries
  unfolding entries_of
  entries_sound entries h =
      let one = ok_parts (among variables) few entries h in
      let small = few_case one.0 entries (nat_le (length one.0) 256) refl one.2 in
      subst AreEntries small.0 (record {
        nodes = all_weaker (λ entry. is_node entry.target ≡ true) (λ entry. IsNode entry.target) (λ entry t. IsNode-from_test entry.target t) one.0 (among_nodes variables one.0 one.1);
        once = among_distinct variables one.0 refl one.1;
        few = small.1;
      })
