-- Marks at numbers.
use Rattle.std.proofs.Common.{◌≡◌, ℕ, ◌+◌, ◌<◌, ◌≤◌, Bool, true, false, List, [], ◌∷◌, ◌++◌, length, get_or, set, take, replicate, arith, refl, ap, sym, subst, ◌∙◌, inl, inr, ◌⊎◌}
use Rattle.std.specs.Prelude.{◌||◌, ◌==◌, filter}
use Rattle.std.specs.List.{All, range_with_len}
use Rattle.std.proofs.lemmas.Bool.{eq-eqb, ne_eqb, cases_eq, and_parts}
use Rattle.std.proofs.lemmas.List.{get_or-set_same, get_or-set_other, get_or-replicate, length-replicate, take_more}
use Rattle.bulk_model.specs.Flags.{flag}
use Rattle.dep_graph.specs.Graphs.{has}
use Rattle.dep_graph.proofs.Members.{has-append, all_from_has, below-range, has-filter, filter_agree_below}
use Rattle.stale_check.specs.Recording.{AreFlags}
use Rattle.stale_check.specs.Stale.{flagged}

or_none : (b : Bool) → b ≡ (b || false)
or_none true = refl
or_none false = refl

or_one : (b : Bool) → true ≡ (b || true)
or_one true = refl
or_one false = refl

set_case : (flags : List Bool) (number n : ℕ) → number < length flags → (n ≡ number) ⊎ (n ≡ number → ⊥)
    → flag (set flags number true) n ≡ (flag flags n || (n == number))
set_case flags number n l (inl same) =
    ap (λ k. get_or (set flags number true) k false) same ∙ get_or-set_same flags number true false l
    ∙ or_one (flag flags n) ∙ ap (λ b. flag flags n || b) (sym (eq-eqb n number same))
set_case flags number n l (inr apart) =
    get_or-set_other flags number n true false apart
    ∙ or_none (flag flags n) ∙ ap (λ b. flag flags n || b) (sym (ne_eqb n number apart))

pub flag_set : (flags : List Bool) (number n : ℕ) → number < length flags → flag (set flags number true) n ≡ (flag flags n || (n == number))
flag_set flags number n l = set_case flags number n l (cases_eq n number)

pub flag_past : (flags : List Bool) (number n : ℕ) → length flags ≤ number → n < length flags → flag flags n ≡ (flag flags n || (n == number))
flag_past flags number n past l =
    or_none (flag flags n) ∙ ap (λ b. flag flags n || b) (sym (ne_eqb n number (λ same. omega arith)))

-- no number is marked
pub none_flagged : (count : ℕ) (flags : List Bool) → flags ≡ replicate count false → AreFlags count [] flags
none_flagged count flags e = record {
  size = ap length e ∙ length-replicate count false;
  marked = λ n l. ap (λ fs. flag fs n) e ∙ get_or-replicate count n false false l;
}

-- one more
pub one_flagged : (count i : ℕ) (numbers : List ℕ) (number : ℕ) (before after : List Bool) → i < length numbers → number ≡ get_or numbers i number
    → length after ≡ length before → ((n : ℕ) → n < length before → flag after n ≡ (flag before n || (n == number)))
    → AreFlags count (take i numbers) before → AreFlags count (take (i + 1) numbers) after
one_flagged count i numbers number before after l is size grew so_far = record {
  size = size ∙ so_far.size;
  marked = λ n h.
      let whole : take (i + 1) numbers ≡ take i numbers ++ number ∷ [] = take_more numbers i number l ∙ ap (λ k. take i numbers ++ k ∷ []) (sym is) in
      grew n (let s : length before ≡ count = so_far.size in omega arith)
      ∙ ap (λ b. b || (n == number)) (so_far.marked n h)
      ∙ ap (λ b. has (take i numbers) n || b) (or_none (n == number))
      ∙ sym (has-append (take i numbers) (number ∷ []) n)
      ∙ ap (λ ns. has ns n) (sym whole);
}

-- the marked numbers are those that were to be marked
pub flagged_are : (count : ℕ) (numbers : List ℕ) (flags : List Bool) (found : List ℕ) → AreFlags count numbers flags → found ≡ flagged count flags
    → found ≡ filter (has numbers) (range_with_len 0 count)
flagged_are count numbers flags found are e = e ∙ filter_agree_below (flag flags) (has numbers) count are.marked

pub flagged_within : (count : ℕ) (flags : List Bool) (found : List ℕ) → found ≡ flagged count flags → All (λ n. n < count) found
flagged_within count flags found e =
    subst (λ ns. All (λ n. n < count) ns) (sym e)
    (all_from_has (λ n. n < count) (flagged count flags)
    (λ n h. below-range count n (and_parts (flag flags n) (has (range_with_len 0 count) n) (sym (has-filter (flag flags) (range_with_len 0 count) n) ∙ h)).1))
