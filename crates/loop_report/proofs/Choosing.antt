-- Turns of the loops that choose nodes and walk.
use Rattle.std.proofs.Common.{◌≡◌, ℕ, suc, ◌+◌, ◌<◌, ◌≤◌, Bool, true, false, List, [], ◌∷◌, ◌++◌, ap, sym, ◌∙◌, arith, cond, Some, inl, inr, ◌⊎◌, append_assoc}
use Rattle.std.specs.Prelude.{◌==◌, filter, map}
use Rattle.std.specs.Fn.{iterate}
use Rattle.std.specs.List.{range_with_len}
use Rattle.std.proofs.lemmas.Bool.{both_ways, and_parts, and_from, cases_lt}
use Rattle.std.proofs.lemmas.List.{append-nil}
use Rattle.std.proofs.lemmas.List.FromFn.{map-range_with_len_more}
use Rattle.dep_graph.specs.Graphs.{has}
use Rattle.dep_graph.proofs.Members.{has-filter, has-range, filter_range_more}
use Rattle.bulk_base.specs.Least.{least}
use Rattle.loop_report.specs.Walks.{walk, before}
use Rattle.loop_report.proofs.Least.{least_from}

-- the first number that passes is the least
first_case : (p : ℕ → Bool) (n m : ℕ) → filter p (range_with_len 0 n) ≡ [] → p m ≡ true → (m < n) ⊎ (n ≤ m) → n ≤ m
first_case p n m none t (inl l) =
    absurd (both_ways (has (filter p (range_with_len 0 n)) m) (ap (λ l. has l m) none) (has-filter p (range_with_len 0 n) m ∙ and_from (p m) (has (range_with_len 0 n) m) t (has-range n m l)))
first_case p n m none t (inr l) = l

pub first_passing : (p : ℕ → Bool) (count n : ℕ) → n < count → filter p (range_with_len 0 n) ≡ [] → p n ≡ true → Some n ≡ least (filter p (range_with_len 0 count))
first_passing p count n l none t =
    sym (least_from (filter p (range_with_len 0 count)) n (record {
      one = has-filter p (range_with_len 0 count) n ∙ and_from (p n) (has (range_with_len 0 count) n) t (has-range count n l);
      most = λ m h. first_case p n m none (and_parts (p m) (has (range_with_len 0 count) m) (sym (has-filter p (range_with_len 0 count) m) ∙ h)).0 (cases_lt m n);
    }))

pub none_passing : (p : ℕ → Bool) (n : ℕ) → filter p (range_with_len 0 n) ≡ [] → p n ≡ false → filter p (range_with_len 0 (n + 1)) ≡ []
none_passing p n none f = filter_range_more p n ∙ ap (λ l. l ++ cond (p n) (n ∷ []) []) none ∙ ap (λ b. let l : List ℕ = cond b (n ∷ []) [] in l) f

-- one step of so many
pub step_on : (f : ℕ → ℕ) (k m at to : ℕ) → k ≡ suc m → iterate f k at ≡ to → iterate f m (f at) ≡ to
step_on f k m at to e is = sym (ap (λ n. iterate f n at) e) ∙ is

-- the walk has come round
pub round_done : (f : ℕ → ℕ) (k m from at : ℕ) (nodes whole : List ℕ) → k ≡ suc m → (at == from) ≡ true → nodes ++ before from (walk f k at) ≡ whole → nodes ≡ whole
round_done f k m from at nodes whole e back is =
    sym (append-nil nodes) ∙ sym (ap (λ b. nodes ++ cond b [] (at ∷ before from (walk f m (f at)))) back) ∙ sym (ap (λ n. nodes ++ before from (walk f n at)) e) ∙ is

pub round_more : (f : ℕ → ℕ) (k m from at : ℕ) (nodes longer whole : List ℕ) → k ≡ suc m → (at == from) ≡ false → longer ≡ nodes ++ at ∷ [] → nodes ++ before from (walk f k at) ≡ whole
    → longer ++ before from (walk f m (f at)) ≡ whole
round_more f k m from at nodes longer whole e new push is =
    ap (λ l. l ++ before from (walk f m (f at))) push ∙ append_assoc nodes (at ∷ []) (before from (walk f m (f at)))
    ∙ sym (ap (λ b. nodes ++ cond b [] (at ∷ before from (walk f m (f at)))) new) ∙ sym (ap (λ n. nodes ++ before from (walk f n at)) e) ∙ is

-- one number more of those that a function gives
zero_more : (n : ℕ) → 0 + n ≡ n
zero_more n = omega arith

pub mapped_more : (g : ℕ → ℕ) (n x : ℕ) (so_far now : List ℕ) → now ≡ so_far ++ x ∷ [] → so_far ≡ map g (range_with_len 0 n) → x ≡ g n → now ≡ map g (range_with_len 0 (n + 1))
mapped_more g n x so_far now push is e =
    push ∙ ap (λ l. l ++ x ∷ []) is ∙ ap (λ y. map g (range_with_len 0 n) ++ y ∷ []) e ∙ sym (map-range_with_len_more g 0 n n (zero_more n))
