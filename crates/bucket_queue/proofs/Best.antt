-- The least of the highest bucket.
use Rattle.std.proofs.Common.{◌≡◌, ℕ, zero, suc, ◌<◌, ◌≤◌, Bool, true, false, List, get_or, refl, ap, sym, subst, ◌∙◌, arith, cond, Option, Some, None, ◌≢◌, inl, inr, ◌⊎◌}
use Rattle.std.specs.Prelude.{nat_lt}
use Rattle.std.proofs.lemmas.Bool.{lt-ltb, le-ltb, cases_eq}
use Rattle.bucket_queue.specs.QueueView.{better, best_below}

-- n goes before m, or is m
abbrev pub Leads : List ℕ → ℕ → ℕ → Type 0
Leads buckets n m = (get_or buckets m 0 < get_or buckets n 0) ⊎ ((get_or buckets m 0 ≡ get_or buckets n 0) × (n ≤ m))

module _ (passes : ℕ → Bool) (buckets : List ℕ) where
  step : (k : ℕ) (b : Bool) → passes k ≡ b → best_below passes buckets (suc k) ≡ cond b (better buckets (best_below passes buckets k) k) (best_below passes buckets k)
  step k b e = ap (λ c. cond c (better buckets (best_below passes buckets k) k) (best_below passes buckets k)) e

  none_case : (k : ℕ) → best_below passes buckets k ≡ None → passes k ≡ false → best_below passes buckets (suc k) ≡ None
  none_case k h e = step k false e ∙ h

  pub none_best : (k : ℕ) → ((n : ℕ) → n < k → passes n ≡ false) → best_below passes buckets k ≡ None
  none_best zero f = refl
  none_best (suc k) f = none_case k (none_best k (λ n l. f n (omega arith))) (f k (omega arith))

  -- what is found is a node that passes
  pub record Found (k : ℕ) (found : Option ℕ) : Type 0 where
    pub is : (n : ℕ) → found ≡ Some n → (n < k) × (passes n ≡ true)

  better_case : (k n : ℕ) (found : Option ℕ) → Found k found → passes k ≡ true → better buckets found k ≡ Some n → (n < suc k) × (passes n ≡ true)
  better_case k n None f p e = let same : k ≡ n = cc in (omega arith, ap passes (sym same) ∙ p)
  better_case k n (Some b) f p e = two_case k n b f p (nat_lt (get_or buckets b 0) (get_or buckets k 0)) e
    where
      two_case : (k n b : ℕ) → Found k (Some b) → passes k ≡ true → (lower : Bool) → cond lower (Some k) (Some b) ≡ Some n → (n < suc k) × (passes n ≡ true)
      two_case k n b f p true e = let same : k ≡ n = cc in (omega arith, ap passes (sym same) ∙ p)
      two_case k n b f p false e = let same : b ≡ n = cc in let h : (b < k) × (passes b ≡ true) = f.is b refl in (omega arith, ap passes (sym same) ∙ h.1)

  pub found_best : (k : ℕ) → Found k (best_below passes buckets k)
  found_best zero = record { is = λ n e. absurd (let z : ◌≡◌ {A = Option ℕ} None (Some n) = e in cc) }
  found_best (suc k) = record { is = λ n e. found_case k n (passes k) refl (found_best k) e }
    where
      found_case : (k n : ℕ) (b : Bool) → passes k ≡ b → Found k (best_below passes buckets k) → best_below passes buckets (suc k) ≡ Some n → (n < suc k) × (passes n ≡ true)
      found_case k n true p f e = better_case k n (best_below passes buckets k) f p (sym (step k true p) ∙ e)
      found_case k n false p f e = let h : (n < k) × (passes n ≡ true) = f.is n (sym (step k false p) ∙ e) in (omega arith, h.1)

  -- a node that leads each that passes is found
  last_case : (n : ℕ) (found : Option ℕ) → Found n found → ((m : ℕ) → m < suc n → passes m ≡ true → Leads buckets n m) → better buckets found n ≡ Some n
  last_case n None f leads = refl
  last_case n (Some b) f leads =
      let h : (b < n) × (passes b ≡ true) = f.is b refl in
      let lower : get_or buckets b 0 < get_or buckets n 0 = lower_case b n h.0 (leads b (omega arith) h.1) in
      ap (λ c. cond c (Some n) (Some b)) (lt-ltb (get_or buckets b 0) (get_or buckets n 0) lower)
    where
      lower_case : (b n : ℕ) → b < n → Leads buckets n b → get_or buckets b 0 < get_or buckets n 0
      lower_case b n l (inl lower) = lower
      lower_case b n l (inr same) = absurd (let s : n ≤ b = same.1 in omega arith)

  keeps_case : (n k : ℕ) → (get_or buckets k 0 < get_or buckets n 0) ⊎ ((get_or buckets k 0 ≡ get_or buckets n 0) × (n ≤ k)) → get_or buckets k 0 ≤ get_or buckets n 0
  keeps_case n k (inl lower) = omega arith
  keeps_case n k (inr same) = let s : get_or buckets k 0 ≡ get_or buckets n 0 = same.0 in omega arith

  kept : (k n : ℕ) (b : Bool) → n < k → passes k ≡ b → best_below passes buckets k ≡ Some n → ((m : ℕ) → m < suc k → passes m ≡ true → Leads buckets n m) → best_below passes buckets (suc k) ≡ Some n
  kept k n true l q h leads =
      step k true q ∙ ap (λ found. better buckets found k) h
      ∙ ap (λ c. cond c (Some k) (Some n)) (le-ltb (get_or buckets n 0) (get_or buckets k 0) (keeps_case n k (leads k (omega arith) q)))
  kept k n false l q h leads = step k false q ∙ h

  below : (n k : ℕ) → n < suc k → (n ≡ k → ⊥) → n < k
  below n k l apart = let ne : n ≢ k = apart in omega arith

  which : (k n : ℕ) → (n < k → best_below passes buckets k ≡ Some n) → n < suc k → passes n ≡ true → ((m : ℕ) → m < suc k → passes m ≡ true → Leads buckets n m) → (n ≡ k) ⊎ (n ≡ k → ⊥)
      → best_below passes buckets (suc k) ≡ Some n
  which k n h l p leads (inl same) =
      subst (λ x. best_below passes buckets (suc x) ≡ Some n) same
      (step n true p ∙ last_case n (best_below passes buckets n) (found_best n) (λ m b q. leads m (let e : n ≡ k = same in omega arith) q))
  which k n h l p leads (inr apart) = let b : n < k = below n k l apart in kept k n (passes k) b refl (h b) leads

  pub best_is : (k n : ℕ) → n < k → passes n ≡ true → ((m : ℕ) → m < k → passes m ≡ true → Leads buckets n m) → best_below passes buckets k ≡ Some n
  best_is zero n l p leads = absurd (omega arith)
  best_is (suc k) n l p leads = which k n (λ b. best_is k n b p (λ m t q. leads m (omega arith) q)) l p leads (cases_eq n k)

  better_some : (found : Option ℕ) (k : ℕ) → better buckets found k ≡ None → ⊥
  better_some None k e = let z : ◌≡◌ {A = Option ℕ} (Some k) None = e in cc
  better_some (Some b) k e = chosen (nat_lt (get_or buckets b 0) (get_or buckets k 0)) e
    where
      chosen : (lower : Bool) → cond lower (Some k) (Some b) ≡ None → ⊥
      chosen true e = let z : ◌≡◌ {A = Option ℕ} (Some k) None = e in cc
      chosen false e = let z : ◌≡◌ {A = Option ℕ} (Some b) None = e in cc

  last_fails : (k : ℕ) (b : Bool) → passes k ≡ b → best_below passes buckets (suc k) ≡ None → (passes k ≡ false) × (best_below passes buckets k ≡ None)
  last_fails k true p e = absurd (better_some (best_below passes buckets k) k (sym (step k true p) ∙ e))
  last_fails k false p e = (p, sym (step k false p) ∙ e)

  fails_case : (n k : ℕ) → passes k ≡ false → (n < k → passes n ≡ false) → n < suc k → (n ≡ k) ⊎ (n ≡ k → ⊥) → passes n ≡ false
  fails_case n k p before l (inl same) = ap passes same ∙ p
  fails_case n k p before l (inr apart) = before (below n k l apart)

  -- where none is found, none passes
  pub none_found : (k : ℕ) → best_below passes buckets k ≡ None → (n : ℕ) → n < k → passes n ≡ false
  none_found zero e n l = absurd (omega arith)
  none_found (suc k) e n l =
      let both : (passes k ≡ false) × (best_below passes buckets k ≡ None) = last_fails k (passes k) refl e in
      fails_case n k both.0 (λ b. none_found k both.1 n b) l (cases_eq n k)
