-- Rounds that add what members lead to: as many as there are members add all.
use Rattle.std.proofs.Common.{◌≡◌, ℕ, zero, suc, ◌≤◌, Bool, true, List, length, sym, subst, arith, inl, inr, ◌⊎◌}
use Rattle.std.specs.Prelude.{◌&&◌, filter, Contains}
use Rattle.std.specs.List.{list_any}
use Rattle.std.proofs.lemmas.Bool.{and_parts, and_from, or_cases, or_left, or_right, cases_lt}
use Rattle.bulk_base.proofs.Members.{any_member, member_any, filter_whole, filter_out_of, filter_same}
use Rattle.bulk_model.specs.Grown.{grown}

module _ {X : Type 0} (first : X → Bool) (leads : X → X → Bool) (members : List X) where
  abbrev at : ℕ → X → Bool
  at rounds = grown first leads members rounds

  abbrev led : ℕ → X → Bool
  led rounds x = list_any (λ m. at rounds m && leads m x) members

  pub grown_more : (rounds : ℕ) (x : X) → at rounds x ≡ true → at (suc rounds) x ≡ true
  grown_more rounds x h = or_left (at rounds x) (led rounds x) h

  pub grown_first : (rounds : ℕ) (x : X) → first x ≡ true → at rounds x ≡ true
  grown_first zero x h = h
  grown_first (suc rounds) x h = grown_more rounds x (grown_first rounds x h)

  pub grown_adds : (rounds : ℕ) (m x : X) → Contains members m → at rounds m ≡ true
      → leads m x ≡ true → at (suc rounds) x ≡ true
  grown_adds rounds m x c h e = or_right (at rounds x) (led rounds x) (member_any (λ y. at rounds y && leads y x) members m c (and_from (at rounds m) (leads m x) h e))

  abbrev IsFull : ℕ → Type 0
  IsFull rounds = (x : X) → Contains members x → at (suc rounds) x ≡ true → at rounds x ≡ true

  full_more : (rounds : ℕ) → IsFull rounds → IsFull (suc rounds)
  full_more rounds full x c h =
      elim (or_cases (at (suc rounds) x) (led (suc rounds) x) h) [
        | inl e ↦ e
        | inr t ↦
            (let by = any_member (λ m. at (suc rounds) m && leads m x) members t in
            let both = and_parts (at (suc rounds) by.one) (leads by.one x) by.does in
            grown_adds rounds by.one x by.is (full by.one by.is both.0) both.1)
      ]

  full_or : (rounds : ℕ) → IsFull rounds ⊎ (rounds ≤ length (filter (at rounds) members))
  full_or zero = inr (omega arith)
  full_or (suc rounds) =
      elim (full_or rounds) [
        | inl full ↦ inl (full_more rounds full)
        | inr l ↦
            elim (cases_lt (length (filter (at rounds) members)) (length (filter (at (suc rounds)) members))) [
              | inl less ↦ inr (omega arith)
              | inr same ↦ inl (full_more rounds (λ x c h. filter_same (at rounds) (at (suc rounds)) members (grown_more rounds) same x c h))
            ]
      ]

  pub grown_full : IsFull (length members)
  grown_full =
      elim (full_or (length members)) [
        | inl full ↦ full
        | inr l ↦ (λ x c h. (filter_out_of (at (length members)) members x (subst (λ xs. Contains xs x) (sym (filter_whole (at (length members)) members l)) c)).1)
      ]
