-- The package that a recorded dependency means.
use Rattle.std.proofs.Common.{◌≡◌, ℕ, ◌<◌, Bool, true, false, List, length, cond, refl, ap, sym, ◌∙◌, inl, inr, ◌⊎◌, arith}
use Rattle.std.specs.Prelude.{Some, None, ◌&&◌, ◌==◌, bytes_eq, nat_lt}
use Rattle.std.specs.List.{position_or_len}
use Rattle.std.specs.FinMap as map
use Rattle.std.proofs.lemmas.Bool.{true≢false, and_parts, eq-eqb, ne_eqb, lt-ltb, cases_eq, false_from_ne_true}
use Rattle.std.proofs.lemmas.List.Sums.{position_or_len_is}
use Rattle.std.proofs.lemmas.Slice.Eq.{bytes_eq-Decides}
use Rattle.bulk_model.specs.Among.{is_recorded_as}
use Rattle.bulk_model.specs.Digests.{is_same}
use Rattle.bulk_model.specs.Spelling.{mark}
use Rattle.bulk_model.specs.Views.{PackageView, node_of_package}
use Rattle.bulk_model.specs.declared.depend.Recorded.{Recorded}
use Rattle.bulk_model.specs.declared.digest.Digest.{Digest}
use Rattle.tree_index.specs.Numbers.{Numbers}
use Rattle.stale_check.specs.Placing.{member_at, no_member, ArePlaces, AreNamed}
use Rattle.stale_check.specs.Recording.{IsHolder}
use Rattle.stale_check.proofs.Keying.{keyed_is}

-- what a recorded dependency means has its name
pub meant_name : (depend : Recorded) (m : PackageView) → is_recorded_as depend m ≡ true → depend.name ≡ m.name
meant_name depend m h =
    (bytes_eq-Decides depend.name m.name).0
    (and_parts (bytes_eq depend.name m.name) (is_same depend.digest (mark m))
    (and_parts (bytes_eq depend.node (node_of_package m)) (bytes_eq depend.name m.name && is_same depend.digest (mark m)) h).1).0

-- node and name, and the mark
pub meant_by_mark : (depend : Recorded) (m : PackageView) (digest : Digest) (same : Bool) → digest ≡ mark m
    → (bytes_eq depend.node (node_of_package m) && bytes_eq depend.name m.name) ≡ true → same ≡ is_same depend.digest digest → is_recorded_as depend m ≡ same
meant_by_mark depend m digest same e h s =
    let both = and_parts (bytes_eq depend.node (node_of_package m)) (bytes_eq depend.name m.name) h in
    ap (λ b. b && (bytes_eq depend.name m.name && is_same depend.digest (mark m))) both.0
    ∙ ap (λ b. b && is_same depend.digest (mark m)) both.1
    ∙ ap (is_same depend.digest) (sym e) ∙ sym s

-- another node or another name
pub not_named : (depend : Recorded) (m : PackageView) → (bytes_eq depend.node (node_of_package m) && bytes_eq depend.name m.name) ≡ false → is_recorded_as depend m ≡ false
not_named depend m h = by (bytes_eq depend.node (node_of_package m)) (bytes_eq depend.name m.name) (is_same depend.digest (mark m)) h
  where
    by : (a b c : Bool) → (a && b) ≡ false → (a && (b && c)) ≡ false
    by true true c e = absurd (true≢false e)
    by true false c e = refl
    by false b c e = refl

module _ (members : List PackageView) (places : Numbers) (all : ArePlaces members places) (names : AreNamed members) where
  -- the first place of a package's name is the package's
  each : (n : ℕ) → n < length members → map.get places (member_at members n).name ≡ Some n
  each n l =
      let first : position_or_len (λ (p : PackageView). bytes_eq (member_at members n).name p.name) members ≡ n =
      position_or_len_is (λ (p : PackageView). bytes_eq (member_at members n).name p.name) members n no_member (omega arith)
      (λ k lk. false_from_ne_true (bytes_eq (member_at members n).name (member_at members k).name)
      (λ t. let same : n ≡ k = names n k l (omega arith) ((bytes_eq-Decides (member_at members n).name (member_at members k).name).0 t) in omega arith))
      (λ _. (bytes_eq-Decides (member_at members n).name (member_at members n).name).1 refl) in
      all (member_at members n).name
      ∙ ap (λ k. cond (nat_lt k (length members)) (Some k) None) first
      ∙ ap (λ b. cond b (Some n) None) (lt-ltb n (length members) l)

  module _ (depend : Recorded) where
    -- what a dependency means stands at its name
    at_name : (n : ℕ) → n < length members → is_recorded_as depend (member_at members n) ≡ true → map.get places depend.name ≡ Some n
    at_name n l h = ap (map.get places) (meant_name depend (member_at members n) h) ∙ each n l

    apart : (n at : ℕ) → n < length members → map.get places depend.name ≡ Some at → is_recorded_as depend (member_at members n) ≡ true → n ≡ at
    apart n at l e h = let s : Some n ≡ Some at = sym (at_name n l h) ∙ e in cc

    holds_case : (at n : ℕ) → n < length members → map.get places depend.name ≡ Some at → is_recorded_as depend (member_at members at) ≡ true → (n ≡ at) ⊎ (n ≡ at → ⊥)
        → is_recorded_as depend (member_at members n) ≡ (n == at)
    holds_case at n l e h (inl same) = ap (λ k. is_recorded_as depend (member_at members k)) same ∙ h ∙ sym (eq-eqb n at same)
    holds_case at n l e h (inr other) = false_from_ne_true (is_recorded_as depend (member_at members n)) (λ t. other (apart n at l e t)) ∙ sym (ne_eqb n at other)

    pub holder_found : (at : ℕ) → map.get places depend.name ≡ Some at → is_recorded_as depend (member_at members at) ≡ true → IsHolder members depend (Some at)
    holder_found at e h = record {
      within = (keyed_is (λ (p : PackageView). p.name) members places no_member all depend.name at e).0;
      holds = λ n l. holds_case at n l e h (cases_eq n at);
    }

    pub holder_other : (at : ℕ) → map.get places depend.name ≡ Some at → is_recorded_as depend (member_at members at) ≡ false → IsHolder members depend None
    holder_other at e h = record {
      within = tt;
      holds = λ n l. false_from_ne_true (is_recorded_as depend (member_at members n))
          (λ t. true≢false (sym t ∙ ap (λ k. is_recorded_as depend (member_at members k)) (apart n at l e t) ∙ h));
    }

    pub holder_none : map.get places depend.name ≡ None → IsHolder members depend None
    holder_none e = record {
      within = tt;
      holds = λ n l. false_from_ne_true (is_recorded_as depend (member_at members n)) (λ t. let none : None ≡ Some n = sym e ∙ at_name n l t in cc);
    }
