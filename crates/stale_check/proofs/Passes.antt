-- What passes over packages leave.
use Rattle.std.proofs.Common.{◌≡◌, ℕ, zero, suc, ◌≤◌, Bool, true, false, not, List, [], ◌∷◌, length, refl, ap, sym, subst, ◌∙◌, arith, cond, inl, inr}
use Rattle.std.specs.Prelude.{◌&&◌, filter, Contains}
use Rattle.std.specs.List.{list_any}
use Rattle.std.proofs.lemmas.Bool.{and_parts, and_from, not_from_false, false_from_ne_true, cases_lt}
use Rattle.bulk_base.proofs.Members.{Member, any_member, member_any, all_passes, passes_all, contains_here, contains_more, filter_into, filter_out_of, filter_whole}
use Rattle.bulk_model.specs.Among.{is_recorded_as}
use Rattle.bulk_model.specs.Sound.{has_all, IsWithin}
use Rattle.bulk_model.specs.Views.{PackageView}
use Rattle.bulk_model.specs.declared.depend.Recorded.{Recorded}
use Rattle.stale_check.specs.Fresh.{pass, passes, fresh, IsGreatest, FreshIsClosed, FreshIsGreatest, GreatestIsFresh}

-- tests one after another
filter_twice : {X : Type 0} (p q : X → Bool) (xs : List X) → filter q (filter p xs) ≡ filter (λ x. p x && q x) xs
filter_twice p q [] = refl
filter_twice p q (x ∷ xs) = first (p x) (filter_twice p q xs)
  where
    first : (b : Bool) → filter q (filter p xs) ≡ filter (λ y. p y && q y) xs → filter q (cond b (x ∷ filter p xs) (filter p xs)) ≡ cond (b && q x) (x ∷ filter (λ y. p y && q y) xs) (filter (λ y. p y && q y) xs)
    first true e = ap (λ ys. cond (q x) (x ∷ ys) ys) e
    first false e = e

filter_agree : {X : Type 0} (p q : X → Bool) (xs : List X) → ((x : X) → Contains xs x → p x ≡ q x) → filter p xs ≡ filter q xs
filter_agree p q [] same = refl
filter_agree p q (x ∷ xs) same =
    ap (λ b. cond b (x ∷ filter p xs) (filter p xs)) (same x (contains_here x xs)) ∙ ap (λ ys. cond (q x) (x ∷ ys) ys) (filter_agree p q xs (λ y c. same y (contains_more x xs y c)))

same_test : (a b : Bool) → (a ≡ true → b ≡ true) → (b ≡ true → a ≡ true) → a ≡ b
same_test true b f g = sym (f refl)
same_test false true f g = g refl
same_test false false f g = refl

-- what has all that it needs among fewer has it among more
pub has_all_more : (members more : List PackageView) → IsWithin members more → (x : PackageView) → has_all members x ≡ true → has_all more x ≡ true
has_all_more members more within x h =
    passes_all (λ d. list_any (is_recorded_as d) more) x.depends
    (λ d c. let m : Member (is_recorded_as d) members = any_member (is_recorded_as d) members (all_passes (λ n. list_any (is_recorded_as n) members) x.depends d h c) in
    member_any (is_recorded_as d) more m.one (within m.one m.is) m.does)

-- each need is meant by something of which P holds
pub record Met (P : PackageView → Type 0) (d : Recorded) : Type 0 where
  pub one : PackageView
  pub is : P one
  pub meant : is_recorded_as d one ≡ true

module _ (own : PackageView → Bool) where
  -- whether a pass keeps a member
  abbrev keeps_in : List PackageView → PackageView → Bool
  keeps_in members x = not (own x) && has_all members x

  within_passes : (rounds : ℕ) (members : List PackageView) → IsWithin (passes own rounds members) members
  within_passes zero members x h = h
  within_passes (suc rounds) members x h = (filter_out_of (keeps_in members) members x (within_passes rounds (pass own members) x h)).0

  stays : (rounds : ℕ) (members : List PackageView) → pass own members ≡ members → passes own rounds members ≡ members
  stays zero members e = refl
  stays (suc rounds) members e = ap (passes own rounds) e ∙ stays rounds members e

  -- of what is left a further pass takes nothing
  settled : (rounds : ℕ) (members : List PackageView) → length members ≤ rounds → pass own (passes own rounds members) ≡ passes own rounds members
  settled zero members l = filter_whole (keeps_in members) members (omega arith)
  settled (suc rounds) members l =
      elim (cases_lt (length (pass own members)) (length members)) [
        | inl less ↦ settled rounds (pass own members) (omega arith)
        | inr all ↦
            (let e : pass own members ≡ members = filter_whole (keeps_in members) members all in
            let same : passes own rounds (pass own members) ≡ members = stays (suc rounds) members e in
            subst (λ ms. pass own ms ≡ ms) (sym same) e)
      ]

  -- what is left has no own reason, and all that it needs
  of_fresh : (members : List PackageView) (x : PackageView) → Contains (fresh own members) x → (own x ≡ true → ⊥) × (has_all (fresh own members) x ≡ true)
  of_fresh members x h =
      let left : List PackageView = fresh own members in
      let e : pass own left ≡ left = settled (length members) members (omega arith) in
      let both : (not (own x) ≡ true) × (has_all left x ≡ true) =
      and_parts (not (own x)) (has_all left x) (filter_out_of (keeps_in left) left x (subst (λ ms. Contains ms x) (sym e) h)).1 in
      ((λ t. let no : not true ≡ true = ap not (sym t) ∙ both.0 in cc), both.1)

  -- the law for a set that any property describes
  pub stays_in : (P : PackageView → Type 0) → ((x : PackageView) → P x → own x ≡ false) → ((x : PackageView) (d : Recorded) → P x → Contains x.depends d → Met P d)
      → (rounds : ℕ) (members : List PackageView) → ((x : PackageView) → P x → Contains members x) → (x : PackageView) → P x → Contains (passes own rounds members) x
  stays_in P free met zero members within x h = within x h
  stays_in P free met (suc rounds) members within x h =
      stays_in P free met rounds (pass own members)
      (λ y k. filter_into (keeps_in members) members y (within y k)
      (and_from (not (own y)) (has_all members y) (not_from_false (own y) (free y k))
      (passes_all (λ d. list_any (is_recorded_as d) members) y.depends (λ d c. let m : Met P d = met y d k c in member_any (is_recorded_as d) members m.one (within m.one m.is) m.meant)))) x h

  -- passes are one test
  pub passes_test : (rounds : ℕ) (members : List PackageView) → (test : PackageView → Bool) × (passes own rounds members ≡ filter test members)
  passes_test zero members = ((λ x. true), whole members)
    where
      whole : (xs : List PackageView) → xs ≡ filter (λ x. true) xs
      whole [] = refl
      whole (x ∷ xs) = ap (λ ys. x ∷ ys) (whole xs)
  passes_test (suc rounds) members =
      let rest : (test : PackageView → Bool) × (passes own rounds (pass own members) ≡ filter test (pass own members)) = passes_test rounds (pass own members) in
      ((λ x. keeps_in members x && rest.0 x), rest.1 ∙ filter_twice (keeps_in members) rest.0 members)

pub fresh_is_greatest : FreshIsGreatest
fresh_is_greatest own members = record {
  within = λ x h. within_passes own (length members) members x h;
  closed = λ x h. (of_fresh own members x h).1;
  free = λ x h. false_from_ne_true (own x) (of_fresh own members x h).0;
  greatest = λ some within closed free x h.
      stays_in own (λ y. Contains some y) free
      (λ y d k c. let m : Member (is_recorded_as d) some = any_member (is_recorded_as d) some (all_passes (λ n. list_any (is_recorded_as n) some) y.depends d (closed y k) c) in record { one = m.one; is = m.is; meant = m.does })
      (length members) members within x h;
}

pub greatest_is_fresh : GreatestIsFresh
greatest_is_fresh own members keeps is =
    let one : (test : PackageView → Bool) × (fresh own members ≡ filter test members) = passes_test own (length members) members in
    let left : IsGreatest own members (fresh own members) = fresh_is_greatest own members in
    filter_agree keeps one.0 members
    (λ x c. same_test (keeps x) (one.0 x)
    (λ t. (filter_out_of one.0 members x
    (subst (λ xs. Contains xs x) one.1 (left.greatest (filter keeps members) is.within is.closed is.free x (filter_into keeps members x c t)))).1)
    (λ t. (filter_out_of keeps members x
    (is.greatest (fresh own members) left.within left.closed left.free x (subst (λ xs. Contains xs x) (sym one.1) (filter_into one.0 members x c t)))).1))
    ∙ sym one.1

pub fresh_is_closed : FreshIsClosed
fresh_is_closed own members = (fresh_is_greatest own members).closed
