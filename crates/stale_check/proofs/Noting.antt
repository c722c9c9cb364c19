-- What one recorded dependency, and one package, add to the lists of dependents.
use Rattle.std.proofs.Common.{◌≡◌, ℕ, ◌+◌, ◌<◌, ◌^◌, Bool, true, false, List, [], ◌∷◌, ◌++◌, length, get_or, set, take, replicate, arith, refl, ap, sym, subst, ◌∙◌, cond, inl, inr, ◌⊎◌}
use Rattle.std.specs.Prelude.{Option, Some, None, ◌&&◌, ◌||◌, ◌==◌, nat_lt, is_some}
use Rattle.std.specs.Option.{option_map_or}
use Rattle.std.specs.List.{list_all, list_any, All}
use Rattle.std.proofs.lemmas.Bool.{true≢false, eq-eqb, ne_eqb, lt-ltb, le-ltb, ltb-true, cases_eq, cases_order, and_parts, and_right, or_left, or_right}
use Rattle.std.proofs.lemmas.List.{get_or-set_same, get_or-set_other, length-set, get_or_default, get_or-replicate, length-replicate, map-append}
use Rattle.std.proofs.lemmas.List.Folds.{list_all_more, list_any_more, list_any_at}
use Rattle.std.proofs.lemmas.List.Elements.{All-from_get_or, All-nil, All-cons}
use Rattle.bulk_base.proofs.Members.{Member, any_member}
use Rattle.bulk_model.specs.Among.{is_recorded_as}
use Rattle.bulk_model.specs.Digests.{no_digest}
use Rattle.bulk_model.specs.Views.{PackageView}
use Rattle.bulk_model.specs.declared.depend.DepKind.TheVariants.{Pkg}
use Rattle.bulk_model.specs.declared.depend.Recorded.{Recorded}
use Rattle.bulk_model.specs.declared.plan.Edge.{Edge}
use Rattle.bulk_model.specs.declared.reason.Reason.{Reason}
use Rattle.dep_graph.specs.Graphs.{has, targets, edges_at, depends_at, IsGraph}
use Rattle.dep_graph.proofs.Members.{has-append, all_from_has}
use Rattle.stale_check.specs.Placing.{member_at, no_member}
use Rattle.stale_check.specs.Recording.{IsHolder, mean, Noted, lacks, AreRead}

pub no_recorded : Recorded
no_recorded = record { kind = Pkg; node = []; name = []; digest = no_digest }

or_none : (b : Bool) → b ≡ (b || false)
or_none true = refl
or_none false = refl

and_one : (b : Bool) → (b || false) ≡ (b && true)
and_one true = refl
and_one false = refl

pub and_true : (b : Bool) → b ≡ (b && true)
and_true true = refl
and_true false = refl

pub and_false : (b : Bool) → false ≡ (b && false)
and_false true = refl
and_false false = refl

step_test : (a s m d : Bool) → ((a || (s && m)) || (s && d)) ≡ (a || (s && (m || d)))
step_test true s m d = refl
step_test false true m d = refl
step_test false false m d = refl

module _ (members : List PackageView) where
  no_member_means : (depend : Recorded) → IsHolder members depend None → (b : Bool) → list_any (is_recorded_as depend) members ≡ b → b ≡ false
  no_member_means depend is true e =
      let m : Member (is_recorded_as depend) members = any_member (is_recorded_as depend) members e in
      let here : m.is.0 < length members = m.is.1 in
      let same : member_at members m.is.0 ≡ m.one = get_or_default members m.is.0 no_member m.one here ∙ m.is.2 in
      sym m.does ∙ sym (ap (is_recorded_as depend) same) ∙ is.holds m.is.0 here
  no_member_means depend is false e = refl

  -- a dependency means some member just where it has a holder
  holder_any : (depend : Recorded) (holder : Option ℕ) → IsHolder members depend holder → list_any (is_recorded_as depend) members ≡ is_some holder
  holder_any depend None is = no_member_means depend is (list_any (is_recorded_as depend) members) refl
  holder_any depend (Some h) is =
      let within : h < length members = is.within in
      list_any_at (is_recorded_as depend) members h no_member within (is.holds h within ∙ eq-eqb h h refl)

  pub all_more : (depends : List Recorded) (i : ℕ) (holder : Option ℕ) (before after : Bool) → i < length depends → IsHolder members (get_or depends i no_recorded) holder
      → before ≡ list_all (λ depend. list_any (is_recorded_as depend) members) (take i depends) → after ≡ (before && is_some holder)
      → after ≡ list_all (λ depend. list_any (is_recorded_as depend) members) (take (i + 1) depends)
  all_more depends i holder before after l is e step =
      step ∙ ap (λ b. b && is_some holder) e
      ∙ ap (λ b. list_all (λ depend. list_any (is_recorded_as depend) members) (take i depends) && b) (sym (holder_any (get_or depends i no_recorded) holder is))
      ∙ sym (list_all_more (λ depend. list_any (is_recorded_as depend) members) depends i no_recorded l)

  noted_more : (at i : ℕ) (depends : List Recorded) (holder : Option ℕ) (first before after : List (List Edge)) → i < length depends → IsHolder members (get_or depends i no_recorded) holder
      → Noted members at (take i depends) first before → length after ≡ length before
      → ((h n : ℕ) → h < length members → has (depends_at after h) n ≡ (has (depends_at before h) n || ((n == at) && option_map_or (λ p. h == p) holder false)))
      → Noted members at (take (i + 1) depends) first after
  noted_more at i depends holder first before after l is so_far size grew = record {
    size = size ∙ so_far.size;
    lists = λ h n b.
        let more : mean members h (take (i + 1) depends) ≡ (mean members h (take i depends) || option_map_or (λ p. h == p) holder false) =
        list_any_more (λ depend. is_recorded_as depend (member_at members h)) depends i no_recorded l ∙ ap (λ t. mean members h (take i depends) || t) (is.holds h b) in
        grew h n b ∙ ap (λ t. t || ((n == at) && option_map_or (λ p. h == p) holder false)) (so_far.lists h n b)
        ∙ step_test (has (depends_at first h) n) (n == at) (mean members h (take i depends)) (option_map_or (λ p. h == p) holder false)
        ∙ ap (λ t. has (depends_at first h) n || ((n == at) && t)) (sym more);
  }

  grown : List (List Edge) → ℕ → Edge → List (List Edge)
  grown before place edge = set before place (edges_at before place ++ edge ∷ [])

  put_case : (before : List (List Edge)) (place h n : ℕ) (edge : Edge) → place < length before → (h ≡ place) ⊎ (h ≡ place → ⊥)
      → has (depends_at (grown before place edge) h) n ≡ (has (depends_at before h) n || ((n == edge.to) && (h == place)))
  unfolding grown
  put_case before place h n edge l (inl same) =
      ap (λ k. has (depends_at (set before place (edges_at before place ++ edge ∷ [])) k) n) same
      ∙ ap (λ xs. has (targets xs) n) (get_or-set_same before place (edges_at before place ++ edge ∷ []) [] l)
      ∙ ap (λ xs. has xs n) (map-append (λ (e : Edge). e.to) (edges_at before place) (edge ∷ []))
      ∙ has-append (depends_at before place) (edge.to ∷ []) n
      ∙ ap (λ t. has (depends_at before place) n || t) (and_one (n == edge.to) ∙ ap (λ t. (n == edge.to) && t) (sym (eq-eqb h place same)))
      ∙ ap (λ k. has (depends_at before k) n || ((n == edge.to) && (h == place))) (sym same)
  put_case before place h n edge l (inr apart) =
      ap (λ xs. has (targets xs) n) (get_or-set_other before place h (edges_at before place ++ edge ∷ []) [] apart)
      ∙ or_none (has (depends_at before h) n)
      ∙ ap (λ t. has (depends_at before h) n || t) (sym (and_right (n == edge.to) (h == place) (ne_eqb h place apart)))

  pub noted_some : (i place : ℕ) (edge : Edge) (depends : List Recorded) (first before after : List (List Edge)) → i < length depends → place < length before → IsHolder members (get_or depends i no_recorded) (Some place)
      → Noted members edge.to (take i depends) first before → after ≡ set before place (edges_at before place ++ edge ∷ []) → Noted members edge.to (take (i + 1) depends) first after
  unfolding grown
  noted_some i place edge depends first before after l within is so_far e =
      subst (Noted members edge.to (take (i + 1) depends) first) (sym e)
      (noted_more edge.to i depends (Some place) first before (grown before place edge) l is so_far (length-set before place (edges_at before place ++ edge ∷ []))
      (λ h n b. put_case before place h n edge within (cases_eq h place)))

  pub noted_none : (at i : ℕ) (depends : List Recorded) (first before after : List (List Edge)) → i < length depends → IsHolder members (get_or depends i no_recorded) None
      → Noted members at (take i depends) first before → after ≡ before → Noted members at (take (i + 1) depends) first after
  noted_none at i depends first before after l is so_far e =
      subst (Noted members at (take (i + 1) depends) first) (sym e)
      (noted_more at i depends None first before before l is so_far refl
      (λ h n b. or_none (has (depends_at before h) n) ∙ ap (λ t. has (depends_at before h) n || t) (sym (and_right (n == at) false refl))))

  -- what holds below a bound, and at it
  below_case : (f : ℕ → Bool) (at n : ℕ) (b : Bool) → b ≡ f at → (n ≡ at) ⊎ ((n < at) ⊎ (at < n)) → ((nat_lt n at && f n) || ((n == at) && b)) ≡ (nat_lt n (at + 1) && f n)
  below_case f at n b e (inl same) =
      ap (λ t. (t && f n) || ((n == at) && b)) (le-ltb n at (omega arith)) ∙ ap (λ t. t && b) (eq-eqb n at same) ∙ e ∙ ap f (sym same) ∙ ap (λ t. t && f n) (sym (lt-ltb n (at + 1) (omega arith)))
  below_case f at n b e (inr (inl less)) =
      ap (λ t. (t && f n) || ((n == at) && b)) (lt-ltb n at less) ∙ ap (λ t. f n || (t && b)) (ne_eqb n at (λ same. omega arith)) ∙ sym (or_none (f n)) ∙ ap (λ t. t && f n) (sym (lt-ltb n (at + 1) (omega arith)))
  below_case f at n b e (inr (inr more)) =
      ap (λ t. (t && f n) || ((n == at) && b)) (le-ltb n at (omega arith)) ∙ ap (λ t. t && b) (ne_eqb n at (λ same. omega arith)) ∙ ap (λ t. t && f n) (sym (le-ltb n (at + 1) (omega arith)))

  below_more : (f : ℕ → Bool) (at n : ℕ) (b : Bool) → b ≡ f at → ((nat_lt n at && f n) || ((n == at) && b)) ≡ (nat_lt n (at + 1) && f n)
  below_more f at n b e = below_case f at n b e (cases_order n at)

  none_below : (b t : Bool) → b ≡ false → false ≡ (b && t)
  none_below true t e = absurd (true≢false e)
  none_below false t e = refl

  pub none_read : (reasons : List (Option Reason)) (dependents : List (List Edge)) (lost : List ℕ) → dependents ≡ replicate (length members) [] → lost ≡ [] → AreRead members reasons 0 dependents lost
  none_read reasons dependents lost e f = record {
    size = ap length e ∙ length-replicate (length members) [];
    lists = λ h n l. ap (λ xs. has (depends_at xs h) n) e ∙ ap (λ (edges : List Edge). has (targets edges) n) (get_or-replicate (length members) h [] [] l)
        ∙ none_below (nat_lt n 0) (mean members h (member_at members n).depends) (le-ltb n 0 (omega arith));
    first = λ n. ap (λ xs. has xs n) f ∙ none_below (nat_lt n 0) (is_some (get_or reasons n None) || lacks members (member_at members n)) (le-ltb n 0 (omega arith));
  }

  lose : (lost : List ℕ) (at n : ℕ) (goes : Bool) → has (cond goes (lost ++ at ∷ []) lost) n ≡ (has lost n || ((n == at) && goes))
  lose lost at n true = has-append lost (at ∷ []) n ∙ ap (λ t. has lost n || t) (and_one (n == at))
  lose lost at n false = or_none (has lost n) ∙ ap (λ t. has lost n || t) (sym (and_right (n == at) false refl))

  pub read_more : (reasons : List (Option Reason)) (at : ℕ) (before after : List (List Edge)) (lost : List ℕ) (goes : Bool) → AreRead members reasons at before lost
      → Noted members at (member_at members at).depends before after → goes ≡ (is_some (get_or reasons at None) || lacks members (member_at members at))
      → AreRead members reasons (at + 1) after (cond goes (lost ++ at ∷ []) lost)
  read_more reasons at before after lost goes so_far noted e = record {
    size = noted.size ∙ so_far.size;
    lists = λ h n l.
        noted.lists h n l ∙ ap (λ t. t || ((n == at) && mean members h (member_at members at).depends)) (so_far.lists h n l)
        ∙ below_more (λ k. mean members h (member_at members k).depends) at n (mean members h (member_at members at).depends) refl;
    first = λ n.
        lose lost at n goes ∙ ap (λ t. t || ((n == at) && goes)) (so_far.first n)
        ∙ below_more (λ k. is_some (get_or reasons k None) || lacks members (member_at members k)) at n goes e;
  }

  -- dependents are packages, and so are those that go by themselves
  module _ (reasons : List (Option Reason)) (dependents : List (List Edge)) (lost : List ℕ) (read : AreRead members reasons (length members) dependents lost) where
    pub first_within : All (λ n. n < length dependents) lost
    first_within =
        all_from_has (λ n. n < length dependents) lost
        (λ n t. let size : length dependents ≡ length members = read.size in
        let b = and_parts (nat_lt n (length members)) (is_some (get_or reasons n None) || lacks members (member_at members n)) (sym (read.first n) ∙ t) in
        omega (arith, ltb-true n (length members) b.0))

    target_within : (h : ℕ) → h < length dependents → (n : ℕ) → has (depends_at dependents h) n ≡ true → n < length dependents
    target_within h l n t =
        let size : length dependents ≡ length members = read.size in
        let b : (nat_lt n (length members) ≡ true) × (mean members h (member_at members n).depends ≡ true) =
        and_parts (nat_lt n (length members)) (mean members h (member_at members n).depends) (sym (read.lists h n (omega arith)) ∙ t) in
        omega (arith, ltb-true n (length members) b.0)

    edges_within : (edges : List Edge) → ((n : ℕ) → has (targets edges) n ≡ true → n < length dependents) → All (λ (edge : Edge). edge.to < length dependents) edges
    edges_within [] each = All-nil (λ (edge : Edge). edge.to < length dependents)
    edges_within (e ∷ es) each =
        All-cons (λ (edge : Edge). edge.to < length dependents) e es
        (each e.to (or_left (e.to == e.to) (has (targets es) e.to) (eq-eqb e.to e.to refl)))
        (edges_within es (λ n t. each n (or_right (n == e.to) (has (targets es) n) t)))

    pub read_graph : length members < 2 ^ 32 → IsGraph dependents
    read_graph few = record {
      few = (let size : length dependents ≡ length members = read.size in omega arith);
      within = All-from_get_or (λ edges. All (λ (edge : Edge). edge.to < length dependents) edges) dependents [] (λ h l. edges_within (edges_at dependents h) (target_within h l));
    }
