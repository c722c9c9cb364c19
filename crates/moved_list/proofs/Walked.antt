-- What the loop over the names of a chain keeps.
use Rattle.std.proofs.Common.{◌≡◌, ℕ, zero, suc, ◌+◌, ◌≤◌, Bool, true, false, List, [], ◌∷◌, ◌++◌, length, arith, ◌∙◌, ap, refl, sym, cond, subst}
use Rattle.std.specs.Prelude.{Option, Some, None, reverse, find, bytes_eq, map, ◌||◌, ◌==◌}
use Rattle.std.specs.List.{IsDistinct}
use Rattle.std.specs.Cmp.Lexicographic.{nat_list_eq_equiv}
use Rattle.std.proofs.lemmas.Map.Keys.{IsDistinct-push}
use Rattle.std.proofs.lemmas.Map.Made.{length-le_from_is_member}
use Rattle.std.proofs.lemmas.List.{length-append, length-map, length-reverse}
use Rattle.std.proofs.lemmas.List.Folds.{list_any-append}
use Rattle.port_name.specs.Sets.{is_among}
use Rattle.moved_list.specs.declared.line.MovedLine.{MovedLine}
use Rattle.moved_list.specs.declared.chain.Follow.{Follow}
use Rattle.moved_list.specs.declared.chain.Follow.TheVariants.{Here, At, Circle}
use Rattle.moved_list.specs.declared.chain.Step.TheVariants.{End, Next}
use Rattle.moved_list.specs.Moved.{last_line}
use Rattle.moved_list.specs.declared.chain.Step.{Step}
use Rattle.moved_list.specs.Walk.{from_first, by_line, step, ended, led, leads_to, Goes, Leads}

-- one answer alone
pub one_answer : (names : List (List ℕ)) (moved : List MovedLine) (chain : List (List ℕ)) (name : List ℕ) (a b : List (List ℕ)) (x y : Follow)
    → Goes names moved chain name a x → Goes names moved chain name b y → x ≡ y
one_answer names moved chain name [] [] x y p q = let same : End x ≡ End y = sym p ∙ q in cc
one_answer names moved chain name [] (n ∷ b) x y p q = absurd (let no : End x ≡ Next n = sym p ∙ q.0 in cc)
one_answer names moved chain name (m ∷ a) [] x y p q = absurd (let no : End y ≡ Next m = sym q ∙ p.0 in cc)
one_answer names moved chain name (m ∷ a) (n ∷ b) x y p q =
    let same : m ≡ n = let e : Next m ≡ Next n = sym p.0 ∙ q.0 in cc in
    one_answer names moved (chain ++ name ∷ []) m a b x y p.1 (subst (λ k. Goes names moved (chain ++ name ∷ []) k b y) (sym same) q.1)

-- the old names, the last line's first
abbrev pub old_names : List MovedLine → List (List ℕ)
old_names moved = map (λ line. line.from) (reverse moved)

-- where the loop is: what is left leads to what the whole leads to; the chain's names are old names, each once
pub record WalkedSoFar (names : List (List ℕ)) (moved : List MovedLine) (start : List ℕ) (steps : ℕ) (chain : List (List ℕ)) (name : List ℕ) : Type 0 where
  pub goes : (more : List (List ℕ)) (answer : Follow) → Goes names moved chain name more answer → Leads names moved start answer
  pub size : length chain ≡ steps
  pub distinct : IsDistinct bytes_eq chain
  pub old : (q : List ℕ) → is_among chain q ≡ true → is_among (old_names moved) q ≡ true

none_distinct : IsDistinct bytes_eq []
unfolding IsDistinct
none_distinct = tt

pub walk_begin : (names : List (List ℕ)) (moved : List MovedLine) (start name : List ℕ) (chain : List (List ℕ)) → name ≡ start → chain ≡ [] → WalkedSoFar names moved start 0 chain name
walk_begin names moved start name chain e c =
    subst (λ n. WalkedSoFar names moved start 0 chain n) (sym e) (subst (λ k. WalkedSoFar names moved start 0 k start) (sym c) (record {
      goes = λ more answer g. record { by = more; goes = g };
      size = refl;
      distinct = none_distinct;
      old = λ q h. cc;
    }))

or_first : (a b : Bool) → a ≡ true → (a || b) ≡ true
or_first a b h = grind arith

or_next : (a b : Bool) → b ≡ true → (a || b) ≡ true
or_next a b h = grind arith

either : (a b : Bool) → (a || (b || false)) ≡ true → (a ≡ false → b ≡ true)
either a b h e = grind arith

found_case : (l : MovedLine) (lines : List MovedLine) (name : List ℕ) (line : MovedLine) (t : Bool) → bytes_eq l.from name ≡ t
    → (find (λ x. bytes_eq x.from name) lines ≡ Some line → is_among (map (λ x. x.from) lines) name ≡ true)
    → cond t (Some l) (find (λ x. bytes_eq x.from name) lines) ≡ Some line → is_among (map (λ x. x.from) (l ∷ lines)) name ≡ true
found_case l lines name line true e rest h = or_first (bytes_eq name l.from) (is_among (map (λ x. x.from) lines) name) (nat_list_eq_equiv.symm name l.from ∙ e)
found_case l lines name line false e rest h = or_next (bytes_eq name l.from) (is_among (map (λ x. x.from) lines) name) (rest h)

-- a line that is found has one of the old names
found_among : (lines : List MovedLine) (name : List ℕ) (line : MovedLine) → find (λ x. bytes_eq x.from name) lines ≡ Some line → is_among (map (λ x. x.from) lines) name ≡ true
found_among [] name line h = cc
found_among (l ∷ lines) name line h = found_case l lines name line (bytes_eq l.from name) refl (found_among lines name line) h

-- a step to a next name is from a name that is new to the chain and has a line
step_case : (first other : Follow) (t u : Bool) (o : Option MovedLine) (next : List ℕ) → cond t (End first) (cond u (End other) (by_line o)) ≡ Next next
    → (t ≡ false) × ((line : MovedLine) × (o ≡ Some line))
step_case first other true u o next h = cc
step_case first other false true o next h = cc
step_case first other false false None next h = cc
step_case first other false false (Some line) next h = (refl, (line, refl))

abbrev there_at : List (List ℕ) → List ℕ → Follow
there_at chain name = cond (length chain == 0) Here (At name)

next_is_new : (names : List (List ℕ)) (moved : List MovedLine) (chain : List (List ℕ)) (name next : List ℕ) → step names moved chain name ≡ Next next
    → (is_among chain name ≡ false) × ((line : MovedLine) × (last_line moved name ≡ Some line))
next_is_new names moved chain name next h = step_case (Circle (from_first name chain)) (there_at chain name) (is_among chain name) (is_among names name) (last_line moved name) next h

same_among : (x q : List ℕ) (names : List (List ℕ)) → bytes_eq q x ≡ true → is_among names x ≡ true → is_among names q ≡ true
same_among x q [] e h = h
same_among x q (n ∷ names) e h = same_case (bytes_eq x n) (bytes_eq q n) (is_among names x) (is_among names q) (nat_list_eq_equiv.congr q x n e) (same_among x q names e) h where
  same_case : (a b c d : Bool) → b ≡ a → (c ≡ true → d ≡ true) → (a || c) ≡ true → (b || d) ≡ true
  same_case true b c d e f h = or_first b d e
  same_case false b c d e f h = or_next b d (f h)

old_push : (moved : List MovedLine) (chain : List (List ℕ)) (name : List ℕ) → ((q : List ℕ) → is_among chain q ≡ true → is_among (old_names moved) q ≡ true)
    → is_among (old_names moved) name ≡ true → (q : List ℕ) → is_among (chain ++ name ∷ []) q ≡ true → is_among (old_names moved) q ≡ true
old_push moved chain name h known q among =
    old_case (is_among chain q) refl (bytes_eq q name) refl (sym (list_any-append (bytes_eq q) chain (name ∷ [])) ∙ among) where
      old_case : (a : Bool) → is_among chain q ≡ a → (b : Bool) → bytes_eq q name ≡ b → (a || (b || false)) ≡ true → is_among (old_names moved) q ≡ true
      old_case true ea b eb t = h q ea
      old_case false ea true eb t = same_among name q (old_names moved) eb known
      old_case false ea false eb t = cc

longer_walk : (names : List (List ℕ)) (moved : List MovedLine) (start : List ℕ) (steps : ℕ) (chain : List (List ℕ)) (name next : List ℕ) → step names moved chain name ≡ Next next
    → WalkedSoFar names moved start steps chain name → WalkedSoFar names moved start (steps + 1) (chain ++ name ∷ []) next
longer_walk names moved start steps chain name next h so_far =
    let new = next_is_new names moved chain name next h in
    record {
      goes = λ more answer g. so_far.goes (next ∷ more) answer (h, g);
      size = length-append chain (name ∷ []) ∙ ap (λ n. n + 1) so_far.size;
      distinct = IsDistinct-push nat_list_eq_equiv chain name so_far.distinct new.0;
      old = old_push moved chain name so_far.old (found_among (reverse moved) name new.1.0 new.1.1);
    }

pub walk_next : (names : List (List ℕ)) (moved : List MovedLine) (start : List ℕ) (steps : ℕ) (chain longer : List (List ℕ)) (name next : List ℕ) → step names moved chain name ≡ Next next
    → longer ≡ chain ++ name ∷ [] → WalkedSoFar names moved start steps chain name → WalkedSoFar names moved start (steps + 1) longer next
walk_next names moved start steps chain longer name next h e so_far = subst (λ k. WalkedSoFar names moved start (steps + 1) k next) (sym e) (longer_walk names moved start steps chain name next h so_far)

pub walk_end : (names : List (List ℕ)) (moved : List MovedLine) (start : List ℕ) (steps : ℕ) (chain : List (List ℕ)) (name : List ℕ) (answer : Follow) → step names moved chain name ≡ End answer
    → WalkedSoFar names moved start steps chain name → Leads names moved start answer
walk_end names moved start steps chain name answer h so_far = so_far.goes [] answer h

-- a chain has no more names than there are lines
pub walk_short : (names : List (List ℕ)) (moved : List MovedLine) (start : List ℕ) (steps : ℕ) (chain : List (List ℕ)) (name : List ℕ) → WalkedSoFar names moved start steps chain name → steps ≤ length moved
walk_short names moved start steps chain name so_far =
    let most : length chain ≤ length (old_names moved) = length-le_from_is_member nat_list_eq_equiv chain (old_names moved) so_far.distinct so_far.old in
    omega (arith, most, so_far.size, length-map (reverse moved) (λ line. line.from), length-reverse moved)

pub only_answer : (names : List (List ℕ)) (moved : List MovedLine) (name : List ℕ) (found answer : Follow) → Leads names moved name found → Leads names moved name answer → answer ≡ found
only_answer names moved name found answer p q = one_answer names moved [] name q.by p.by answer found q.goes p.goes

-- as many steps as are left lead to the whole's answer
led_on : (names : List (List ℕ)) (moved : List MovedLine) (start : List ℕ) (left steps : ℕ) (chain : List (List ℕ)) (name : List ℕ) → steps + left ≡ length moved + 1
    → WalkedSoFar names moved start steps chain name → Leads names moved start (led left names moved chain name)
led_on names moved start zero steps chain name e so_far = absurd (omega (arith, e, walk_short names moved start steps chain name so_far))
led_on names moved start (suc left) steps chain name e so_far =
    by_step (step names moved chain name) refl (λ next h. led_on names moved start left (steps + 1) (chain ++ name ∷ []) next (omega (arith, e)) (longer_walk names moved start steps chain name next h so_far)) where
      by_step : (s : Step) → step names moved chain name ≡ s
          → ((next : List ℕ) → step names moved chain name ≡ Next next → Leads names moved start (led left names moved (chain ++ name ∷ []) next))
          → Leads names moved start (ended (led left names moved (chain ++ name ∷ [])) s)
      by_step (End answer) h on = walk_end names moved start steps chain name answer h so_far
      by_step (Next next) h on = on next h

-- a name leads to its answer
pub leads : (names : List (List ℕ)) (moved : List MovedLine) (name : List ℕ) → Leads names moved name (leads_to names moved name)
unfolding leads_to
leads names moved name = led_on names moved name (length moved + 1) 0 [] name (omega arith) (walk_begin names moved name name [] refl refl)

pub the_answer : (names : List (List ℕ)) (moved : List MovedLine) (name : List ℕ) (found : Follow) → Leads names moved name found → found ≡ leads_to names moved name
the_answer names moved name found h = sym (only_answer names moved name found (leads_to names moved name) h (leads names moved name))

-- steps, and so answers, are the same over the same names, in whatever order they stand
step_alike : (a b : List (List ℕ)) → ((name : List ℕ) → is_among a name ≡ is_among b name) → (moved : List MovedLine) (chain : List (List ℕ)) (name : List ℕ) → step a moved chain name ≡ step b moved chain name
step_alike a b same moved chain name = ap (λ there. cond (is_among chain name) (End (Circle (from_first name chain))) (cond there (End (there_at chain name)) (by_line (last_line moved name)))) (same name)

led_alike : (a b : List (List ℕ)) → ((name : List ℕ) → is_among a name ≡ is_among b name) → (moved : List MovedLine) (steps : ℕ) (chain : List (List ℕ)) (name : List ℕ) → led steps a moved chain name ≡ led steps b moved chain name
led_alike a b same moved zero chain name = refl
led_alike a b same moved (suc steps) chain name =
    ap (ended (led steps a moved (chain ++ name ∷ []))) (step_alike a b same moved chain name) ∙ by_step (step b moved chain name) (led_alike a b same moved steps (chain ++ name ∷ [])) where
      by_step : (s : Step) → ((next : List ℕ) → led steps a moved (chain ++ name ∷ []) next ≡ led steps b moved (chain ++ name ∷ []) next)
          → ended (led steps a moved (chain ++ name ∷ [])) s ≡ ended (led steps b moved (chain ++ name ∷ [])) s
      by_step (End answer) on = refl
      by_step (Next next) on = on next

pub leads_alike : (a b : List (List ℕ)) → ((name : List ℕ) → is_among a name ≡ is_among b name) → (moved : List MovedLine) (name : List ℕ) → leads_to a moved name ≡ leads_to b moved name
unfolding leads_to
leads_alike a b same moved name = led_alike a b same moved (length moved + 1) [] name
