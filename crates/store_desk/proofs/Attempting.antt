-- What one turn does keeps what holds of the store.
use Rattle.std.proofs.Common.{◌≡◌, ◌⊎◌, ℕ, zero, suc, ◌<◌, ◌≤◌, Bool, true, false, not, ◌||◌, List, [], ◌∷◌, ◌++◌, length, get_or, set, Option, Some, None, Result, Ok, Err, OnOk, OnErr, IsTrue, refl, sym, ap, subst, ◌∙◌, inl, inr, ⊎_elim, arith}
use Rattle.std.specs.List.{list_all}
use Rattle.std.proofs.Math.ListN.{length-set}
use Rattle.std.proofs.lemmas.Bool.{and_parts, and_from}
use Rattle.std.proofs.lemmas.List.{append-nil}
use Rattle.atomic_table.specs.Table.{Me}
use Rattle.outside.specs.Changes.{Made, TookEffect}
use Rattle.outside.specs.Faults.{HasCause}
use Rattle.outside.specs.declared.change.Change.TheVariants.{Put}
use Rattle.outside.specs.declared.outer.Outer.{Outer}
use Rattle.outside.specs.declared.outer.Outer.TheVariants.{Fault, NoMemory}
use Rattle.bulk_base.proofs.Least.{none-pass, all-fail}
use Rattle.bulk_model.specs.declared.plan.Kept.{Kept as KeptPackages}
use Rattle.bulk_model.specs.Flags.{flag, Within}
use Rattle.bulk_model.specs.Installs.{has}
use Rattle.bulk_model.specs.Journal.{IsPutOf}
use Rattle.bulk_model.specs.PlanView.{PlanView, depends, is_ignored}
use Rattle.bulk_model.specs.Results.{is_kept}
use Rattle.store_desk.specs.declared.attempt.Keep.{Keep}
use Rattle.store_desk.specs.declared.attempt.Keep.TheVariants.{Later, NoMemory as KeepNoMemory}
use Rattle.store_desk.specs.declared.view.Held.{Held}
use Rattle.store_desk.specs.declared.view.Origin.{Origin}
use Rattle.store_desk.specs.declared.view.View.{View}
use Rattle.store_desk.specs.Attempts.{Attempted, AfterKeep, answer_of}
use Rattle.store_desk.specs.Changes.{after_take, after_give}
use Rattle.store_desk.specs.Marks.{newly}
use Rattle.store_desk.specs.Seats.{front}
use Rattle.store_desk.specs.Told.{Lore, file_of, is_done, all_done, least_open, IsRight}
use Rattle.store_desk.specs.Written.{put_nodes, passes, IsWritten, IsSound}
use Rattle.store_desk.proofs.Marks.{set-marked, set-within, set-here, newly-same, newly-set}
use Rattle.store_desk.proofs.Puts.{written-more, written-same}

-- what is known of a put and of its marks
pub record PutFacts {X U : Type 0} (l : Lore X) (plan : PlanView) (kept : KeptPackages) (n : ℕ) (bytes : List ℕ) (before now : Held X) (r : Result U Outer) : Type 0 where
  pub inside : n < length plan.jobs
  pub made : is_kept kept n ≡ false
  pub wanted : is_ignored plan n ≡ false
  pub right : IsRight l.rooms_tell l.runs plan kept n bytes
  pub least : least_open plan kept before.saved n ≡ None
  pub told : IsTrue l.tells → Made (Put (file_of plan n) bytes) (l.content before.store) (l.content now.store) (l.journal before.store) (l.journal now.store) r
  pub cause : HasCause (l.faults before.store) (l.faults now.store) r
  pub tried : now.tried ≡ set before.tried n true
  pub ok : OnOk r (now.saved ≡ set before.saved n true)
  pub err : OnErr r (now.saved ≡ before.saved)

not-false : (b : Bool) → not b ≡ false → b ≡ true
not-false true e = refl
not-false false e = absurd (cc)

-- what holds at each place holds of all, and the other way round
all-from : (f : ℕ → Bool) (xs : List ℕ) → ((k : ℕ) → k < length xs → f (get_or xs k 0) ≡ true) → list_all f xs ≡ true
all-from f [] h = refl
all-from f (x ∷ xs) h = and_from (f x) (list_all f xs) (h 0 (omega arith)) (all-from f xs (λ k l. h (suc k) (omega arith)))

all-at : (f : ℕ → Bool) (xs : List ℕ) → list_all f xs ≡ true → (k : ℕ) → k < length xs → f (get_or xs k 0) ≡ true
all-at f [] e k l = absurd (omega arith)
all-at f (x ∷ xs) e zero l = (and_parts (f x) (list_all f xs) e).0
all-at f (x ∷ xs) e (suc k) l = all-at f xs (and_parts (f x) (list_all f xs) e).1 k (omega arith)

all-more : (f g : ℕ → Bool) → ((d : ℕ) → f d ≡ true → g d ≡ true) → (xs : List ℕ) → list_all f xs ≡ true → list_all g xs ≡ true
all-more f g more [] e = refl
all-more f g more (x ∷ xs) e = let p = and_parts (f x) (list_all f xs) e in and_from (g x) (list_all g xs) (more x p.0) (all-more f g more xs p.1)

-- where no dependency is open all are done, and the other way round
pub none-open : (plan : PlanView) (kept : KeptPackages) (saved : List Bool) (n : ℕ) → least_open plan kept saved n ≡ None → all_done plan kept saved n ≡ true
none-open plan kept saved n e = all-from (is_done kept saved) (depends plan n) (λ k h. not-false (is_done kept saved (get_or (depends plan n) k 0)) (none-pass (λ (d : ℕ). not (is_done kept saved d)) (depends plan n) e k h))

all-closed : (plan : PlanView) (kept : KeptPackages) (saved : List Bool) (n : ℕ) → all_done plan kept saved n ≡ true → least_open plan kept saved n ≡ None
all-closed plan kept saved n e = all-fail (λ (d : ℕ). not (is_done kept saved d)) (depends plan n) (λ k h. ap not (all-at (is_done kept saved) (depends plan n) e k h))

or-more : (a b c : Bool) → (b ≡ true → c ≡ true) → (a || b) ≡ true → (a || c) ≡ true
or-more true b c f e = refl
or-more false b c f e = f e

-- with more saved nodes no less is done
done-more : (plan : PlanView) (kept : KeptPackages) (saved saved2 : List Bool) (n : ℕ) → Within saved saved2 → all_done plan kept saved n ≡ true → all_done plan kept saved2 n ≡ true
done-more plan kept saved saved2 n more = all-more (is_done kept saved) (is_done kept saved2) (λ d e. or-more (is_kept kept d) (flag saved d) (flag saved2 d) (more d) e) (depends plan n)

-- and there is still no dependency left
still-none : (plan : PlanView) (kept : KeptPackages) (saved saved2 : List Bool) (n : ℕ) → Within saved saved2 → least_open plan kept saved n ≡ None → least_open plan kept saved2 n ≡ None
still-none plan kept saved saved2 n more e = all-closed plan kept saved2 n (done-more plan kept saved saved2 n more (none-open plan kept saved n e))

module _ {X : Type 0} (l : Lore X) (o : Origin) where
  pub later-attempted : (n d : ℕ) (before : Held X) → IsSound l o before → least_open o.plan o.kept before.saved n ≡ Some d → Attempted l o n before before (Later d)
  later-attempted n d before s e = record { sound = s; later = omega arith; saved = λ k t. t; tried = inl refl; answers = (e, refl) }

  pub memory-attempted : (n : ℕ) (before : Held X) → IsSound l o before → least_open o.plan o.kept before.saved n ≡ None → Attempted l o n before before KeepNoMemory
  memory-attempted n before s e = record { sound = s; later = omega arith; saved = λ k t. t; tried = inl refl; answers = (e, refl) }

  module _ {U : Type 0} (n : ℕ) (bytes : List ℕ) (before now : Held X) (r : Result U Outer) (f : PutFacts l o.plan o.kept n bytes before now r) (s : IsSound l o before) where
    more-tried : Within before.tried now.tried
    more-tried = subst (λ (xs : List Bool). Within before.tried xs) (sym f.tried) (set-within before.tried n)

    now-tried : flag now.tried n ≡ true
    now-tried = let size = s.places in let inside = f.inside in subst (λ (xs : List Bool). flag xs n ≡ true) (sym f.tried) (set-here before.tried n (omega arith))

    is-put : (nodes : List ℕ) → ((d : ℕ) → flag before.saved d ≡ true → has nodes d ≡ true) → IsPutOf o.plan o.kept (passes l o) nodes n (Put (file_of o.plan n) bytes)
    is-put nodes have = record {
      node = f.inside;
      new = f.made;
      allowed = f.wanted;
      behind = all-more (is_done o.kept before.saved) (λ d. is_kept o.kept d || has nodes d) (λ d e. or-more (is_kept o.kept d) (flag before.saved d) (has nodes d) (have d) e) (depends o.plan n) (none-open o.plan o.kept before.saved n f.least);
      bytes = bytes;
      passing = f.right;
      is = refl;
    }

    -- the marks and the journal where the put took effect
    took-effect : (saved : List Bool) → ((k : ℕ) → flag saved k ≡ true → (k ≡ n) ⊎ (flag before.saved k ≡ true)) → IsTrue l.tells
        → TookEffect (Put (file_of o.plan n) bytes) (l.content before.store) (l.content now.store) (l.journal before.store) (l.journal now.store)
        → IsWritten l o saved (flag now.tried) (l.journal now.store) (l.content now.store)
    took-effect saved new tells e =
        let w = s.written tells in
        written-more l o before.saved saved (flag before.tried) (flag now.tried) (l.journal before.store) (l.journal now.store) (l.content before.store) (l.content now.store) n bytes
        w e.journal e.content (is-put (put_nodes o.plan o.kept (passes l o) [] w.puts w.ordered) w.saved_put) more-tried now-tried new

    tried-rooms : length now.tried ≡ length o.plan.jobs
    tried-rooms = ap length f.tried ∙ length-set before.tried n true ∙ s.places

    sound-now : Within before.saved now.saved → length now.saved ≡ length o.plan.jobs → ((k : ℕ) → flag now.saved k ≡ true → (k ≡ n) ⊎ (flag before.saved k ≡ true))
        → (IsTrue l.tells → IsWritten l o now.saved (flag now.tried) (l.journal now.store) (l.content now.store)) → IsSound l o now
    sound-now more size new written = record {
      rooms = size;
      places = tried-rooms;
      closed = λ m e. done-more o.plan o.kept before.saved now.saved m more
          (⊎_elim (λ same. subst (λ (k : ℕ). all_done o.plan o.kept before.saved k ≡ true) (sym same) (none-open o.plan o.kept before.saved n f.least)) (λ old. s.closed m old) (new m e));
      written = written;
    }

    -- the marks as they were
    same-marks : now.saved ≡ before.saved → (k : ℕ) → flag now.saved k ≡ true → (k ≡ n) ⊎ (flag before.saved k ≡ true)
    same-marks same k e = inr (subst (λ (xs : List Bool). flag xs k ≡ true) same e)

    same-more : now.saved ≡ before.saved → Within before.saved now.saved
    same-more same = subst (λ (xs : List Bool). Within before.saved xs) (sym same) (λ k e. e)

    same-written : now.saved ≡ before.saved → IsTrue l.tells → l.journal now.store ≡ l.journal before.store → l.content now.store ≡ l.content before.store
        → IsWritten l o now.saved (flag now.tried) (l.journal now.store) (l.content now.store)
    same-written same tells journal content =
        written-same l o before.saved now.saved (flag before.tried) (flag now.tried) (l.journal before.store) (l.journal now.store) (l.content before.store) (l.content now.store)
        (s.written tells) journal content more-tried (λ k e. subst (λ (xs : List Bool). flag xs k ≡ true) same e)

    now-none : Within before.saved now.saved → least_open o.plan o.kept now.saved n ≡ None
    now-none more = still-none o.plan o.kept before.saved now.saved n more f.least

  pub put-attempted : {U : Type 0} (n : ℕ) (bytes : List ℕ) (before now : Held X) (r : Result U Outer) → PutFacts l o.plan o.kept n bytes before now r → IsSound l o before → Attempted l o n before now (answer_of r)
  put-attempted n bytes before now (Ok u) f s =
      let inside = f.inside in
      let size = s.rooms in
      let more : Within before.saved now.saved = subst (λ (xs : List Bool). Within before.saved xs) (sym f.ok) (set-within before.saved n) in
      let marks : (k : ℕ) → flag now.saved k ≡ true → (k ≡ n) ⊎ (flag before.saved k ≡ true) = λ k e. set-marked before.saved n k (subst (λ (xs : List Bool). flag xs k ≡ true) f.ok e) in
      record {
        sound = sound-now n bytes before now (Ok u) f s more (ap length f.ok ∙ length-set before.saved n true ∙ s.rooms) marks (λ tells. took-effect n bytes before now (Ok u) f s now.saved marks tells (f.told tells));
        later = f.cause.later;
        saved = more;
        tried = inr f.tried;
        answers = (subst (λ (xs : List Bool). flag xs n ≡ true) (sym f.ok) (set-here before.saved n (omega arith)), now-none n bytes before now (Ok u) f s more, f.cause.kept refl);
      }
  put-attempted n bytes before now (Err Fault) f s =
      let more : Within before.saved now.saved = same-more n bytes before now (Err Fault) f s f.err in
      let marks = same-marks n bytes before now (Err Fault) f s f.err in
      record {
        sound = sound-now n bytes before now (Err Fault) f s more (ap length f.err ∙ s.rooms) marks (λ tells. ⊎_elim (λ e. took-effect n bytes before now (Err Fault) f s now.saved marks tells e) (λ e. same-written n bytes before now (Err Fault) f s f.err tells e.journal e.content) (f.told tells));
        later = f.cause.later;
        saved = more;
        tried = inr f.tried;
        answers = (f.cause.rose refl, now-none n bytes before now (Err Fault) f s more);
      }
  put-attempted n bytes before now (Err NoMemory) f s =
      let more : Within before.saved now.saved = same-more n bytes before now (Err NoMemory) f s f.err in
      let marks = same-marks n bytes before now (Err NoMemory) f s f.err in
      record {
        sound = sound-now n bytes before now (Err NoMemory) f s more (ap length f.err ∙ s.rooms) marks (λ tells. let e = f.told tells in same-written n bytes before now (Err NoMemory) f s f.err tells e.journal e.content);
        later = f.cause.later;
        saved = more;
        tried = inr f.tried;
        answers = (now-none n bytes before now (Err NoMemory) f s more, f.cause.kept refl);
      }

-- the same over a plan and what is kept that are those of the desk
pub attempted-put : {X U : Type 0} (l : Lore X) (plan : PlanView) (kept : KeptPackages) (n : ℕ) (bytes : List ℕ) (before now : Held X) (r : Result U Outer) → PutFacts l plan kept n bytes before now r
    → (o : Origin) → o.plan ≡ plan → o.kept ≡ kept → IsSound l o before → Attempted l o n before now (answer_of r)
attempted-put l plan kept n bytes before now r f o same_plan same_kept s =
    put-attempted l o n bytes before now r
    (subst (λ (p : PlanView). PutFacts l p o.kept n bytes before now r) (sym same_plan) (subst (λ (k : KeptPackages). PutFacts l plan k n bytes before now r) (sym same_kept) f)) s

-- what the seat knows after a turn in which this was done
pub after-keep : {X : Type 0} (l : Lore X) (o : Origin) (n : ℕ) (v : View) (before now : Held X) (answer : Keep) → Attempted l o n before now answer → v.seen ≤ l.faults before.store → Within v.known before.saved
    → AfterKeep o.plan o.kept n v (after_give l.faults (after_take l.faults v before) now) answer
after-keep l o n v before now answer a later known = record {
  origin = refl;
  shares = refl;
  turns = refl;
  later = later;
  since = a.later;
  more = λ k e. a.saved k (known k e);
  rose = refl;
  mine = ⊎_elim
      (λ same. inl (ap (λ (xs : List Bool). v.mine ++ newly 0 before.tried xs) same ∙ ap (λ (ns : List ℕ). v.mine ++ ns) (newly-same before.tried 0) ∙ append-nil v.mine))
      (λ new. ⊎_elim
      (λ nil. inl (ap (λ (xs : List Bool). v.mine ++ newly 0 before.tried xs) new ∙ ap (λ (ns : List ℕ). v.mine ++ ns) nil ∙ append-nil v.mine))
      (λ one. inr (ap (λ (xs : List Bool). v.mine ++ newly 0 before.tried xs) new ∙ ap (λ (ns : List ℕ). v.mine ++ ns) one))
      (newly-set before.tried n))
      a.tried;
  answers = a.answers;
}

-- the same as the calls of a turn tell it
pub keep-told : {X : Type 0} (l : Lore X) (o : Origin) (n : ℕ) (v v0 : View) (me : Me (Option (Held X)) View) (views : List View) (before now : Held X) (answer : Keep)
    → Attempted l o n before now answer → v0.seen ≤ l.faults before.store → Within v0.known before.saved → v0 ≡ v
    → ◌≡◌ {A = Me (Option (Held X)) View} me (after_take l.faults v0 before, (0, None) ∷ []) → views ≡ after_give l.faults me.0 now ∷ []
    → AfterKeep o.plan o.kept n v (front views) answer
keep-told {X} l o n v v0 me views before now answer a later known same me_is views_is =
    let e : me.0 ≡ after_take l.faults v0 before = ap (λ (m : Me (Option (Held X)) View). m.0) me_is in
    let f : front views ≡ after_give l.faults (after_take l.faults v0 before) now = ap front views_is ∙ ap (λ (u : View). after_give l.faults u now) e in
    subst (λ (x : View). AfterKeep o.plan o.kept n v x answer) (sym f) (subst (λ (u : View). AfterKeep o.plan o.kept n u (after_give l.faults (after_take l.faults v0 before) now) answer) same (after-keep l o n v0 before now answer a later known))
