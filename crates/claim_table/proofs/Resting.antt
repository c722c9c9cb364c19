-- What the calls know of a table and a seat, before a step and after it.
use Rattle.std.proofs.Common.{◌≡◌, ◌≢◌, ℕ, ◌+◌, ◌<◌, ◌≤◌, List, [], ◌∷◌, length, Option, Some, None, Err, refl, sym, ap, subst, ◌∙◌, ⊎_elim, arith}
use Rattle.std.proofs.lemmas.Bool.{cases_eq}
use Rattle.atomic_table.specs.Seated.{TableId}
use Rattle.atomic_table.specs.Table.{rest}
use Rattle.bulk_model.specs.declared.outcome.Outcome.{Outcome}
use Rattle.bulk_model.specs.declared.plan.Kept.{Kept as KeptPackages}
use Rattle.bulk_model.specs.PlanView.{PlanView}
use Rattle.claim_table.specs.declared.word.Word.{Word}
use Rattle.claim_table.specs.declared.fetch.FetchError.{FetchError}
use Rattle.claim_table.specs.Told.{Lore}
use Rattle.bulk_model.specs.declared.outcome.Outcome.TheVariants.{Built as MadePackage}
use Rattle.claim_table.specs.declared.view.Task.{Task}
use Rattle.claim_table.specs.declared.view.View.{View}
use Rattle.claim_table.specs.declared.word.Word.TheVariants.{Free, Claimed, Built, Failed, Reading, Skipped, Kept, Ignored, GivenUp}
use Rattle.claim_table.specs.Words.{word_of}
use Rattle.claim_table.specs.Steps.{Mine, claims_then, skips_then, Look, Claim, End, Skip, BeginReading, CloseReading}
use Rattle.claim_table.specs.Views.{IsFound}
use Rattle.claim_table.specs.Seats.{Site, refusal, AfterFetch}
use Rattle.claim_table.specs.Changes.{after_look, after_claim, after_end, after_skip, after_begin, after_close}
use Rattle.claim_table.specs.Inside.{IsRested, carried, AreFitting, IsSetUp, IsOpen}

-- what a table that is set up tells of a node of its plan
pub record Stands (id : TableId) (task : Task) (n : ℕ) : Type 0 where
  pub word : n + 1 < id.words
  pub node : n < length task.plan.jobs
  pub fitting : AreFitting task.plan task.kept

pub inside : (id : TableId) (task : Task) (plan : PlanView) (kept : KeptPackages) (room n : ℕ) (site : Site) → IsSetUp id task plan kept room → record { id = id; task = task } ≡ site → n < length site.task.plan.jobs → Stands id task n
inside id task plan kept room n site set_up is node =
    let size : length plan.jobs ≡ length site.task.plan.jobs = ap (λ (p : PlanView). length p.jobs) set_up.plan_is ∙ ap (λ (s : Site). length s.task.plan.jobs) is in
    let own : length plan.jobs ≡ length task.plan.jobs = ap (λ (p : PlanView). length p.jobs) set_up.plan_is in
    let words : id.words ≡ length plan.jobs + 1 = set_up.words in
    record {
      word = omega arith;
      node = omega arith;
      fitting = subst (λ (k : KeptPackages). AreFitting task.plan k) set_up.kept_is (subst (λ (p : PlanView). AreFitting p kept) set_up.plan_is set_up.fitting);
    }

-- a seat by its parts
pub whole : (me : Mine) (v : View) (slots : List (ℕ × Option Outcome)) → me.0 ≡ v → me.1 ≡ slots → ◌≡◌ {A = Mine} me (v, slots)
whole me v slots e f i = (e i, f i)

-- what a seat found, as its call sees it
pub found-as : (t : Task) (n : ℕ) (word : Word) (before after : Mine) (v : View) → before.0 ≡ v → v.task ≡ Some t → Look n word before after → IsFound t v n word
found-as t n word before after v same task l = subst (λ (u : View). IsFound t u n word) same (l.found t (ap (λ (u : View). u.task) same ∙ task))

-- what a seat that was seen as v is seen as after a step
pub view-after : (f : View → View) (before after : Mine) (v : View) → before.0 ≡ v → after.0 ≡ f before.0 → after.0 ≡ f v
view-after f before after v same is = is ∙ ap f same

-- a seat that keeps its shares, its reading and what it holds with its slots
rested-on : (before after : Mine) (v : View) (slots : List (ℕ × Option Outcome)) → IsRested before → after.0 ≡ v → after.1 ≡ slots → v.shares ≡ before.0.shares → v.reads ≡ None → slots ≡ carried v.holds → IsRested after
rested-on before after v slots r view out shares reads carries = record {
  shares = subst (λ (u : View). 1 ≤ u.shares) (sym view) (subst (λ (k : ℕ). 1 ≤ k) (sym shares) r.shares);
  reads = ap (λ (u : View). u.reads) view ∙ reads;
  slots = out ∙ carries ∙ ap (λ (u : View). carried u.holds) (sym view);
}

pub rested-look : (n : ℕ) (word : Word) (before after : Mine) → IsRested before → Look n word before after → IsRested after
rested-look n word before after r k = rested-on before after (after_look n word before.0) before.1 r k.view k.slots refl r.reads r.slots

-- a seat that holds nothing has no slot out
pub bare : (before : Mine) → IsRested before → before.0.holds ≡ None → before.1 ≡ []
bare before r idle = r.slots ∙ ap carried idle

rested-claim : (n : ℕ) (before after : Mine) → IsRested before → before.0.holds ≡ None → Claim n before after → IsRested after
rested-claim n before after r idle k = rested-on before after (after_claim n before.0) ((n, None) ∷ before.1) r k.view k.slots refl r.reads (ap (λ (c : List (ℕ × Option Outcome)). (n, None) ∷ c) (bare before r idle))

pub rested-claims : (n found : ℕ) (before after : Mine) → IsRested before → before.0.holds ≡ None → claims_then (n + 1) before found after → IsRested after
rested-claims n found before after r idle told = ⊎_elim (λ e. rested-claim n before after r idle ((told n refl).1 e)) (λ ne. rested-look n (word_of found) before after r ((told n refl).0 ne)) (cases_eq found 0)

rested-skip : (n : ℕ) (before after : Mine) → IsRested before → Skip n before after → IsRested after
rested-skip n before after r k = rested-on before after (after_skip n before.0) before.1 r k.view k.slots refl r.reads r.slots

pub rested-skips : (n found : ℕ) (before after : Mine) → IsRested before → skips_then (n + 1) before found after → IsRested after
rested-skips n found before after r told = ⊎_elim (λ e. rested-skip n before after r ((told n refl).1 e)) (λ ne. rested-look n Skipped before after r ((told n refl).0 ne)) (cases_eq found 0)

-- a slot that was taken last and written
pub slot-first : (me : Mine) (v : View) (n : ℕ) (home : Option Outcome) (slots : List (ℕ × Option Outcome)) → ◌≡◌ {A = Mine} me (v, (n, home) ∷ slots) → me.1 ≡ (n, home) ∷ rest me.1
slot-first me v n home slots e = subst (λ (m : Mine). m.1 ≡ (n, home) ∷ rest m.1) (sym e) refl

-- a seat that holds a node has its empty slot
slot-held : (n : ℕ) (me : Mine) → IsRested me → me.0.holds ≡ Some n → me.1 ≡ (n, None) ∷ []
slot-held n me r mine = r.slots ∙ ap carried mine

-- a claim that ended: from the seat before, over its written slot, to the seat after
pub gave-back : (n : ℕ) (word : Word) (before mid after : Mine) (home : Option Outcome) → IsRested before → before.0.holds ≡ Some n → ◌≡◌ {A = Mine} mid (before.0, (n, home) ∷ rest before.1)
    → End n word mid after → (after.0 ≡ after_end n word before.0) × (after.1 ≡ [])
gave-back n word before mid after home r mine written k = (
  k.view ∙ ap (λ (m : Mine). after_end n word m.0) written,
  k.slots ∙ ap (λ (m : Mine). rest m.1) written ∙ ap (λ (c : List (ℕ × Option Outcome)). rest c) (slot-held n before r mine),
)

pub rested-end : (n : ℕ) (word : Word) (before after : Mine) → IsRested before → (after.0 ≡ after_end n word before.0) × (after.1 ≡ []) → IsRested after
rested-end n word before after r is = rested-on before after (after_end n word before.0) [] r is.0 is.1 refl r.reads refl

-- a seat that holds a node is as if its slot had just been written
pub as-written : (n : ℕ) (me : Mine) → IsRested me → me.0.holds ≡ Some n → ◌≡◌ {A = Mine} me (me.0, (n, None) ∷ rest me.1)
as-written n me r mine =
    let e : me.1 ≡ (n, None) ∷ [] = slot-held n me r mine in
    whole me me.0 ((n, None) ∷ rest me.1) refl (e ∙ ap (λ (c : List (ℕ × Option Outcome)). (n, None) ∷ rest c) (sym e))

-- the slot that was taken last
abbrev top : List (ℕ × Option Outcome) → Option Outcome
top [] = None
top (x ∷ xs) = x.1

pub found-top : (n : ℕ) (me : Mine) (x y : Option Outcome) → me.1 ≡ (n, x) ∷ rest me.1 → me.1 ≡ (n, y) ∷ rest me.1 → y ≡ x
found-top n me x y e h = ap top (sym h ∙ e)

-- a slot that was emptied and filled again
pub filled-again : (n : ℕ) (before mid after : Mine) (x y : Option Outcome) → ◌≡◌ {A = Mine} mid (before.0, (n, x) ∷ rest before.1) → ◌≡◌ {A = Mine} after (mid.0, (n, y) ∷ rest mid.1) → ◌≡◌ {A = Mine} after (before.0, (n, y) ∷ rest before.1)
filled-again n before mid after x y e h = h ∙ ap (λ (m : Mine). let z : Mine = (m.0, (n, y) ∷ rest m.1) in z) e

-- a reading that was closed
pub closed-after : (n : ℕ) (before mid after : Mine) (y : Option Outcome) → ◌≡◌ {A = Mine} mid (before.0, (n, y) ∷ rest before.1) → CloseReading n mid after → ◌≡◌ {A = Mine} after (after_close n before.0, rest before.1)
closed-after n before mid after y e k = whole after (after_close n before.0) (rest before.1) (k.view ∙ ap (λ (m : Mine). after_close n m.0) e) (k.slots ∙ ap (λ (m : Mine). rest m.1) e)

-- a seat whose reading was begun has the package
pub open-after : (l : Lore) (t : Task) (n : ℕ) (before after : Mine) → IsRested before → before.0.task ≡ Some t → BeginReading l n before after → IsOpen l t n after
open-after l t n before after r task k = record {
  built = k.built;
  right = k.right t task;
  slots = slot-first after (after_begin n before.0) n (Some (MadePackage k.built)) before.1 (whole after (after_begin n before.0) ((n, Some (MadePackage k.built)) ∷ before.1) k.view k.slots);
  reads = ap (λ (v : View). v.reads) k.view;
  shares = subst (λ (v : View). 1 ≤ v.shares) (sym k.view) r.shares;
}

-- a reading that was begun and closed
pub read-after : (l : Lore) (n : ℕ) (before mid after : Mine) → BeginReading l n before mid → ◌≡◌ {A = Mine} after (after_close n mid.0, rest mid.1) → (after.0 ≡ after_close n (after_begin n before.0)) × (after.1 ≡ before.1)
read-after l n before mid after k is = (
  ap (λ (m : Mine). m.0) is ∙ ap (after_close n) k.view,
  ap (λ (m : Mine). m.1) is ∙ ap (λ (c : List (ℕ × Option Outcome)). rest c) k.slots,
)

pub rested-read : (n : ℕ) (before after : Mine) → IsRested before → (after.0 ≡ after_close n (after_begin n before.0)) × (after.1 ≡ before.1) → IsRested after
rested-read n before after r is = rested-on before after (after_close n (after_begin n before.0)) before.1 r is.0 is.1 refl refl r.slots

-- what a fetch answers where the node was not built
pub refused : (l : Lore) (t : Task) (n : ℕ) (word : Word) (answer : FetchError) (old new : View) → answer ≡ refusal word → word ≢ Built → IsFound t old n word → new ≡ after_look n word old → AfterFetch l t n old new (Err answer)
refused l t n word answer old new e ne found is = subst (λ (x : FetchError). AfterFetch l t n old new (Err x)) (sym e) (direct word ne found is)
  where
    direct : (w : Word) → w ≢ Built → IsFound t old n w → new ≡ after_look n w old → AfterFetch l t n old new (Err (refusal w))
    direct Reading b f i = i
    direct Built b f i = absurd (b refl)
    direct Free b f i = (b, (λ x. absurd (let y : Free ≡ Reading = x in cc)), f, i)
    direct Claimed b f i = (b, (λ x. absurd (let y : Claimed ≡ Reading = x in cc)), f, i)
    direct Failed b f i = (b, (λ x. absurd (let y : Failed ≡ Reading = x in cc)), f, i)
    direct Skipped b f i = (b, (λ x. absurd (let y : Skipped ≡ Reading = x in cc)), f, i)
    direct Kept b f i = (b, (λ x. absurd (let y : Kept ≡ Reading = x in cc)), f, i)
    direct Ignored b f i = (b, (λ x. absurd (let y : Ignored ≡ Reading = x in cc)), f, i)
    direct GivenUp b f i = (b, (λ x. absurd (let y : GivenUp ≡ Reading = x in cc)), f, i)
