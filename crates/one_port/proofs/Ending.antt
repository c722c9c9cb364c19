-- How a run ends: what was begun, what was stored, and whom the answer blames.
use Rattle.std.proofs.Common.{◌≡◌, ℕ, Bool, true, false, List, [], ◌∷◌, ◌++◌, ◌∙◌, ap, sym, subst, refl, inl, inr}
use Rattle.std.specs.Prelude.{◌⊎◌, Option, Some, None, Result, Ok, Err, unwrap_or, if◌then◌else◌, get_or, length, set, bytes_eq, IfErr, IfOk}
use Rattle.std.specs.List.{IsDistinct}
use Rattle.std.proofs.lemmas.List.{append-nil, take-map}
use Rattle.std.specs.Option.{is_some, option_map_or, option_or}
use Rattle.outside.specs.Contents.{Contents}
use Rattle.one_port.specs.declared.answer.Answer.{Answer}
use Rattle.one_port.specs.declared.answer.Answer.TheVariants.{Done, Usage, SinkFault, NoMemory}
use Rattle.one_port.specs.Kind.{Kind, kind_of, printed, bad_words, bad_tree, not_served, tree_failed, store_failed, room_failed, sink_failed, no_memory}
use Rattle.bulk_model.specs.Bake.{Runs}
use Rattle.bulk_model.specs.Views.{JobView}
use Rattle.one_port.specs.declared.port_run.Report.{Report}
use Rattle.outside.specs.Faults.{IsCaused, err_is}
use Rattle.one_port.specs.Causes.{is_refusal, leaves_rooms, leaves_store, blames_tree, blames_store, blames_room, refuses, is_tree_failure, is_store_failure, is_room_failure}
use Rattle.one_port.specs.Decided.{is_inner, IsInner, comes_inside, is_of_tree, comes_of_reading, is_of_words, AnswersWords, Decides, Tells, EndsAs, EndsInTree, RunEndsInTree, IsOfReading}
use Rattle.one_port.specs.PortsWanted.{PortsWanted, names_of}
use Rattle.one_port.specs.Refusals.{refusal_in, value_of}
use Rattle.one_port.proofs.AnswerKinds.{of_no_memory, of_printed, room_number, reading_kind, unrefused_words, unrefused_tree}
use Rattle.one_port.specs.PortsRun.{HasStoredWanted, RanWanted}
use Rattle.one_port.specs.Ending.{BeganAtMost, BeganFirst, BeganOnce, IsBlamed, blamed_by, HaveNotRisen, IsStatusOf, has_status, begun_in_first}
use Rattle.one_port.specs.AnswerLine.{answer_status, status_by}
use mathlib.Core.Bool.{true≢false}

-- no name was begun, whatever is wanted
pub none_began : (wanted : Option PortsWanted) (before now : List (List ℕ)) → now ≡ before → BeganAtMost wanted before now
none_began None before now e = e
none_began (Some ports) before now e = (0, e ∙ sym (append-nil before))

pub wanted_began : (wanted : Option PortsWanted) (ports : PortsWanted) (before now : List (List ℕ)) → wanted ≡ Some ports → BeganFirst ports.jobs before now → BeganAtMost wanted before now
wanted_began wanted ports before now e h = subst (λ w. BeganAtMost w before now) (sym e) h

-- what was stored before the lists were printed
pub stored_of_ran : (tells : Bool) (runs : Runs) (words : List (List ℕ)) (tree before now : Contents) (begun_before begun_now : List (List ℕ)) (report : Report)
    → RanWanted tells runs words tree before now begun_before begun_now report → HasStoredWanted tells runs words tree before now
stored_of_ran tells runs words tree before now begun_before begun_now report h = record {
  ports = h.ports;
  wanted = h.wanted;
  kept = record { outcomes = h.ran.outcomes; builds = h.ran.builds; content = h.ran.content };
}

-- where each refusal that an object tells is none, so is the first that is told
pub none_told : (tree_tells store_tells : Bool) (by_tree by_store : Option Answer) → (tree_tells ≡ true → by_tree ≡ None) → (store_tells ≡ true → by_store ≡ None)
    → (if tree_tells then option_or by_tree (if store_tells then by_store else None) else None) ≡ None
none_told false store_tells by_tree by_store t s = refl
none_told true false by_tree by_store t s = ap (λ o. option_or o None) (t refl)
none_told true true by_tree by_store t s = ap (λ o. option_or o by_store) (t refl) ∙ s refl

none_twice : IsDistinct bytes_eq []
unfolding IsDistinct
none_twice = tt

-- no name was begun, or those of some first of the jobs
pub none_grew : (before now : List (List ℕ)) → now ≡ before → BeganOnce before now
none_grew before now e = record { names = []; once = none_twice; count = 0; begun = e ∙ sym (append-nil before) }

pub some_grew : (jobs : List JobView) (before now : List (List ℕ)) → IsDistinct bytes_eq (names_of jobs) → BeganFirst jobs before now → BeganOnce before now
some_grew jobs before now once (count, e) = record { names = names_of jobs; once = once; count = count; begun = e ∙ ap (λ names. before ++ names) (sym (take-map (λ job. job.name) count jobs)) }

-- whom an answer of the inner steps blames
blamed_kind : (k : Kind) (tb tn sb sn rb rn kb kn : ℕ) → comes_inside k ≡ true → IsCaused tb tn (is_tree_failure k) → IsCaused sb sn (is_store_failure k) → IsCaused rb rn (is_room_failure k)
    → blamed_by k tb tn sb sn rb rn kb kn
blamed_kind printed tb tn sb sn rb rn kb kn i t s r = absurd (true≢false (sym i))
blamed_kind bad_words tb tn sb sn rb rn kb kn i t s r = tt
blamed_kind bad_tree tb tn sb sn rb rn kb kn i t s r = tt
blamed_kind not_served tb tn sb sn rb rn kb kn i t s r = tt
blamed_kind tree_failed tb tn sb sn rb rn kb kn i t s r = t.rose refl
blamed_kind store_failed tb tn sb sn rb rn kb kn i t s r = s.rose refl
blamed_kind (room_failed b) tb tn sb sn rb rn kb kn i t s r = (room_number b i, r.rose refl)
blamed_kind sink_failed tb tn sb sn rb rn kb kn i t s r = absurd (true≢false (sym i))
blamed_kind no_memory tb tn sb sn rb rn kb kn i t s r = tt

pub blamed_inner : (answer : Answer) (tb tn sb sn rb rn kb kn : ℕ) → is_inner answer ≡ true → IsCaused tb tn (blames_tree answer) → IsCaused sb sn (blames_store answer) → IsCaused rb rn (blames_room answer)
    → IsBlamed answer tb tn sb sn rb rn kb kn
blamed_inner answer = blamed_kind (kind_of answer)

-- the same for the answer that is given in the end: that one, or want of memory
pub blamed_in_the_end : (answer final : Answer) (tb tn sb sn rb rn kb kn : ℕ) → (final ≡ answer) ⊎ (final ≡ NoMemory) → IsBlamed answer tb tn sb sn rb rn kb kn → IsBlamed final tb tn sb sn rb rn kb kn
blamed_in_the_end answer final tb tn sb sn rb rn kb kn (inl e) h = subst (λ a. IsBlamed a tb tn sb sn rb rn kb kn) (sym e) h
blamed_in_the_end answer final tb tn sb sn rb rn kb kn (inr e) h = subst (λ a. IsBlamed a tb tn sb sn rb rn kb kn) (sym e) tt

status_of_kind : (k : Kind) (status : ℕ) → comes_inside k ≡ true → status ≡ status_by k → has_status k status
status_of_kind printed status i h = absurd (true≢false (sym i))
status_of_kind bad_words status i h = h
status_of_kind bad_tree status i h = h
status_of_kind not_served status i h = h
status_of_kind tree_failed status i h = h
status_of_kind store_failed status i h = h
status_of_kind (room_failed b) status i h = h
status_of_kind sink_failed status i h = h
status_of_kind no_memory status i h = h

-- the status of an answer that is not Done
pub status_in_the_end : (answer final : Answer) (status : ℕ) → is_inner answer ≡ true → (final ≡ answer) ⊎ (final ≡ NoMemory) → status ≡ answer_status final → IsStatusOf final status
status_in_the_end answer final status i (inl e) h = subst (λ a. IsStatusOf a status) (sym e) (status_of_kind (kind_of answer) status i (h ∙ ap answer_status e))
status_in_the_end answer final status i (inr e) h = subst (λ a. IsStatusOf a status) (sym e) (h ∙ ap answer_status e)

some≢none : (first : Answer) → None ≡ Some first → ⊥
some≢none first e = true≢false (sym (ap is_some e))

same_refusal : (a b : Answer) → Some a ≡ Some b → b ≡ a
same_refusal a b e = sym (ap (λ o. unwrap_or o a) e)

none_refused : (refuses : Bool) (answer : Answer) → (refuses ≡ true → None ≡ Some answer) → refuses ≡ false
none_refused true answer d = absurd (some≢none answer (d refl))
none_refused false answer d = refl

ended_at : (k : Kind) (answer first : Answer) → kind_of answer ≡ k → (refuses k ≡ true → Some first ≡ Some answer) → is_room_failure k ≡ false → comes_inside k ≡ true
    → (answer ≡ first) ⊎ ((is_tree_failure k ≡ true) ⊎ ((is_store_failure k ≡ true) ⊎ (answer ≡ NoMemory)))
ended_at printed answer first e d r i = absurd (true≢false (sym i))
ended_at bad_words answer first e d r i = inl (same_refusal first answer (d refl))
ended_at bad_tree answer first e d r i = inl (same_refusal first answer (d refl))
ended_at not_served answer first e d r i = inl (same_refusal first answer (d refl))
ended_at tree_failed answer first e d r i = inr (inl refl)
ended_at store_failed answer first e d r i = inr (inr (inl refl))
ended_at (room_failed b) answer first e d r i = absurd (true≢false r)
ended_at sink_failed answer first e d r i = absurd (true≢false (sym i))
ended_at no_memory answer first e d r i = inr (inr (inr (of_no_memory answer e)))

-- how a run ends that a decision stopped
pub ended_by_decision : (refused : Option Answer) (answer : Answer) → (is_refusal answer ≡ true → refused ≡ Some answer) → blames_room answer ≡ false → is_inner answer ≡ true → EndsAs refused answer
ended_by_decision None answer d r i = none_refused (is_refusal answer) answer d
ended_by_decision (Some first) answer d r i = ended_at (kind_of answer) answer first refl d r i

-- want of memory may stand for every end
ended_without_memory : (refused : Option Answer) → EndsAs refused NoMemory
ended_without_memory None = refl
ended_without_memory (Some first) = inr (inr (inr refl))

-- the same for the answer that is given in the end: that one, or want of memory
pub ended_in_the_end : (refused : Option Answer) (answer final : Answer) → (final ≡ answer) ⊎ (final ≡ NoMemory) → EndsAs refused answer → EndsAs refused final
ended_in_the_end refused answer final (inl e) h = subst (λ a. EndsAs refused a) (sym e) h
ended_in_the_end refused answer final (inr e) h = subst (λ a. EndsAs refused a) (sym e) (ended_without_memory refused)

-- a run that was not refused ends by no refusal
pub ended_unrefused : (refused : Option Answer) (answer : Answer) → refused ≡ None → is_refusal answer ≡ false → EndsAs refused answer
ended_unrefused refused answer e h = subst (λ o. EndsAs o answer) (sym e) h

-- an answer that leaves the store or the rooms alone in the end did so when it was given
pub left_store_in_the_end : (answer final : Answer) → (final ≡ answer) ⊎ (final ≡ NoMemory) → leaves_store final ≡ true → leaves_store answer ≡ true
left_store_in_the_end answer final (inl e) h = ap leaves_store (sym e) ∙ h
left_store_in_the_end answer final (inr e) h = absurd (true≢false (sym h ∙ ap leaves_store e))

pub left_rooms_in_the_end : (answer final : Answer) → (final ≡ answer) ⊎ (final ≡ NoMemory) → leaves_rooms final ≡ true → leaves_rooms answer ≡ true
left_rooms_in_the_end answer final (inl e) h = ap leaves_rooms (sym e) ∙ h
left_rooms_in_the_end answer final (inr e) h = absurd (true≢false (sym h ∙ ap leaves_rooms e))

-- what reading the tree gives, against its first refusal
due_value : {X : Type 0} (due : Result X Answer) (x : X) → due ≡ Ok x → refusal_in due ≡ None
due_value due x e = ap refusal_in e

pub decided_by_tree : {X : Type 0} (due result : Result X Answer) → Tells due result → Decides (refusal_in due) result
decided_by_tree due (Ok x) h = due_value due x h
decided_by_tree due (Err answer) h = λ r. ap refusal_in (h r)

pub value_by_tree : {X : Type 0} (due result : Result X Answer) → Tells due result → IfOk result (λ x. value_of due ≡ Some x)
value_by_tree due (Ok x) h = ap value_of h
value_by_tree due (Err answer) h = tt

no_error : {X : Type 0} (x : X) (answer : Answer) → Ok x ≡ Err answer → None ≡ Some answer
no_error x answer e = ap refusal_in e

in_tree_at : (k : Kind) (answer first : Answer) → kind_of answer ≡ k → (refuses k ≡ true → Some first ≡ Some answer) → comes_of_reading k ≡ true
    → (answer ≡ first) ⊎ ((is_tree_failure k ≡ true) ⊎ (answer ≡ NoMemory))
in_tree_at printed answer first e d i = absurd (true≢false (sym i))
in_tree_at bad_words answer first e d i = inl (same_refusal first answer (d refl))
in_tree_at bad_tree answer first e d i = inl (same_refusal first answer (d refl))
in_tree_at not_served answer first e d i = inl (same_refusal first answer (d refl))
in_tree_at tree_failed answer first e d i = inr (inl refl)
in_tree_at store_failed answer first e d i = absurd (true≢false (sym i))
in_tree_at (room_failed b) answer first e d i = absurd (true≢false (sym i))
in_tree_at sink_failed answer first e d i = absurd (true≢false (sym i))
in_tree_at no_memory answer first e d i = inr (inr (of_no_memory answer e))

pub ended_by_tree : {X : Type 0} (due result : Result X Answer) → Tells due result → IsOfReading result → RunEndsInTree (refusal_in due) result
ended_by_tree due (Ok x) h i = due_value due x h
ended_by_tree (Ok y) (Err answer) h i = unrefused_tree (kind_of answer) (none_refused (is_refusal answer) answer (λ r. no_error y answer (h r)))
ended_by_tree (Err first) (Err answer) h i = in_tree_at (kind_of answer) answer first refl (λ r. ap refusal_in (h r)) i

tree_without_memory : (refused : Option Answer) → EndsInTree refused NoMemory
tree_without_memory None = refl
tree_without_memory (Some first) = inr (inr refl)

-- an answer of reading, by its kind
pub read_inner : {X : Type 0} (result : Result X Answer) → IsOfReading result → IsInner result
read_inner (Ok x) i = tt
read_inner (Err answer) i = (reading_kind (kind_of answer) i).inner

pub read_leaves : {X : Type 0} (result : Result X Answer) → IsOfReading result
    → (err_is blames_store result ≡ false) × (err_is blames_room result ≡ false) × (err_is is_of_words result ≡ false)
read_leaves (Ok x) i = (refl, refl, refl)
read_leaves (Err answer) i = let k = reading_kind (kind_of answer) i in (k.store, k.room, k.words)

-- behind a tree that refuses nothing
pub ended_behind_tree : (refused : Option Answer) (answer : Answer) → refused ≡ None → is_of_tree answer ≡ false → EndsInTree refused answer
ended_behind_tree refused answer e h = subst (λ o. EndsInTree o answer) (sym e) h

pub ended_in_tree_in_the_end : (refused : Option Answer) (answer final : Answer) → (final ≡ answer) ⊎ (final ≡ NoMemory) → EndsInTree refused answer → EndsInTree refused final
ended_in_tree_in_the_end refused answer final (inl e) h = subst (λ a. EndsInTree refused a) (sym e) h
ended_in_tree_in_the_end refused answer final (inr e) h = subst (λ a. EndsInTree refused a) (sym e) (tree_without_memory refused)

-- what the words alone decide
words_without_memory : {X : Type 0} (asked : Option X) → AnswersWords asked NoMemory
words_without_memory None = inr refl
words_without_memory (Some word) = refl

pub answered_words_in_the_end : {X : Type 0} (word : Option X) (answer final : Answer) → (final ≡ answer) ⊎ (final ≡ NoMemory) → AnswersWords word answer → AnswersWords word final
answered_words_in_the_end word answer final (inl e) h = subst (λ a. AnswersWords word a) (sym e) h
answered_words_in_the_end word answer final (inr e) h = subst (λ a. AnswersWords word a) (sym e) (words_without_memory word)

-- words that are a command are not answered by an answer of the words
pub answered_command : {X : Type 0} (asked : Option X) (word : X) (answer : Answer) → asked ≡ Some word → is_of_words answer ≡ false → AnswersWords asked answer
answered_command asked word answer e h = subst (λ w. AnswersWords w answer) (sym e) h

-- what was not refused, by the words or else, is not answered by an answer of the words
pub answered_unrefused : (X W : Type 0) (by_word : W → Option Answer) (asked : Option W) (result : Result X Answer) → option_map_or by_word asked (Some Usage) ≡ None → err_is is_refusal result ≡ false → IfErr result (AnswersWords asked)
answered_unrefused X W by_word asked (Ok x) e h = tt
answered_unrefused X W by_word None (Err answer) e h = absurd (some≢none Usage (sym e))
answered_unrefused X W by_word (Some word) (Err answer) e h = unrefused_words (kind_of answer) h

-- an answer that only the printing gives is no inner one
pub sink_fault_in_the_end : (answer final : Answer) → (final ≡ answer) ⊎ (final ≡ NoMemory) → is_inner answer ≡ true → final ≡ SinkFault → ⊥
sink_fault_in_the_end answer final (inl e) i s = true≢false (sym i ∙ ap is_inner (sym e ∙ s))
sink_fault_in_the_end answer final (inr e) i s = true≢false (ap is_inner (sym e ∙ s))

-- a run that was not refused, in which nothing failed and no memory was refused, is done
done_kind : (k : Kind) (answer : Answer) (tb tn sb sn rb rn kb kn : ℕ) → kind_of answer ≡ k → refuses k ≡ false → (answer ≡ NoMemory → ⊥) → HaveNotRisen tb tn sb sn rb rn kb kn → blamed_by k tb tn sb sn rb rn kb kn → answer ≡ Done
done_kind printed answer tb tn sb sn rb rn kb kn e h m q b = of_printed answer e
done_kind bad_words answer tb tn sb sn rb rn kb kn e h m q b = absurd (true≢false h)
done_kind bad_tree answer tb tn sb sn rb rn kb kn e h m q b = absurd (true≢false h)
done_kind not_served answer tb tn sb sn rb rn kb kn e h m q b = absurd (true≢false h)
done_kind tree_failed answer tb tn sb sn rb rn kb kn e h m q b = absurd (q.tree b)
done_kind store_failed answer tb tn sb sn rb rn kb kn e h m q b = absurd (q.store b)
done_kind (room_failed builder) answer tb tn sb sn rb rn kb kn e h m q (z, b) = absurd (q.room b)
done_kind sink_failed answer tb tn sb sn rb rn kb kn e h m q b = absurd (q.sink b)
done_kind no_memory answer tb tn sb sn rb rn kb kn e h m q b = absurd (m (of_no_memory answer e))

done_unrefused : (answer : Answer) (tb tn sb sn rb rn kb kn : ℕ) → is_refusal answer ≡ false → (answer ≡ NoMemory → ⊥) → HaveNotRisen tb tn sb sn rb rn kb kn → IsBlamed answer tb tn sb sn rb rn kb kn → answer ≡ Done
done_unrefused answer tb tn sb sn rb rn kb kn h m q b = done_kind (kind_of answer) answer tb tn sb sn rb rn kb kn refl h m q b

pub done_in_the_end : (refused : Option Answer) (answer : Answer) (tb tn sb sn rb rn kb kn : ℕ) → EndsAs refused answer → refused ≡ None → (answer ≡ NoMemory → ⊥) → HaveNotRisen tb tn sb sn rb rn kb kn → IsBlamed answer tb tn sb sn rb rn kb kn → answer ≡ Done
done_in_the_end refused answer tb tn sb sn rb rn kb kn h e m q b = done_unrefused answer tb tn sb sn rb rn kb kn (subst (λ o. EndsAs o answer) e h) m q b

-- what is said of the first room, once that room is known
pub first_begun : (R : Type 0) (begun : R → List (List ℕ)) (rooms : List R) (room : R) → (length rooms ≡ 0 → ⊥) → room ≡ get_or rooms 0 room → begun_in_first begun rooms ≡ begun room
first_begun R begun [] room h e = absurd (h refl)
first_begun R begun (first ∷ rooms) room h e = ap begun (sym e)

pub first_begun_after : (R : Type 0) (begun : R → List (List ℕ)) (rooms : List R) (now : R) → (length rooms ≡ 0 → ⊥) → begun_in_first begun (set rooms 0 now) ≡ begun now
first_begun_after R begun [] now h = absurd (h refl)
first_begun_after R begun (first ∷ rooms) now h = refl
