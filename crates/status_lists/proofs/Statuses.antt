-- The exit status by what is told of each node.
use Rattle.std.proofs.Common.{◌≡◌, ℕ, ◌<◌, Bool, true, false, List, [], ◌∷◌, length, map, refl, ap, sym, ◌∙◌, arith}
use Rattle.std.specs.Prelude.{◌||◌, if◌then◌else◌}
use Rattle.std.specs.List.{list_any, range_with_len}
use Rattle.std.proofs.lemmas.List.{ext_get_or}
use Rattle.std.proofs.lemmas.List.FromFn.{get_or-map-range_with_len, length-map-range_with_len}
use mir.Val.{bool_byte}
use Rattle.bulk_model.specs.declared.results.Status.{Status}
use Rattle.bulk_model.specs.declared.results.Status.TheVariants.{Kept as KeptStatus, Built as BuiltStatus, Failed as FailedStatus, Ignored as IgnoredStatus, Skipped as SkippedStatus}
use Rattle.bulk_model.specs.Fit.{status_in}
use Rattle.bulk_model.specs.Lists.{exit_status, is_setback}
use Rattle.bulk_model.specs.PlanView.{PlanView, count, nodes}
use Rattle.status_lists.specs.declared.fate.Fate.{Fate}
use Rattle.status_lists.specs.Fates.{AreFates, exit_of, fate_at, fate_by, is_set_back}

-- a truth value as a status
pub as_status : (b : Bool) → bool_byte b ≡ (if b then 1 else 0)
as_status true = refl
as_status false = refl

set_back_same : (plan : PlanView) (statuses : List Status) (n : ℕ) (s : Status)
    → is_set_back (fate_by plan statuses n s) ≡ is_setback s
set_back_same plan statuses n (KeptStatus p) = refl
set_back_same plan statuses n (BuiltStatus p) = refl
set_back_same plan statuses n (FailedStatus phase code) = refl
set_back_same plan statuses n IgnoredStatus = refl
set_back_same plan statuses n SkippedStatus = refl

any_same : (plan : PlanView) (statuses : List Status) (some : List ℕ)
    → list_any is_set_back (map (fate_at plan statuses) some) ≡ list_any is_setback (map (status_in statuses) some)
any_same plan statuses [] = refl
any_same plan statuses (n ∷ some) =
    ap (λ b. b || list_any is_set_back (map (fate_at plan statuses) some)) (set_back_same plan statuses n (status_in statuses n))
    ∙ ap (λ b. is_setback (status_in statuses n) || b) (any_same plan statuses some)

-- a list of statuses is what stands at its places
each_status : (statuses : List Status) → map (status_in statuses) (range_with_len 0 (length statuses)) ≡ statuses
each_status statuses =
    let size : length (map (status_in statuses) (range_with_len 0 (length statuses))) ≡ length statuses =
    length-map-range_with_len (status_in statuses) 0 (length statuses) in
    ext_get_or SkippedStatus (map (status_in statuses) (range_with_len 0 (length statuses))) statuses size
    (λ n l. get_or-map-range_with_len (status_in statuses) 0 (length statuses) n n SkippedStatus (omega arith) (omega arith))

-- the lists tell the exit status
pub exit_is : (plan : PlanView) (statuses : List Status) (fates : List Fate) → length statuses ≡ count plan
    → AreFates plan statuses fates → exit_of fates ≡ exit_status statuses
exit_is plan statuses fates size are =
    ap exit_of are.told
    ∙ ap (λ b. let s : ℕ = if b then 1 else 0 in s)
    (any_same plan statuses (nodes plan)
    ∙ ap (λ k. list_any is_setback (map (status_in statuses) (range_with_len 0 k))) (sym size)
    ∙ ap (list_any is_setback) (each_status statuses))
