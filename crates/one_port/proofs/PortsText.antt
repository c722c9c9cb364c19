-- What is printed of some ports, byte by byte.
use Rattle.std.proofs.Common.{◌≡◌, ℕ, List, [], ◌∷◌, ◌++◌, length, map, arith, sym, refl, ap, ◌∙◌, append_assoc, append-nil}
use Rattle.std.specs.Prelude.{codes, false}
use Rattle.std.specs.Fmt.{decimal, digits}
use Rattle.std.specs.List.{flat_map}
use Rattle.std.proofs.lemmas.Fmt.{decimal_digit}
use Rattle.bulk_model.specs.declared.outcome.Outcome.{Outcome}
use Rattle.bulk_model.specs.declared.reason.Notice.{Notice}
use Rattle.bulk_model.specs.Lists.{listed, notice_line}
use Rattle.bulk_model.specs.Results.{status_of_outcome}
use Rattle.bulk_model.specs.Lines.{line}
use Rattle.bulk_model.specs.Views.{JobView}
use Rattle.one_port.specs.PortsPlan.{plan_of}
use Rattle.one_port.specs.Report.{ports_text}
use Rattle.bulk_model.specs.Lists.{entries, kept_entry, built_entry, failed_entry, ignored_entry, skipped_entry}
use Rattle.one_port.proofs.PortEntries.{none_kept, none_ignored, none_skipped}

none : digits 10 false 0 ≡ codes "0"
none = decimal_digit 0 (omega arith)

-- the lists, regrouped to the right
regroup : (moved deleted kept built failed ignored skipped total : List ℕ)
    → (((((((moved ++ deleted) ++ kept) ++ built) ++ failed) ++ ignored) ++ skipped) ++ total) ≡ moved ++ (deleted ++ (kept ++ (built ++ (failed ++ (ignored ++ (skipped ++ total))))))
regroup moved deleted kept built failed ignored skipped total = simp append_assoc

empty_list : (heading : List ℕ) (found : List (List ℕ)) → found ≡ [] → listed heading found ≡ line (heading ++ codes " 0")
empty_list heading found e = ap (listed heading) e ∙ simp (none, append-nil, append_assoc)

text_of_lists : (jobs : List JobView) (notices : List Notice) (outcomes : List Outcome) → length outcomes ≡ length jobs → ports_text jobs notices outcomes
    ≡ flat_map notice_line notices ++ (codes "deleted 0\nkept 0\n" ++ (listed (codes "built") (entries (built_entry (plan_of jobs)) (plan_of jobs) (map status_of_outcome outcomes))
    ++ (listed (codes "failed") (entries (failed_entry (plan_of jobs)) (plan_of jobs) (map status_of_outcome outcomes))
    ++ (codes "ignored 0\nskipped 0\ntotal " ++ (decimal (length jobs) ++ 10 ∷ [])))))
text_of_lists jobs notices outcomes l =
    let moved : List ℕ = flat_map notice_line notices in
    let built : List ℕ = listed (codes "built") (entries (built_entry (plan_of jobs)) (plan_of jobs) (map status_of_outcome outcomes)) in
    let failed : List ℕ = listed (codes "failed") (entries (failed_entry (plan_of jobs)) (plan_of jobs) (map status_of_outcome outcomes)) in
    let total : List ℕ = line (codes "total " ++ decimal (length jobs)) in
    regroup moved _ _ built failed _ _ total
    ∙ ap (λ x. moved ++ (x ++ (listed (codes "kept") (entries (kept_entry (plan_of jobs)) (plan_of jobs) (map status_of_outcome outcomes)) ++ (built ++ (failed ++ (listed (codes "ignored") (entries (ignored_entry (plan_of jobs)) (plan_of jobs) (map status_of_outcome outcomes)) ++ (listed (codes "skipped") (entries (skipped_entry (plan_of jobs) (map status_of_outcome outcomes)) (plan_of jobs) (map status_of_outcome outcomes)) ++ total))))))) (empty_list (codes "deleted") [] refl)
    ∙ ap (λ x. moved ++ (codes "deleted 0\n" ++ (x ++ (built ++ (failed ++ (listed (codes "ignored") (entries (ignored_entry (plan_of jobs)) (plan_of jobs) (map status_of_outcome outcomes)) ++ (listed (codes "skipped") (entries (skipped_entry (plan_of jobs) (map status_of_outcome outcomes)) (plan_of jobs) (map status_of_outcome outcomes)) ++ total))))))) (empty_list (codes "kept") _ (none_kept jobs outcomes l))
    ∙ ap (λ x. moved ++ (codes "deleted 0\nkept 0\n" ++ (built ++ (failed ++ (x ++ (listed (codes "skipped") (entries (skipped_entry (plan_of jobs) (map status_of_outcome outcomes)) (plan_of jobs) (map status_of_outcome outcomes)) ++ total)))))) (empty_list (codes "ignored") _ (none_ignored jobs outcomes l))
    ∙ ap (λ x. moved ++ (codes "deleted 0\nkept 0\n" ++ (built ++ (failed ++ (codes "ignored 0\n" ++ (x ++ total)))))) (empty_list (codes "skipped") _ (none_skipped jobs outcomes l))

pub printed : (jobs : List JobView) (notices : List Notice) (outcomes : List Outcome) (text moved built failed : List ℕ) (total : ℕ) → length outcomes ≡ length jobs
    → moved ≡ flat_map notice_line notices
    → built ≡ listed (codes "built") (entries (built_entry (plan_of jobs)) (plan_of jobs) (map status_of_outcome outcomes))
    → failed ≡ listed (codes "failed") (entries (failed_entry (plan_of jobs)) (plan_of jobs) (map status_of_outcome outcomes))
    → total ≡ length jobs
    → text ≡ moved ++ (codes "deleted 0\nkept 0\n" ++ (built ++ (failed ++ (codes "ignored 0\nskipped 0\ntotal " ++ (decimal total ++ 10 ∷ [])))))
    → text ≡ ports_text jobs notices outcomes
printed jobs notices outcomes text moved built failed total l m b f n t = t ∙ rw (m, b, f, n) (sym (text_of_lists jobs notices outcomes l))
