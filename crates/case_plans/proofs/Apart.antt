-- Names in byte order are distinct.
use Rattle.std.proofs.Common.{◌≡◌, ℕ, ◌+◌, ◌<◌, false, List, [], ◌∷◌, length, get_or, map, ap, ◌∙◌, arith}
use Rattle.std.specs.Prelude.{bytes_eq}
use Rattle.std.specs.List.{IsDistinct, AllByRecursion}
use Rattle.std.specs.Ordering.{nat_cmp, eq_by_cmp}
use Rattle.std.specs.declared.cmp.Ordering.TheVariants.{Less}
use Rattle.std.specs.Cmp.Lexicographic.{slice_cmp, nat_list_cmp_total, texts_ties}
use Rattle.std.proofs.lemmas.List.{get_or-map, length-map}
use Rattle.std.proofs.lemmas.Map.Keys.{sorted_from_all_adjacent, IsDistinct-from_sorted, IsDistinct-head, IsDistinct-tail, IsDistinct-cons}
use Rattle.bulk_model.specs.PlanView.{no_job}
use Rattle.bulk_model.specs.Views.{JobView}

apart : (k : List ℕ) (ks : List (List ℕ)) → AllByRecursion (λ y. eq_by_cmp (slice_cmp nat_cmp) k y ≡ false) ks → AllByRecursion (λ y. bytes_eq k y ≡ false) ks
apart k [] h = tt
apart k (x ∷ ks) h = (texts_ties k x ∙ h.0, apart k ks h.1)

distinct : (ks : List (List ℕ)) → IsDistinct (eq_by_cmp (slice_cmp nat_cmp)) ks → IsDistinct bytes_eq ks
unfolding IsDistinct
distinct [] d = tt
distinct (k ∷ ks) d =
    IsDistinct-cons bytes_eq k ks (apart k ks (IsDistinct-head (eq_by_cmp (slice_cmp nat_cmp)) k ks d)) (distinct ks (IsDistinct-tail (eq_by_cmp (slice_cmp nat_cmp)) k ks d))

pub names_apart : (jobs : List JobView) → ((k : ℕ) → k + 1 < length jobs → slice_cmp nat_cmp (get_or jobs k no_job).name (get_or jobs (k + 1) no_job).name ≡ Less) → IsDistinct bytes_eq (map (λ job. job.name) jobs)
names_apart jobs before =
    distinct (map (λ job. job.name) jobs)
    (IsDistinct-from_sorted (slice_cmp nat_cmp) (map (λ job. job.name) jobs)
    (sorted_from_all_adjacent nat_list_cmp_total (map (λ job. job.name) jobs) []
    (λ k l.
    let inside : k + 1 < length jobs = (let s : length (map (λ (job : JobView). job.name) jobs) ≡ length jobs = length-map jobs (λ job. job.name) in omega arith) in
    ap (λ name. slice_cmp nat_cmp name (get_or (map (λ job. job.name) jobs) (k + 1) [])) (get_or-map (λ (job : JobView). job.name) jobs k no_job [] (omega arith))
    ∙ ap (λ name. slice_cmp nat_cmp (get_or jobs k no_job).name name) (get_or-map (λ (job : JobView). job.name) jobs (k + 1) no_job [] inside)
    ∙ before k inside)))
