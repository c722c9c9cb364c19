-- Walks by two ways that agree.
use Rattle.std.proofs.Common.{◌≡◌, ℕ, zero, suc, ◌<◌, ◌∷◌, refl, ap, sym, ◌∙◌, Some}
use Rattle.std.specs.Prelude.{filter, min}
use Rattle.std.specs.Fn.{iterate}
use Rattle.std.specs.List.{fold}
use Rattle.std.proofs.lemmas.List.Elements.{All-weaker}
use Rattle.dep_graph.specs.Graphs.{has}
use Rattle.dep_graph.proofs.Members.{filter_agree}
use Rattle.bulk_base.specs.Least.{least}
use Rattle.loop_report.specs.Walks.{walk, before, comes_back, repeated, round_from, loop_from}
use Rattle.loop_report.proofs.WalkSteps.{walk-inside}
use Rattle.loop_report.proofs.Repeating.{least_repeated, least_below, turned}

module _ (f g : ℕ → ℕ) (count : ℕ) (inside : (n : ℕ) → n < count → f n < count) (agree : (n : ℕ) → n < count → f n ≡ g n) where
  walk_agree : (k n : ℕ) → n < count → walk f k n ≡ walk g k n
  walk_agree zero n l = refl
  walk_agree (suc k) n l = ap (λ w. n ∷ w) (walk_agree k (f n) (inside n l)) ∙ ap (λ m. n ∷ walk g k m) (agree n l)

  on_agree : (n : ℕ) → n < count → walk f count (f n) ≡ walk g count (g n)
  on_agree n l = walk_agree count (f n) (inside n l) ∙ ap (walk g count) (agree n l)

  repeated_agree : (n : ℕ) → n < count → repeated f count n ≡ repeated g count n
  repeated_agree n l =
      filter_agree (comes_back f count) (comes_back g count) (walk f count n)
      (All-weaker (λ m. m < count) (λ m. comes_back f count m ≡ comes_back g count m) (λ m b. ap (λ w. has w m) (on_agree m b)) (walk f count n) (walk-inside f count inside count n l))
      ∙ ap (filter (comes_back g count)) (walk_agree count n l)

  pub loop_agree : (first : ℕ) → first < count → loop_from f count (Some first) ≡ loop_from g count (Some first)
  loop_agree first l =
      let m : ℕ = fold min (iterate f count first) (before (iterate f count first) (walk f count (f (iterate f count first)))) in
      sym (turned f count inside first l m refl)
      ∙ ap (λ w. m ∷ before m w) (on_agree m (least_below f count inside first l m refl))
      ∙ ap (round_from g count) (sym (least_repeated f count inside first l m refl) ∙ ap least (repeated_agree first l))
