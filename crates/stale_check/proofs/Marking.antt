-- No mark is taken yet.
use Rattle.std.proofs.Common.{◌≡◌, ℕ, ◌<◌, ◌≤◌, List, length, get_or, replicate, ap, sym, ◌∙◌, arith, inl, inr, ◌⊎◌}
use Rattle.std.specs.Prelude.{Option, Some, None}
use Rattle.std.proofs.lemmas.Bool.{cases_lt}
use Rattle.std.proofs.lemmas.List.{get_or-replicate, get_or_past, length-replicate}
use Rattle.bulk_model.specs.Views.{PackageView}
use Rattle.bulk_model.specs.declared.digest.Digest.{Digest}
use Rattle.stale_check.specs.Recording.{AreMarks}

none_there : (count n : ℕ) → (n < count) ⊎ (count ≤ n) → get_or (replicate count (let o : Option Digest = None in o)) n None ≡ None
none_there count n (inl l) = get_or-replicate count n None None l
none_there count n (inr l) =
    get_or_past (replicate count None) n None (let size : length (replicate count (let o : Option Digest = None in o)) ≡ count = length-replicate count None in omega arith)

pub none_marked : (members : List PackageView) (known : List (Option Digest)) (count : ℕ) → known ≡ replicate count None → count ≡ length members → AreMarks members known
none_marked members known count e size = record {
  size = ap length e ∙ length-replicate count None ∙ size;
  each = λ n digest h.
      let none : (let o : Option Digest = None in o) ≡ Some digest = sym (none_there count n (cases_lt n count)) ∙ ap (λ ks. get_or ks n None) (sym e) ∙ h in absurd cc;
}
