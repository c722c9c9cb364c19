-- The faults of all trees together, where one of them is called.
use Rattle.std.proofs.Common.{◌≡◌, ℕ, ◌+◌, ◌-◌, ◌<◌, ◌≤◌, ◌^◌, Bool, true, List, [], ◌∷◌, length, get_or, zero, suc, arith}
use Rattle.std.specs.Prelude.{min, slice_set}
use Rattle.outside.specs.Faults.{IsCaused}
use Rattle.overlay_tree.specs.Listed.{total}

rose_more : (k a b end : ℕ) → min (a + 1) end ≤ b → min (k + a + 1) end ≤ k + b
rose_more k a b end h = omega arith

rose_front : (a b k end : ℕ) → min (a + 1) end ≤ b → min (a + k + 1) end ≤ b + k
rose_front a b k end h = omega arith

more_caused : (k a b : ℕ) (blamed : Bool) → IsCaused a b blamed → IsCaused (k + a) (k + b) blamed
more_caused k a b blamed h = record {
  later = (let l : a ≤ b = h.later in omega arith);
  rose = λ e. rose_more k a b (2 ^ 64 - 1) (h.rose e);
  kept = λ e. (let s : b ≡ a = h.kept e in omega arith);
}

front_caused : (a b k : ℕ) (blamed : Bool) → IsCaused a b blamed → IsCaused (a + k) (b + k) blamed
front_caused a b k blamed h = record {
  later = (let l : a ≤ b = h.later in omega arith);
  rose = λ e. rose_front a b k (2 ^ 64 - 1) (h.rose e);
  kept = λ e. (let s : b ≡ a = h.kept e in omega arith);
}

-- what one tree's call does to its count it does to the sum
pub set_caused : {T : Type 0} (faults : T → ℕ) (xs : List T) (i : ℕ) (y d : T) (blamed : Bool) → i < length xs → IsCaused (faults (get_or xs i d)) (faults y) blamed
    → IsCaused (total faults xs) (total faults (slice_set xs i y)) blamed
set_caused faults [] i y d blamed l h = absurd (omega arith)
set_caused faults (x ∷ xs) zero y d blamed l h = front_caused (faults x) (faults y) (total faults xs) blamed h
set_caused faults (x ∷ xs) (suc i) y d blamed l h =
    more_caused (faults x) (total faults xs) (total faults (slice_set xs i y)) blamed (set_caused faults xs i y d blamed (omega arith) h)

-- the same with one tree before them
pub later_caused : {T : Type 0} (faults : T → ℕ) (x : T) (xs : List T) (i : ℕ) (y d : T) (blamed : Bool) → i < length xs → IsCaused (faults (get_or xs i d)) (faults y) blamed
    → IsCaused (total faults (x ∷ xs)) (faults x + total faults (slice_set xs i y)) blamed
later_caused faults x xs i y d blamed l h = more_caused (faults x) (total faults xs) (total faults (slice_set xs i y)) blamed (set_caused faults xs i y d blamed l h)
