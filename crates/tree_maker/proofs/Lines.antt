-- The lines of dependencies, by how many there are.
use Rattle.std.proofs.Common.{◌≡◌, ℕ, ◌<◌, ◌≤◌, List, [], ◌∷◌, length, get_or, refl, arith}
use Rattle.std.specs.Prelude.{codes}
use Rattle.tree_maker.specs.Made.{depends_line, build_line, run_line}

pub build_few : (targets : List ℕ) → 1 ≤ length targets → length targets < 3
    → depends_line (codes "BUILD_DEPENDS=") (get_or targets 0 0 ∷ []) ≡ build_line targets
build_few [] l h = absurd (omega arith)
build_few (a ∷ []) l h = refl
build_few (a ∷ b ∷ []) l h = refl
build_few (a ∷ b ∷ c ∷ more) l h = absurd (omega arith)

pub build_three : (targets : List ℕ) → 3 ≤ length targets
    → depends_line (codes "BUILD_DEPENDS=") (get_or targets 0 0 ∷ get_or targets 2 0 ∷ []) ≡ build_line targets
build_three [] l = absurd (omega arith)
build_three (a ∷ []) l = absurd (omega arith)
build_three (a ∷ b ∷ []) l = absurd (omega arith)
build_three (a ∷ b ∷ c ∷ more) l = refl

pub run_two : (targets : List ℕ) → 2 ≤ length targets
    → depends_line (codes "RUN_DEPENDS=") (get_or targets 1 0 ∷ []) ≡ run_line targets
run_two [] l = absurd (omega arith)
run_two (a ∷ []) l = absurd (omega arith)
run_two (a ∷ b ∷ more) l = refl
