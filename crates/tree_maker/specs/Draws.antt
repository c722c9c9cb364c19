-- Numbers that are drawn one after another from a number (docs/FORMATS.md, "The tree of a number").
use Rattle.std.specs.Prelude.{ℕ, zero, suc, ◌+◌, ◌*◌, ◌/◌, ◌%◌, ◌^◌}

-- a draw's next state
unfoldable pub next : ℕ → ℕ
next x = (x * 6364136223846793005 + 1442695040888963407) % 2 ^ 64

-- the state after so many draws
abbrev pub after : ℕ → ℕ → ℕ
after zero x = x
after (suc draws) x = next (after draws x)

-- the number that the draw with this place gives, from 1
abbrev pub draw : ℕ → ℕ → ℕ
draw place x = after place x / 2 ^ 33
