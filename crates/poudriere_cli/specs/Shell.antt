-- The command by which a room's commands are started.
use Rattle.std.specs.Prelude.{ℕ, List, codes}

-- enters the folder that the first word names, and becomes the program that the others name
abbrev pub in_folder : List ℕ
in_folder = codes "cd \"$0\" && exec \"$@\" </dev/null >/dev/null 2>&1"
