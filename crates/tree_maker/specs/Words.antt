-- The words of numbers, by what the numbers stand for.
use Rattle.std.specs.Prelude.{ℕ, List}
use Rattle.tree_maker.specs.declared.word.Word.{Word}
use Rattle.tree_maker.specs.declared.word.Word.TheVariants.{Category, Folder, Entry}
use Rattle.tree_maker.specs.Made.{category, folder, entry}

abbrev pub word : Word → ℕ → List ℕ
word Category n = category n
word Folder n = folder n
word Entry n = entry n
