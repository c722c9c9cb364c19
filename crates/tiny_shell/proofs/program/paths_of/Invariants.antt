use Rattle.std.proofs.Common.{◌≡◌, take, drop}
use Rattle.std.specs.List.{list_all}
use Rattle.bulk_base.specs.Path.{is_path}
use Rattle.tiny_shell.proofs.program.paths_of.Given as goal

abbrev pub invariant-loop-text : goal.invariant-loop-text
invariant-loop-text l = record {
  so_far : l.paths ≡ take l.text-index l.texts;
  rest : list_all is_path (drop l.text-index l.texts) ≡ list_all is_path l.texts;
}
