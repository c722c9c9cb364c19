use Rattle.std.proofs.Common.{◌≡◌, ◌++◌, take}
use Rattle.std.specs.List.{flat_map}
use Rattle.bulk_model.specs.Lines.{option_line}
use Rattle.pkg_record.proofs.record_writer.put_options.Given as goal

abbrev pub invariant-loop-option : goal.invariant-loop-option
invariant-loop-option l = l.out.items ≡ l.initial.out.items ++ flat_map option_line (take l.option-index l.options)
