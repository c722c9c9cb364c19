use Rattle.std.proofs.Common.{◌≡◌, ◌++◌, take}
use Rattle.std.specs.List.{flat_map}
use Rattle.bulk_model.specs.declared.version.Version.TheVariants.{Two}
use Rattle.bulk_model.specs.Spelling.{recorded_line}
use Rattle.pkg_record.proofs.record_writer.put_depends.Given as goal

abbrev pub invariant-loop-depend : goal.invariant-loop-depend
invariant-loop-depend l = l.out.items ≡ l.initial.out.items ++ flat_map (recorded_line Two) (take l.depend-index l.depends)
