use Rattle.std.proofs.Common.{◌≡◌, ◌-◌, ◌^◌, min, take}
use Rattle.bulk_model.specs.Weight.{weight_of}
use Rattle.bulk_model.proofs.package.weight.Given as goal

abbrev pub invariant-loop-file : goal.invariant-loop-file
invariant-loop-file l = l.sum ≡ min (weight_of (take l.file-index l.built.files)) (2 ^ 64 - 1)
