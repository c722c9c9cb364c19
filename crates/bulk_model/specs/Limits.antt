-- The most that may be counted of each (docs/FORMATS.md, "Limits").
use Rattle.std.specs.Prelude.{ℕ}
use Rattle.bulk_model.specs.declared.which.Which.{Which}
use Rattle.bulk_model.specs.declared.which.Which.TheVariants.{FileBytes, Options, Depends, VarsBytes, Nodes, PlanNodes, JobBytes, DistBytes, StoreNames, StoreBytes, Generations}

abbrev pub most : Which → ℕ
most FileBytes = 4194304
most Options = 256
most Depends = 256
most VarsBytes = 268435456
most Nodes = 65535
most PlanNodes = 6144
most JobBytes = 268435456
most DistBytes = 67108864
most StoreNames = 65535
most StoreBytes = 2147483648
most Generations = 999999999999999998
