use Rattle.std.proofs.Common.{◌≡◌, length, map}
use Rattle.std.specs.List.{filter_map, range_with_len}
use Rattle.std.specs.String.{string_bytes}
use Rattle.bulk_model.specs.Fit.{status_in}
use Rattle.bulk_model.specs.Lists.{failed_entry}
use Rattle.bulk_model.specs.Results.{status_of_outcome}
use Rattle.one_port.specs.PortsPlan.{plan_of}
use Rattle.one_port.proofs.port_lists.failed_entries.Given as goal

abbrev pub invariant-loop-job : goal.invariant-loop-job
invariant-loop-job l = map string_bytes l.entries.items ≡ filter_map (λ n. failed_entry (plan_of l.jobs) n (status_in (map status_of_outcome l.outcomes) n)) (range_with_len 0 (length l.yielded))
