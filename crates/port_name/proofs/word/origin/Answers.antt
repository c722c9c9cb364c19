use Rattle.std.proofs.Common.{◌≡◌, true, arith, rules}
use Rattle.port_name.specs.Forms.{is_origin}
use Rattle.port_name.proofs.Origins.{slash_within}
use Rattle.port_name.proofs.word.origin.Goals as goal

pub parted-requires-clause-within : goal.parted-requires-clause-within
parted-requires-clause-within c =
    let form : is_origin c.bytes-bytes.result.now ≡ true = search rules in
    omega (arith, slash_within c.bytes-bytes.result.now form, c.place_or_end.ensures.place)
