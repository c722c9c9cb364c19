-- The numbers that the worked examples print.
use Rattle.std.proofs.Common.{◌≡◌, arith}
use Rattle.std.specs.Prelude.{codes, false}
use Rattle.std.specs.Fmt.{digits}
use Rattle.std.proofs.lemmas.Fmt.{decimal_digit}

pub none_counted : digits 10 false 0 ≡ codes "0"
none_counted = decimal_digit 0 (omega arith)

pub one_counted : digits 10 false 1 ≡ codes "1"
one_counted = decimal_digit 1 (omega arith)

pub two_counted : digits 10 false 2 ≡ codes "2"
two_counted = decimal_digit 2 (omega arith)

pub three_counted : digits 10 false 3 ≡ codes "3"
three_counted = decimal_digit 3 (omega arith)
