use Rattle.std.proofs.Common.{subst}
use Rattle.std.specs.Prelude.{IfSome, IsTrue}
use Rattle.std.specs.Option.{option_copied}
use Rattle.bulk_base.specs.Names.{is_flavor}
use Rattle.pkg_record.proofs.Names.{flavor_name, is_text-visible}
use Rattle.pkg_record.proofs.line_reader.copied.Goals as goal

pub of-requires : goal.of-requires
of-requires c =
    is_text-visible c.in-Some.flavor.now (flavor_name c.in-Some.flavor.now (subst (λ o. IfSome (option_copied o) (λ f. IsTrue (is_flavor f))) c.in-Some.is c.requires)).1
