use Rattle.std.proofs.Common.{◌≤◌, ap, length, arith}
use Rattle.port_name.proofs.Sizes.{AreInForm-from_none, affix_size, port_name_size, version_size, shown_short}
use Rattle.port_name.proofs.package.name_length.Goals as goal

pub overflow_add-result-5 : goal.overflow_add-result-5
overflow_add-result-5 c =
    let parts = c.args.parts.now in
    let form = AreInForm-from_none parts c.requires in
    let revision : c.shown_length.result ≤ 10 = omega (arith, c.shown_length.ensures, shown_short parts.revision form.revision) in
    record {
      fits = omega (
        arith,
        ap length c.bytes.ensures.same,
        ap length c.bytes-2.ensures.same,
        ap length c.bytes-3.ensures.same,
        ap length c.bytes-4.ensures.same,
        affix_size parts.prefix form.prefix,
        (port_name_size parts.portname form.portname).0,
        affix_size parts.suffix form.suffix,
        version_size parts.version form.version,
        revision,
      );
    }

pub overflow_add-result-6 : goal.overflow_add-result-6
overflow_add-result-6 c =
    let parts = c.args.parts.now in
    let form = AreInForm-from_none parts c.requires in
    let revision : c.shown_length.result ≤ 10 = omega (arith, c.shown_length.ensures, shown_short parts.revision form.revision) in
    let epoch : c.shown_length-2.result ≤ 10 = omega (arith, c.shown_length-2.ensures, shown_short parts.epoch form.epoch) in
    record {
      fits = omega (
        arith,
        ap length c.bytes.ensures.same,
        ap length c.bytes-2.ensures.same,
        ap length c.bytes-3.ensures.same,
        ap length c.bytes-4.ensures.same,
        affix_size parts.prefix form.prefix,
        (port_name_size parts.portname form.portname).0,
        affix_size parts.suffix form.suffix,
        version_size parts.version form.version,
        revision,
        epoch,
      );
    }
