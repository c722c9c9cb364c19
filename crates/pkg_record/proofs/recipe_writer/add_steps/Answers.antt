use Rattle.std.proofs.Common.{◌++◌, ap}
use Rattle.std.specs.List.{flat_map}
use Rattle.bulk_model.specs.Recipe.{steps_line, command_lines}
use Rattle.pkg_record.specs.Hashing.{Takes}
use Rattle.pkg_record.proofs.Hashing.{takes_both, takes_as}
use Rattle.pkg_record.proofs.recipe_writer.add_steps.Goals as goal

pub returns : goal.returns
returns c =
    let steps = c.args.steps.now in
    let before = c.args.hasher.now in
    let h0 = c.add_steps_line.new.hasher in
    let h1 = c.add_commands.new.hasher in
    let h2 = c.add_commands-2.new.hasher in
    let h3 = c.add_commands-3.new.hasher in
    let h4 = c.add_commands-4.new.hasher in
    let h5 = c.add_commands-5.new.hasher in
    let counts = steps_line steps in
    let extract = flat_map command_lines steps.extract in
    let patch = flat_map command_lines steps.patch in
    let configure = flat_map command_lines steps.configure in
    let build = flat_map command_lines steps.build in
    let stage = flat_map command_lines steps.stage in
    let a : Takes h0 extract h1 = takes_as h0 h1 (flat_map command_lines c.as_slice.result.now) extract (ap (flat_map command_lines) c.as_slice.ensures) c.in_ok-add_commands.ensures in
    let b : Takes h1 patch h2 = takes_as h1 h2 (flat_map command_lines c.as_slice-2.result.now) patch (ap (flat_map command_lines) c.as_slice-2.ensures) c.in_ok-add_commands-2.ensures in
    let d : Takes h2 configure h3 = takes_as h2 h3 (flat_map command_lines c.as_slice-3.result.now) configure (ap (flat_map command_lines) c.as_slice-3.ensures) c.in_ok-add_commands-3.ensures in
    let e : Takes h3 build h4 = takes_as h3 h4 (flat_map command_lines c.as_slice-4.result.now) build (ap (flat_map command_lines) c.as_slice-4.ensures) c.in_ok-add_commands-4.ensures in
    let f : Takes h4 stage h5 = takes_as h4 h5 (flat_map command_lines c.as_slice-5.result.now) stage (ap (flat_map command_lines) c.as_slice-5.ensures) c.in_ok-add_commands-5.ensures in
    takes_both before h4 h5 (counts ++ extract ++ patch ++ configure ++ build) stage
    (takes_both before h3 h4 (counts ++ extract ++ patch ++ configure) build
    (takes_both before h2 h3 (counts ++ extract ++ patch) configure
    (takes_both before h1 h2 (counts ++ extract) patch
    (takes_both before h0 h1 counts extract c.in_ok-add_steps_line.ensures a) b) d) e) f
