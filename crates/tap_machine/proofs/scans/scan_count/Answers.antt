use Rattle.std.proofs.Common.{◌<◌, length, arith}
use Rattle.svf_writer.specs.SeenCommands.{seen_command}
use Rattle.tap_machine.proofs.ScanCounts.{scans_next}
use Rattle.tap_machine.proofs.scans.scan_count.Goals as goal

pub overflow_add-scans : goal.overflow_add-scans
overflow_add-scans c =
    let within : c.loop-i.i < length c.args.commands.now =
    omega (arith, c.loop-i-test.true, c.len-i-end.ensures.count) in
    let next = scans_next c.args.commands.now c.loop-i.i
    (seen_command c.get.result.now) within c.get.ensures in
    omega (arith, next, c.scans_of-scans.ensures, c.loop-i.invariant, c.requires)

pub loop-i-preserved : goal.loop-i-preserved
loop-i-preserved c =
    let within : c.loop-i.i < length c.args.commands.now =
    omega (arith, c.loop-i-test.true, c.len-i-end.ensures.count) in
    let next = scans_next c.args.commands.now c.loop-i.i
    (seen_command c.get.result.now) within c.get.ensures in
    omega (arith, next, c.scans_of-scans.ensures, c.loop-i.invariant)
