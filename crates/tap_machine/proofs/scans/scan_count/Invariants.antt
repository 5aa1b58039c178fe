use Rattle.std.proofs.Common.{◌≡◌, ◌+◌, drop}
use Rattle.tap_machine.specs.Play.{scans_in}
use Rattle.tap_machine.proofs.scans.scan_count.Given as goal

abbrev pub invariant-loop-i : goal.invariant-loop-i
invariant-loop-i l = l.scans + scans_in (drop l.i l.commands) ≡ scans_in l.commands
