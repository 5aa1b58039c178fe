use Rattle.std.proofs.Common.{◌≡◌, drop}
use Rattle.least_clocks.specs.Inside.{is_one_of}
use Rattle.least_clocks.proofs.rows.is_one_of.Given as goal

abbrev pub invariant-loop-other : goal.invariant-loop-other
invariant-loop-other l = is_one_of (drop l.other-index l.rows) l.row ≡ is_one_of l.rows l.row
