use Rattle.std.proofs.Common.{◌≡◌, drop}
use Rattle.run_report.specs.Places.{read_at}
use Rattle.run_report.proofs.place.find.Given as goal

abbrev pub invariant-loop-place : goal.invariant-loop-place
invariant-loop-place l = read_at (drop l.place-index l.places) l.scan l.bit ≡ read_at l.places l.scan l.bit
