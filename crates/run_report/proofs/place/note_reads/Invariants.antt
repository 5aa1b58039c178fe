use Rattle.std.proofs.Common.{◌≡◌, ◌++◌, drop, map}
use Rattle.std.specs.Prelude.{reverse}
use Rattle.run_report.specs.Noting.{place_on}
use Rattle.run_report.proofs.place.note_reads.Given as goal

abbrev pub invariant-loop-read : goal.invariant-loop-read
invariant-loop-read l =
    l.places.items ++ map (place_on l.net (reverse l.path) l.scan) (drop l.read-index l.reads)
    ≡ l.fn.places.items ++ map (place_on l.net (reverse l.path) l.scan) l.reads
