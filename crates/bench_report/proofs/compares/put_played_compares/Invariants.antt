use Rattle.std.proofs.Common.{◌≡◌, ◌≤◌, ◌+◌, List, Bool, drop, length}
use Rattle.ij_bits.specs.BitLists.{bits_of}
use Rattle.ij_io.proofs.Fronts.{AddsFront}
use Rattle.net_bench.specs.Pieces.{pin_compares, piece_compares}
use Rattle.net_bench.specs.Playing.{differing}
use Rattle.tap_machine.specs.declared.Pins.{Pins}
use Rattle.tap_machine.specs.Pieces.{piece_pins}
use Rattle.bench_report.specs.Report.{Names, named_lines}
use Rattle.bench_report.proofs.compares.put_played_compares.Given as goal

abbrev pub invariant-loop-i : goal.invariant-loop-i
invariant-loop-i g l =
    let played = l.played in
    let ps : List Pins = piece_pins played.piece in
    let fs : List Bool = bits_of played.piece.count played.found in
    let left = differing (pin_compares (drop l.i ps) (drop l.i fs)) in
    let all = differing (piece_compares played) in
    record {
      front : (ns : Names) → g.N.ReadNames.AreNames l.fn.names ns
          → AddsFront (g.K.Sink.taken l.fn.k) (g.K.Sink.taken l.k) (named_lines ns left) (named_lines ns all);
      names : (ns : Names) → g.N.ReadNames.AreNames l.fn.names ns → g.N.ReadNames.AreNames l.names ns;
      differs : l.differs + length left ≡ length all;
      later : g.K.Sink.faults l.fn.k ≤ g.K.Sink.faults l.k;
    }
