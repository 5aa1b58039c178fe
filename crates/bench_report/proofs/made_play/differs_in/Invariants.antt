use Rattle.std.proofs.Common.{◌≡◌, ◌+◌, List, Bool, drop, length}
use Rattle.ij_bits.specs.BitLists.{bits_of}
use Rattle.net_bench.specs.Pieces.{pin_compares, piece_compares}
use Rattle.net_bench.specs.Playing.{differing}
use Rattle.tap_machine.specs.declared.Pins.{Pins}
use Rattle.tap_machine.specs.Pieces.{piece_pins}
use Rattle.bench_report.proofs.made_play.differs_in.Given as goal

abbrev pub invariant-loop-i : goal.invariant-loop-i
invariant-loop-i l =
    let played = l.played in
    let ps : List Pins = piece_pins played.piece in
    let fs : List Bool = bits_of played.piece.count played.found in
    record {
      differs : l.differs + length (differing (pin_compares (drop l.i ps) (drop l.i fs)))
          ≡ length (differing (piece_compares played));
    }
