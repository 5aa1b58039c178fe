use Rattle.std.proofs.Common.{◌≡◌, ◌+◌, arith, ap, drop, length}
use Rattle.ij_bits.specs.BitLists.{bits_of}
use Rattle.net_bench.specs.Pieces.{pin_compares}
use Rattle.net_bench.specs.Playing.{compare_of, differing}
use Rattle.tap_machine.specs.Pieces.{piece_pins}
use Rattle.tap_machine.proofs.Pieces.{length-piece_pins}
use Rattle.bench_report.proofs.Counting.{compares_end, compares_step, count_here, few_compare}
use Rattle.bench_report.proofs.made_play.differs_in.Goals as goal

pub loop-i-preserved : goal.loop-i-preserved
loop-i-preserved c =
    let played = c.args.played.now in
    let i = c.loop-i.i in
    let ps = piece_pins played.piece in
    let fs = bits_of played.piece.count played.found in
    let p = c.at.result in
    let f = c.found_at.result in
    let step = compares_step p (drop (i + 1) ps) (drop i ps) f (drop (i + 1) fs)
    (drop i fs) c.at.ensures c.found_at.ensures in
    let count = count_here (pin_compares (drop i ps) (drop i fs)) (compare_of p.expect p.scan p.bit f)
    (pin_compares (drop (i + 1) ps) (drop (i + 1) fs)) step in
    record { differs = omega (arith, count, c.differs_at-differs.ensures, c.loop-i.invariant.differs) }

pub overflow_add-differs : goal.overflow_add-differs
overflow_add-differs c =
    let played = c.args.played.now in
    let i = c.loop-i.i in
    let ps = piece_pins played.piece in
    let fs = bits_of played.piece.count played.found in
    let p = c.at.result in
    let f = c.found_at.result in
    let step = compares_step p (drop (i + 1) ps) (drop i ps) f (drop (i + 1) fs)
    (drop i fs) c.at.ensures c.found_at.ensures in
    let count = count_here (pin_compares (drop i ps) (drop i fs)) (compare_of p.expect p.scan p.bit f)
    (pin_compares (drop (i + 1) ps) (drop (i + 1) fs)) step in
    omega (
      arith,
      count,
      c.differs_at-differs.ensures,
      c.loop-i.invariant.differs,
      few_compare ps fs,
      length-piece_pins played.piece,
      c.requires.few,
    )

pub returns-after-loop-i : goal.returns-after-loop-i
returns-after-loop-i c =
    let played = c.args.played.now in
    let ps = piece_pins played.piece in
    let all : length ps ≡ c.loop-i.i =
    omega (arith, length-piece_pins played.piece, c.loop-i-test.false, c.loop-i.auto.i-end) in
    let none = compares_end ps (drop c.loop-i.i (bits_of played.piece.count played.found)) c.loop-i.i all in
    omega (arith, ap (λ cs. length (differing cs)) none, c.loop-i.invariant.differs)
