use Rattle.std.proofs.Common.{◌≡◌, ◌+◌, ◌++◌, ap, arith, drop, length, List, ℕ, subst}
use Rattle.ij_io.proofs.Adding.{at_refusal}
use Rattle.ij_io.specs.Bytes.{AddsPart}
use Rattle.ij_io.proofs.Fronts.{AddsFront, front_all, front_next, front_part}
use Rattle.ij_bits.specs.BitLists.{bits_of}
use Rattle.net_bench.specs.Pieces.{piece_compares, pin_compares}
use Rattle.net_bench.specs.Playing.{compare_of, differing}
use Rattle.tap_machine.specs.Pieces.{piece_pins}
use Rattle.tap_machine.proofs.Pieces.{length-piece_pins}
use Rattle.bench_report.specs.Report.{Names, named_lines}
use Rattle.bench_report.proofs.Counting.{compares_end, compares_step, count_here, few_compare, lines_here}
use Rattle.bench_report.proofs.compares.put_played_compares.Goals as goal

pub loop-i-preserved : goal.loop-i-preserved
loop-i-preserved g c =
    let played = c.args.played.now in
    let i = c.loop-i.i in
    let ps = piece_pins played.piece in
    let fs = bits_of played.piece.count played.found in
    let p = c.at.result in
    let f = c.found_at.result in
    let here = compare_of p.expect p.scan p.bit f in
    let left = pin_compares (drop i ps) (drop i fs) in
    let rest = pin_compares (drop (i + 1) ps) (drop (i + 1) fs) in
    let step : left ≡ here ++ rest = compares_step p (drop (i + 1) ps) (drop i ps) f (drop (i + 1) fs)
    (drop i fs) c.at.ensures c.found_at.ensures in
    record {
      front = λ ns are. let all = named_lines ns (differing (piece_compares played)) in
          front_next (named_lines ns (differing here)) (named_lines ns (differing rest)) (subst
          (λ (text : List ℕ). AddsFront (g.K.Sink.taken c.args.k.now) (g.K.Sink.taken c.loop-i.k) text all)
          (lines_here left here rest step ns) (c.loop-i.invariant.front ns are))
          (c.in_ok-differs.ensures.whole ns (c.loop-i.invariant.names ns are));
      names = λ ns are. c.put_compare.ensures.names ns (c.loop-i.invariant.names ns are);
      differs = omega (
        arith,
        count_here left here rest step,
        c.in_ok-differs.ensures.count,
        c.loop-i.invariant.differs,
      );
      later = omega (arith, c.put_compare.ensures.cause.later, c.loop-i.invariant.later);
    }

pub returns-in_err-differs-clause-part : goal.returns-in_err-differs-clause-part
returns-in_err-differs-clause-part g c =
    let played = c.args.played.now in
    let i = c.loop-i.i in
    let ps = piece_pins played.piece in
    let fs = bits_of played.piece.count played.found in
    let p = c.at.result in
    let f = c.found_at.result in
    let here = compare_of p.expect p.scan p.bit f in
    let left = pin_compares (drop i ps) (drop i fs) in
    let rest = pin_compares (drop (i + 1) ps) (drop (i + 1) fs) in
    let step : left ≡ here ++ rest = compares_step p (drop (i + 1) ps) (drop i ps) f (drop (i + 1) fs)
    (drop i fs) c.at.ensures c.found_at.ensures in
    let part : (ns : Names) → g.N.ReadNames.AreNames c.args.names.now ns
    → AddsPart (g.K.Sink.taken c.args.k.now) (g.K.Sink.taken c.put_compare.new.k)
    (named_lines ns (differing (piece_compares played))) = λ ns are.
    let all = named_lines ns (differing (piece_compares played)) in
    front_part (named_lines ns (differing here)) (named_lines ns (differing rest)) (subst
    (λ (text : List ℕ). AddsFront (g.K.Sink.taken c.args.k.now) (g.K.Sink.taken c.loop-i.k) text all)
    (lines_here left here rest step ns) (c.loop-i.invariant.front ns are))
    (c.in_err-differs.ensures.part ns (c.loop-i.invariant.names ns are)) in
    at_refusal c.from_residual.result part

pub overflow_add-differs : goal.overflow_add-differs
overflow_add-differs g c =
    let played = c.args.played.now in
    let i = c.loop-i.i in
    let ps = piece_pins played.piece in
    let fs = bits_of played.piece.count played.found in
    let p = c.at.result in
    let f = c.found_at.result in
    let step = compares_step p (drop (i + 1) ps) (drop i ps) f (drop (i + 1) fs)
    (drop i fs) c.at.ensures c.found_at.ensures in
    let count = count_here (pin_compares (drop i ps) (drop i fs)) (compare_of p.expect p.scan p.bit f)
    (pin_compares (drop (i + 1) ps) (drop (i + 1) fs)) step in
    omega (
      arith,
      count,
      c.in_ok-differs.ensures.count,
      c.loop-i.invariant.differs,
      few_compare ps fs,
      length-piece_pins played.piece,
      c.requires.few,
    )

pub returns-after-loop-i-clause-whole : goal.returns-after-loop-i-clause-whole
returns-after-loop-i-clause-whole g c ns are =
    let played = c.args.played.now in
    let ps = piece_pins played.piece in
    let all : length ps ≡ c.loop-i.i =
    omega (arith, length-piece_pins played.piece, c.loop-i-test.false, c.loop-i.auto.i-end) in
    let none = compares_end ps (drop c.loop-i.i (bits_of played.piece.count played.found)) c.loop-i.i all in
    front_all (subst (λ cs. AddsFront (g.K.Sink.taken c.args.k.now) (g.K.Sink.taken c.loop-i.k)
    (named_lines ns (differing cs)) (named_lines ns (differing (piece_compares played)))) none
    (c.loop-i.invariant.front ns are))

pub returns-after-loop-i-clause-count : goal.returns-after-loop-i-clause-count
returns-after-loop-i-clause-count g c =
    let played = c.args.played.now in
    let ps = piece_pins played.piece in
    let all : length ps ≡ c.loop-i.i =
    omega (arith, length-piece_pins played.piece, c.loop-i-test.false, c.loop-i.auto.i-end) in
    let none = compares_end ps (drop c.loop-i.i (bits_of played.piece.count played.found)) c.loop-i.i all in
    omega (arith, ap (λ cs. length (differing cs)) none, c.loop-i.invariant.differs)
