use Rattle.std.proofs.Common.{◌≡◌, ◌++◌, arith, ap, subst}
use Rattle.bench_report.proofs.Counting.{few_differ, count_here, same_step}
use Rattle.bench_report.specs.Report.{chip_of}
use Rattle.net_bench.specs.Pieces.{piece_compares}
use Rattle.net_bench.specs.Playing.{compares}
use Rattle.bench_report.proofs.made_play.count_play.Goals as goal

-- the compares that are left, those of the clocks that were played, and those that follow
pub overflow_add-differs : goal.overflow_add-differs
overflow_add-differs c =
    let chip = chip_of c.args.bench.now in
    let s = c.loop-played.bench.state in
    let left = compares chip c.loop-played.player.pins s in
    let here = piece_compares c.in-Some.played in
    let later = compares chip c.play.new.player.pins c.play.new.self.state in
    let same : chip_of c.loop-played.bench ≡ chip = ap chip_of c.loop-played.invariant.same in
    let given : left ≡ here ++ later = subst (λ d. compares d c.loop-played.player.pins s
    ≡ here ++ compares d c.play.new.player.pins c.play.new.self.state) same c.in-Some.ensures.compares in
    omega (
      arith,
      few_differ chip c.args.player.now.pins c.args.bench.now.state,
      count_here left here later
          given,
      c.differs_in-differs.ensures,
      c.loop-played.invariant.differs,
      c.requires,
    )

pub overflow_add-clocks : goal.overflow_add-clocks
overflow_add-clocks c = omega (arith, c.in-Some.ensures.clocks, c.loop-played.invariant.clocks, c.requires)

pub loop-played-preserved : goal.loop-played-preserved
loop-played-preserved c =
    let chip = chip_of c.args.bench.now in
    let s = c.loop-played.bench.state in
    let t = c.play.new.self.state in
    let left = compares chip c.loop-played.player.pins s in
    let here = piece_compares c.in-Some.played in
    let later = compares chip c.play.new.player.pins t in
    let same : chip_of c.loop-played.bench ≡ chip = ap chip_of c.loop-played.invariant.same in
    let given : left ≡ here ++ later = subst (λ d. compares d c.loop-played.player.pins s
    ≡ here ++ compares d c.play.new.player.pins t) same c.in-Some.ensures.compares in
    record {
      same = same_step c.play.new.self c.loop-played.bench c.args.bench.now _
          c.in-Some.ensures.bench c.loop-played.invariant.same;
      clocks = omega (arith, c.in-Some.ensures.clocks, c.loop-played.invariant.clocks);
      differs = omega (
        arith,
        count_here left here later given,
        c.differs_in-differs.ensures,
        c.loop-played.invariant.differs,
      );
    }
