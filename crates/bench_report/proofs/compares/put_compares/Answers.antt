use Rattle.std.proofs.Common.{◌≡◌, ◌++◌, ℕ, List, arith, ap, sym, ◌∙◌, subst}
use Rattle.ij_io.proofs.Adding.{at_refusal}
use Rattle.ij_io.specs.Bytes.{AddsPart}
use Rattle.ij_io.proofs.Fronts.{AddsFront, front_next, front_part}
use Rattle.net_bench.specs.Pieces.{piece_compares}
use Rattle.net_bench.specs.Playing.{after_pins, compares, differing}
use Rattle.bench_report.specs.Report.{Names, chip_of, named_lines}
use Rattle.bench_report.proofs.Counting.{few_differ, lines_here, count_here, same_step}
use Rattle.bench_report.proofs.compares.put_compares.Goals as goal

pub returns-in_err-differs-clause-part : goal.returns-in_err-differs-clause-part
returns-in_err-differs-clause-part g c =
    let chip = chip_of c.args.bench.now in
    let s = c.loop-played.bench.state in
    let left = compares chip c.loop-played.player.pins s in
    let here = piece_compares c.in-Some.played in
    let later = compares chip c.play.new.player.pins c.play.new.self.state in
    let same : chip_of c.loop-played.bench ≡ chip = ap chip_of c.loop-played.invariant.same in
    let given : left ≡ here ++ later = subst (λ d. compares d c.loop-played.player.pins s
    ≡ here ++ compares d c.play.new.player.pins c.play.new.self.state) same c.in-Some.ensures.compares in
    let part : (ns : Names) → g.N.ReadNames.AreNames c.args.names.now ns
    → AddsPart (g.K.Sink.taken c.args.k.now) (g.K.Sink.taken c.put_played_compares.new.k)
    (named_lines ns (differing (compares chip c.args.player.now.pins c.args.bench.now.state))) = λ ns are.
    let all = named_lines ns (differing (compares chip c.args.player.now.pins c.args.bench.now.state)) in
    front_part (named_lines ns (differing here)) (named_lines ns (differing later)) (subst
    (λ (rest : List ℕ). AddsFront (g.K.Sink.taken c.args.k.now) (g.K.Sink.taken c.loop-played.k) rest all)
    (lines_here left here later given ns) (c.loop-played.invariant.front ns are))
    (c.in_err-differs.ensures.part ns (c.loop-played.invariant.names ns are)) in
    at_refusal c.from_residual.result part

pub overflow_add-differs : goal.overflow_add-differs
overflow_add-differs g c =
    let chip = chip_of c.args.bench.now in
    let s = c.loop-played.bench.state in
    let left = compares chip c.loop-played.player.pins s in
    let here = piece_compares c.in-Some.played in
    let later = compares chip c.play.new.player.pins c.play.new.self.state in
    let same : chip_of c.loop-played.bench ≡ chip = ap chip_of c.loop-played.invariant.same in
    let given : left ≡ here ++ later = subst (λ d. compares d c.loop-played.player.pins s
    ≡ here ++ compares d c.play.new.player.pins c.play.new.self.state) same c.in-Some.ensures.compares in
    omega (
      arith,
      few_differ chip c.args.player.now.pins c.args.bench.now.state,
      count_here left here later
          given,
      c.in_ok-differs.ensures.count,
      c.loop-played.invariant.differs,
      c.requires,
    )

pub overflow_add-clocks : goal.overflow_add-clocks
overflow_add-clocks g c = omega (arith, c.in-Some.ensures.clocks, c.loop-played.invariant.clocks, c.requires)

pub loop-played-preserved : goal.loop-played-preserved
loop-played-preserved g c =
    let chip = chip_of c.args.bench.now in
    let s = c.loop-played.bench.state in
    let t = c.play.new.self.state in
    let rest = c.play.new.player.pins in
    let left = compares chip c.loop-played.player.pins s in
    let here = piece_compares c.in-Some.played in
    let later = compares chip rest t in
    let same : chip_of c.loop-played.bench ≡ chip = ap chip_of c.loop-played.invariant.same in
    let given : left ≡ here ++ later = subst (λ d. compares d c.loop-played.player.pins s
    ≡ here ++ compares d rest t) same c.in-Some.ensures.compares in
    let after : after_pins chip c.loop-played.player.pins s ≡ after_pins chip rest t = subst
    (λ d. after_pins d c.loop-played.player.pins s ≡ after_pins d rest t) same c.in-Some.ensures.state in
    record {
      same = same_step c.play.new.self c.loop-played.bench c.args.bench.now _
          c.in-Some.ensures.bench c.loop-played.invariant.same;
      after = sym after ∙ c.loop-played.invariant.after;
      front = λ ns are. let all =
          named_lines ns (differing (compares chip c.args.player.now.pins c.args.bench.now.state)) in
          front_next (named_lines ns (differing here)) (named_lines ns (differing later))
          (subst (λ (text : List ℕ). AddsFront (g.K.Sink.taken c.args.k.now) (g.K.Sink.taken c.loop-played.k)
          text all) (lines_here left here later given ns) (c.loop-played.invariant.front ns are))
          (c.in_ok-differs.ensures.whole ns (c.loop-played.invariant.names ns are));
      names = λ ns are. c.put_played_compares.ensures.names ns (c.loop-played.invariant.names ns are);
      clocks = omega (arith, c.in-Some.ensures.clocks, c.loop-played.invariant.clocks);
      differs = omega (
        arith,
        count_here left here later given,
        c.in_ok-differs.ensures.count,
        c.loop-played.invariant.differs,
      );
      later = omega (arith, c.put_played_compares.ensures.cause.later, c.loop-played.invariant.later);
    }
