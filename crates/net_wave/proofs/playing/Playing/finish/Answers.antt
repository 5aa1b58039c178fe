use Rattle.std.proofs.Common.{◌≡◌, ap, sym, ◌∙◌, subst}
use Rattle.net_bench.specs.Board.{SeenBench}
use Rattle.net_graph.specs.declared.net.Net.{Net}
use Rattle.net_graph.specs.Held.{AreHolds}
use Rattle.net_graph.specs.Nets.{IsNet}
use Rattle.net_wave.proofs.Leaving.{differs_end, differs_on}
use Rattle.net_wave.proofs.playing.Playing.finish.Goals as goal

pub loop-pins-preserved : goal.loop-pins-preserved
loop-pins-preserved c =
    let p = c.loop-pins.self in
    let net : c.step-differs.new.bench.net
    ≡ p.bench.net = ap (λ (b : SeenBench). b.net) c.step-differs.ensures.bench in
    record {
      step = record {
        well_formed = subst IsNet (sym net) c.loop-pins.invariant.step.well_formed;
        shape = subst (λ (n : Net). AreHolds n c.step-differs.new.stages)
            (sym net) c.step-differs.ensures.shape;
        stages = c.step-differs.ensures.stages;
      };
      differs = differs_on p c.step-differs.new.bench c.next.new.self c.step-differs.new.stages
          c.step-differs.result c.either-self.result c.in-Some.pins c.in-Some.ensures.given
          c.step-differs.ensures.bench c.step-differs.ensures.differs c.either-self.ensures
          ∙ c.loop-pins.invariant.differs;
    }

pub returns : goal.returns
returns c =
    differs_end c.loop-pins.self c.in_default.ensures.given ∙ c.loop-pins.invariant.differs
