use Rattle.std.proofs.Common.{ap, ◌∙◌, refl, sym, subst, arith}
use Rattle.instruments.specs.Machine.{count_log}
use Rattle.instruments.specs.OnNetwork.{fresh}
use Rattle.net_graph.specs.Marks.{Marks, HasMark, mark_at}
use Rattle.net_graph.proofs.Setting.{each_bit_has_one, zeros_are_zero}
use Rattle.pdl_meaning.specs.States.{SeenState}
use Rattle.instruments.proofs.Machines.{machines_are}
use Rattle.direct_report.proofs.play.DirectPlay.new.Goals as goal

pub invariant_of-result : goal.invariant_of-result
invariant_of-result c =
    let net = c.args.net.now in
    record {
      well_formed = c.requires.well_formed;
      fit = c.requires.models;
      same_net = ap (λ (s : SeenState). s.net) c.in_ok-power_up.ensures;
      same_models = ap (λ (s : SeenState). s.models) c.in_ok-power_up.ensures;
      blank = λ b. ap (λ (m : Marks). mark_at m b) c.in_ok-zeros.ensures ∙ zeros_are_zero net b;
      has_marks = λ b is. subst (λ (m : Marks). HasMark m b)
          (sym c.in_ok-zeros.ensures) (each_bit_has_one net b is);
      less = omega arith;
    }

pub returns-clause-state : goal.returns-clause-state
returns-clause-state c =
    record {
      holds = ap (λ (s : SeenState). s.holds) c.in_ok-power_up.ensures;
      insts = ap (λ (s : SeenState). s.insts) c.in_ok-power_up.ensures
          ∙ ap (fresh count_log) (machines_are c.args.models.now.items);
      reads = refl;
      differs = refl;
    }
