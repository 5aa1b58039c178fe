use Rattle.std.proofs.Common.{ap, sym, subst, List}
use Rattle.std.specs.Prelude.{All, map}
use Rattle.net_graph.specs.declared.step.BitStep.{BitStep}
use Rattle.net_graph.specs.Named.{IsBitOf}
use Rattle.net_graph.specs.SeenSteps.{seen_step}
use Rattle.net_graph.specs.Steps.{IsStep}
use Rattle.svf_audit.proofs.auditor.Auditor.new.Goals as goal

pub returns-clause-sound : goal.returns-clause-sound
returns-clause-sound c =
    let these = subst (λ (xs : List BitStep). All (IsStep c.args.net.now) (map seen_step xs))
    (sym (ap (λ z. z.items) c.all.ensures.steps)) c.requires.steps in
    record {
      registers = c.in_ok-registers.ensures.sound;
      still = c.in_ok-registers.ensures.still;
      ir = c.no_last_parts.ensures.sound;
      dr = c.no_last_parts-2.ensures.sound;
      marks = λ b h. c.in_ok-marks.ensures b (subst (λ n. IsBitOf n b) c.in_ok-registers.ensures.net h);
      within = c.all.ensures.within;
      steps = subst (λ n. All (IsStep n) (map seen_step c.all.result.steps.now.items))
          (sym c.in_ok-registers.ensures.net) these;
    }
