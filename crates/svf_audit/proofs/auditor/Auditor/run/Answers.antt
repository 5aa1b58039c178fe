use Rattle.std.proofs.Common.{refl, subst, sym}
use Rattle.std.specs.Prelude.{All, map}
use Rattle.net_graph.specs.SeenSteps.{seen_step}
use Rattle.net_graph.specs.Steps.{IsStep}
use Rattle.svf_audit.specs.Auditing.{state_of}
use Rattle.svf_audit.specs.Left.{work_left}
use Rattle.svf_audit.proofs.Going.{run_fails, run_goes}
use Rattle.svf_audit.proofs.Pieces.{left_held}
use Rattle.svf_audit.proofs.auditor.Auditor.run.Goals as goal

pub do_cycles-requires-clause-held : goal.do_cycles-requires-clause-held
do_cycles-requires-clause-held c =
    let a = c.args.self.now in
    left_held a.registers.net.now a.registers.holds a.left
    c.requires.sound.registers.holds c.requires.sound.steps

pub returns-then-not-do_cycles-clause-err : goal.returns-then-not-do_cycles-clause-err
returns-then-not-do_cycles-clause-err c =
    let a = c.args.self.now in
    λ rs. run_fails a.registers.net.now a.device.now (state_of a rs) c.args.cycles
    (c.do_cycles.ensures.none c.if-not-do_cycles.true)

pub returns-clause-ok : goal.returns-clause-ok
returns-clause-ok c =
    let a = c.args.self.now in
    let k = c.requires.sound in
    record {
      sound = record {
        registers = k.registers;
        still = k.still;
        ir = k.ir;
        dr = k.dr;
        marks = k.marks;
        within = c.do_cycles.ensures.within;
        steps = subst (λ s. All (IsStep a.registers.net.now)
            (map seen_step s.now.items)) (sym c.do_cycles.ensures.steps) k.steps;
      };
      net = refl;
      device = refl;
      goes = λ rs n. (
        rs,
        n,
        run_goes a.registers.net.now a.device.now (state_of a rs) c.args.cycles
            (work_left c.do_cycles.new.self) (c.do_cycles.ensures.some c.if-not-do_cycles.false),
      );
    }
