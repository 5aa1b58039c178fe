use Rattle.std.proofs.Common.{◌<◌, length, ap, arith}
use Rattle.net_graph.specs.SeenSteps.{seen_step}
use Rattle.svf_audit.specs.Work.{after_cycle}
use Rattle.svf_audit.proofs.Lefts.{piece_reset, round_no_cycle, run_left}
use Rattle.svf_audit.proofs.left.Left.cycles_here.Goals as goal

pub returns-in-Apply-clause-none : goal.returns-in-Apply-clause-none
returns-in-Apply-clause-none c =
    let l = c.args.self.now in
    let there : l.at < length l.steps.now.items =
    omega (arith, c.if-self-len.false, c.len.ensures, c.requires.within.steps) in
    λ e. round_no_cycle l c.get-step.result.now _ there
    (c.requires.settled there) c.get-step.ensures (ap seen_step c.in-Apply.is)

pub returns-in-Run-clause-first : goal.returns-in-Run-clause-first
returns-in-Run-clause-first c =
    let l = c.args.self.now in
    let there : l.at < length l.steps.now.items =
    omega (arith, c.if-self-len.false, c.len.ensures, c.requires.within.steps) in
    run_left l c.get-step.result.now _ there c.requires.within.pieces
    c.get-step.ensures (ap seen_step c.in-Run.is)

pub returns-in-Reset-clause-none : goal.returns-in-Reset-clause-none
returns-in-Reset-clause-none c =
    let l = c.args.self.now in
    let there : l.at < length l.steps.now.items =
    omega (arith, c.if-self-len.false, c.len.ensures, c.requires.within.steps) in
    λ e. ap after_cycle (piece_reset l c.get-step.result.now there
    (c.requires.settled there) c.get-step.ensures (ap seen_step c.in-Reset.is))
