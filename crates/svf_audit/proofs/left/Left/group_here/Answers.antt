use Rattle.std.proofs.Common.{◌<◌, length, ap, sym, arith}
use Rattle.net_graph.specs.SeenSteps.{seen_step}
use Rattle.svf_audit.proofs.Lefts.{first_group, piece_reset, piece_round, piece_run}
use Rattle.svf_audit.proofs.left.Left.group_here.Goals as goal

pub returns-in-Apply-clause-group : goal.returns-in-Apply-clause-group
returns-in-Apply-clause-group c =
    let l = c.args.self.now in
    let there : l.at < length l.steps.now.items =
    omega (arith, c.if-self-len.false, c.len.ensures, c.requires.within.steps) in
    sym (ap first_group (piece_round l c.get.result.now c.in-Apply.rounds.items c.get-in-Apply.result.now
    there (c.requires.settled there) c.get.ensures (ap seen_step c.in-Apply.is) c.get-in-Apply.ensures))

pub returns-in-Run-clause-group : goal.returns-in-Run-clause-group
returns-in-Run-clause-group c =
    let l = c.args.self.now in
    let there : l.at < length l.steps.now.items =
    omega (arith, c.if-self-len.false, c.len.ensures, c.requires.within.steps) in
    sym (ap first_group (piece_run l c.get.result.now _ there
    (c.requires.settled there) c.get.ensures (ap seen_step c.in-Run.is)))

pub returns-in-Reset-clause-group : goal.returns-in-Reset-clause-group
returns-in-Reset-clause-group c =
    let l = c.args.self.now in
    let there : l.at < length l.steps.now.items =
    omega (arith, c.if-self-len.false, c.len.ensures, c.requires.within.steps) in
    sym (ap first_group (piece_reset l c.get.result.now there
    (c.requires.settled there) c.get.ensures (ap seen_step c.in-Reset.is)))
