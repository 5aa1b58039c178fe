use Rattle.std.proofs.Common.{◌<◌, length, ap, sym, arith}
use Rattle.net_graph.specs.SeenSteps.{seen_step}
use Rattle.svf_audit.proofs.Lefts.{piece_reset, piece_run, resets_first, round_no_reset}
use Rattle.svf_audit.proofs.left.Left.is_reset_here.Goals as goal

pub returns-in-Apply-clause-first : goal.returns-in-Apply-clause-first
returns-in-Apply-clause-first c =
    let l = c.args.self.now in
    let there : l.at < length l.steps.now.items =
    omega (arith, c.if-self-len.false, c.len.ensures, c.requires.within.steps) in
    sym (round_no_reset l c.get.result.now _ there
    (c.requires.settled there) c.get.ensures (ap seen_step c.in-Apply.is))

pub returns-in-Run-clause-first : goal.returns-in-Run-clause-first
returns-in-Run-clause-first c =
    let l = c.args.self.now in
    let there : l.at < length l.steps.now.items =
    omega (arith, c.if-self-len.false, c.len.ensures, c.requires.within.steps) in
    sym (ap resets_first (piece_run l c.get.result.now _ there
    (c.requires.settled there) c.get.ensures (ap seen_step c.in-Run.is)))

pub returns-in-Reset-clause-first : goal.returns-in-Reset-clause-first
returns-in-Reset-clause-first c =
    let l = c.args.self.now in
    let there : l.at < length l.steps.now.items =
    omega (arith, c.if-self-len.false, c.len.ensures, c.requires.within.steps) in
    sym (ap resets_first (piece_reset l c.get.result.now there
    (c.requires.settled there) c.get.ensures (ap seen_step c.in-Reset.is)))
