use Rattle.std.proofs.Common.{refl, arith}
use Rattle.pdl_targets.proofs.Placing.{no_read_put, read_put}
use Rattle.pdl_targets.proofs.groups.put_read.Goals as goal

pub returns-in_ok-push : goal.returns-in_ok-push
returns-in_ok-push c =
    let groups = c.args.groups.now in
    read_put groups.items c.args.k c.index_mut.result.now
    (record { writes = c.index_mut.result.now.writes; reads = c.push.new.self }) c.args.read
    (omega (arith, c.if-k-len.true, c.len.ensures, groups.ok.0))
    c.index_mut.ensures.value c.in_ok-push.ensures.ok refl

pub returns-else-k-len : goal.returns-else-k-len
returns-else-k-len c =
    let groups = c.args.groups.now in
    no_read_put groups.items c.args.k c.args.read
    (omega (arith, c.if-k-len.false, c.len.ensures, groups.ok.0))
