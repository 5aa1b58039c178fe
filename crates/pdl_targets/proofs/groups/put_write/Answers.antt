use Rattle.std.proofs.Common.{refl, arith}
use Rattle.pdl_targets.proofs.Placing.{no_write_put, write_put}
use Rattle.pdl_targets.proofs.groups.put_write.Goals as goal

pub returns-in_ok-push : goal.returns-in_ok-push
returns-in_ok-push c =
    let groups = c.args.groups.now in
    write_put groups.items c.args.k c.index_mut.result.now
    (record { writes = c.push.new.self; reads = c.index_mut.result.now.reads }) c.args.write
    (omega (arith, c.if-k-len.true, c.len.ensures, groups.ok.0))
    c.index_mut.ensures.value c.in_ok-push.ensures.ok refl

pub returns-else-k-len : goal.returns-else-k-len
returns-else-k-len c =
    let groups = c.args.groups.now in
    no_write_put groups.items c.args.k c.args.write
    (omega (arith, c.if-k-len.false, c.len.ensures, groups.ok.0))
