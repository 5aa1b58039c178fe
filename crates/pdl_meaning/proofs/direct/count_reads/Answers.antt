use Rattle.std.proofs.Common.{arith}
use Rattle.pdl_meaning.proofs.Rounds.{reads_next}
use Rattle.pdl_meaning.proofs.direct.count_reads.Goals as goal

pub loop-group-preserved : goal.loop-group-preserved
loop-group-preserved c =
    let next = reads_next c.args.rounds.now c.group-item.result c.loop-group.group-index
    c.loop-group-test.true c.group-item.is in
    omega (arith, next, c.loop-group.invariant)
