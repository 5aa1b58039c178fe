use Rattle.direct_report.proofs.Setting.{mark_kept, next_marked}
use Rattle.direct_report.proofs.marking.mark_reads.Goals as goal

pub set-requires : goal.set-requires
set-requires c = c.loop-i.invariant.kept _ (c.requires.marks c.loop-i.i _ c.loop-i-test.true)

pub loop-i-preserved : goal.loop-i-preserved
loop-i-preserved c =
    let v = c.loop-i.invariant in
    record {
      marked = next_marked c.args.reads.now c.loop-i.i _ c.loop-i.marks
          c.set.new.self c.loop-i-test.true c.requires.once
          (v.kept _ (c.requires.marks c.loop-i.i _ c.loop-i-test.true)) c.set.ensures v.marked;
      kept = λ b h. mark_kept c.loop-i.marks c.set.new.self _ b _ c.set.ensures (v.kept b h);
    }
