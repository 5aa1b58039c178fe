use Rattle.direct_report.proofs.Setting.{mark_kept, next_left, none_left, start_left}
use Rattle.direct_report.proofs.marking.unmark_reads.Goals as goal

pub set-requires : goal.set-requires
set-requires c = c.loop-read.invariant.kept _
    (c.requires.marks c.loop-read.read-index _ c.loop-read-test.true)

pub loop-read-init : goal.loop-read-init
loop-read-init c =
    record { left = start_left c.args.reads.now c.args.marks.now c.requires.marked; kept = λ b h. h }

pub loop-read-preserved : goal.loop-read-preserved
loop-read-preserved c =
    let v = c.loop-read.invariant in
    record {
      left = next_left c.args.reads.now c.loop-read.read-index _
          c.loop-read.marks c.set.new.self c.loop-read-test.true
          (v.kept _ (c.requires.marks c.loop-read.read-index _ c.loop-read-test.true)) c.set.ensures v.left;
      kept = λ b h. mark_kept c.loop-read.marks c.set.new.self _ b _ c.set.ensures (v.kept b h);
    }

pub returns-clause-blank : goal.returns-clause-blank
returns-clause-blank c = none_left c.args.reads.now c.loop-read.read-index c.loop-read.marks
    c.loop-read-test.false c.loop-read.invariant.left
