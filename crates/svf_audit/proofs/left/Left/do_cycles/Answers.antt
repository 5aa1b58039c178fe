use Rattle.std.proofs.Common.{◌∙◌, arith}
use Rattle.svf_audit.specs.Left.{work_left}
use Rattle.svf_audit.proofs.Dues.{cycles_done, held_on}
use Rattle.svf_audit.proofs.left.Left.do_cycles.Goals as goal

pub loop-more-preserved : goal.loop-more-preserved
loop-more-preserved c =
    let h = c.args.holds.now in
    let ws = work_left c.loop-more.self in
    let now = work_left c.drop_redundant.new.self in
    let more = work_left c.do_some_cycles-some.new.self in
    let k = c.do_some_cycles-some.result in
    record {
      within = c.do_some_cycles-some.ensures.within;
      held = held_on h k ws now more c.loop-more.invariant.held
          c.drop_redundant.ensures.work c.do_some_cycles-some.ensures.done;
      same = cycles_done h c.loop-more.more k ws now more (omega arith) c.do_some_cycles-some.ensures.few
          c.drop_redundant.ensures.work c.do_some_cycles-some.ensures.done ∙ c.loop-more.invariant.same;
      steps = c.do_some_cycles-some.ensures.steps
          ∙ c.drop_redundant.ensures.steps ∙ c.loop-more.invariant.steps;
    }
