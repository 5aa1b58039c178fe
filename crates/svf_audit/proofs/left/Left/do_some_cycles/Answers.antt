use Rattle.std.proofs.Common.{ap, sym, ◌∙◌, ◌++◌, arith}
use Rattle.std.specs.Prelude.{replicate}
use Rattle.svf_audit.specs.Left.{work_left}
use Rattle.svf_audit.specs.Work.{Cycle}
use Rattle.svf_audit.proofs.Lefts.{done_more, some_cycles}
use Rattle.svf_audit.proofs.left.Left.do_some_cycles.Goals as goal

pub overflow_add-self : goal.overflow_add-self
overflow_add-self c = omega (arith, c.at_most-some.ensures.some, c.cycles_here.ensures.fits)

pub returns-clause-done : goal.returns-clause-done
returns-clause-done c =
    let l = c.args.self.now in
    let k = c.at_most-some.result in
    some_cycles c.cycles_here.result k (work_left l) c.cycles_here.ensures.first c.at_most-some.ensures.some
    ∙ ap (λ r. replicate k Cycle ++ r) (sym (done_more l k))
