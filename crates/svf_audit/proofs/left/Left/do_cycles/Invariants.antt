use Rattle.std.proofs.Common.{◌≡◌}
use Rattle.svf_audit.specs.Left.{work_left, AreHeld, IsWithin}
use Rattle.svf_audit.specs.Work.{after_cycles}
use Rattle.svf_audit.proofs.left.Left.do_cycles.Given as goal

abbrev pub invariant-loop-more : goal.invariant-loop-more
invariant-loop-more l =
    record {
      within : IsWithin l.self;
      held : AreHeld l.holds (work_left l.self);
      same : after_cycles l.holds l.more (work_left l.self) ≡ after_cycles l.holds l.n (work_left l.fn.self);
      steps : l.self.steps ≡ l.fn.self.steps;
    }

abbrev pub decreases-loop-more : goal.decreases-loop-more
decreases-loop-more l = l.more
