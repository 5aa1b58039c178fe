use Rattle.std.proofs.Common.{◌≡◌, length}
use Rattle.svf_audit.specs.Left.{work_left, AreHeld, IsSettled, IsWithin}
use Rattle.svf_audit.specs.Work.{due}
use Rattle.svf_audit.proofs.left.Left.drop_redundant.Given as goal

abbrev pub invariant-loop-self : goal.invariant-loop-self
invariant-loop-self l =
    record {
      within : IsWithin l.self;
      settled : IsSettled l.self;
      held : AreHeld l.holds (work_left l.self);
      same : due l.holds (work_left l.self) ≡ due l.holds (work_left l.fn.self);
      steps : l.self.steps ≡ l.fn.self.steps;
    }

abbrev pub decreases-loop-self : goal.decreases-loop-self
decreases-loop-self l = length (work_left l.self)
