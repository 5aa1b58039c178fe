use Rattle.std.proofs.Common.{◌≡◌}
use Rattle.svf_audit.specs.Left.{work_left, IsWithin}
use Rattle.svf_audit.proofs.left.Left.skip_done_steps.Given as goal

abbrev pub invariant-loop-at : goal.invariant-loop-at
invariant-loop-at l =
    (l.self.at ≡ l.at) × (l.self.steps ≡ l.fn.self.steps) × IsWithin l.self
    × (work_left l.self ≡ work_left l.fn.self)
