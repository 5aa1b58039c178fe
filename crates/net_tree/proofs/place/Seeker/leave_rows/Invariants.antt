use Rattle.std.proofs.Common.{◌≡◌, length}
use Rattle.net_tree.specs.Seeking as seeking
use Rattle.net_tree.specs.Seeking.{seeker_state, AreFew}
use Rattle.net_tree.proofs.place.Seeker.leave_rows.Given as goal

abbrev pub invariant-loop-level : goal.invariant-loop-level
invariant-loop-level l =
    AreFew l.self.levels
    × (seeking.leave_rows l.at (seeker_state l.self) ≡ seeking.leave_rows l.at (seeker_state l.fn.self))

abbrev pub decreases-loop-level : goal.decreases-loop-level
decreases-loop-level l = length l.self.levels.items
