use Rattle.std.proofs.Common.{◌≤◌, ◌+◌, ◌-◌, ◌^◌, drop}
use Rattle.std.specs.Prelude.{min}
use Rattle.svf_notes.specs.Most.{most_of}
use Rattle.svf_notes.proofs.most.notes_len_bound.Given as goal

abbrev pub invariant-loop-i : goal.invariant-loop-i
invariant-loop-i l =
    min (most_of l.device l.regs l.name l.commands) (2 ^ 64 - 1)
    ≤ min (l.sum + most_of l.device l.regs l.name (drop l.i l.commands)) (2 ^ 64 - 1)
