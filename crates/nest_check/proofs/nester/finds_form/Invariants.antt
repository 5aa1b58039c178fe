use Rattle.std.proofs.Common.{◌≡◌, ◌+◌, ◌-◌, length}
use Rattle.nest_check.specs.Fanout.{sources}
use Rattle.nest_check.specs.Nesting.{run, form_marks}
use Rattle.nest_check.specs.Seen.{seen, IsGoing}
use Rattle.nest_check.proofs.nester.finds_form.Given as goal

abbrev pub invariant-loop-turn : goal.invariant-loop-turn
invariant-loop-turn l =
    IsGoing l.net (l._turn + 1) (seen l.nester)
    × (run l.net (length (sources l.net) + length l.net.muxes.items - l._turn) (seen l.nester)
    ≡ form_marks l.net)
