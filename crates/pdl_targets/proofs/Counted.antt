-- Rounds of steps, counted.
use Rattle.std.proofs.Common.{◌≡◌, ◌+◌, ℕ, List, ◌∷◌, refl}
use Rattle.net_graph.specs.SeenSteps.{SeenStep, Apply, Run, Reset}
use Rattle.pdl_targets.specs.Laws.{round_count, rounds_in}

pub rounds_first : (s : SeenStep) (later : List SeenStep)
    → rounds_in (s ∷ later) ≡ round_count s + rounds_in later
rounds_first (Apply rounds) later = refl
rounds_first (Run n) later = refl
rounds_first Reset later = refl
