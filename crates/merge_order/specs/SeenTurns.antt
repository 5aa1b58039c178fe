-- Branches by their bit steps, without where these lie in memory.
use Rattle.std.specs.Prelude.{List, map}
use Rattle.std.specs.Borrow.{Bor}
use Rattle.ij_bits.specs.Room.{Listed}
use Rattle.net_graph.specs.SeenSteps.{SeenStep, seen_step}
use Rattle.net_graph.specs.declared.step.BitStep.{BitStep}
use Rattle.merge_order.specs.Merge.{Branch}

abbrev pub seen_steps : List BitStep → Branch
seen_steps steps = map seen_step steps

-- the bit steps of a turn
abbrev pub seen_heads : List (Bor BitStep) → List SeenStep
seen_heads heads = map (λ s. seen_step s.now) heads

abbrev pub seen_slices : List (Bor (List BitStep)) → List Branch
seen_slices branches = map (λ b. seen_steps b.now) branches

abbrev pub seen_lists : List (Listed BitStep) → List Branch
seen_lists branches = map (λ b. seen_steps b.items) branches
