-- What all steps of a procedure with merges come to (IEEE 1687-2014, PDL level 0: iMerge).
use Rattle.std.specs.Prelude.{List, [], ◌∷◌, ◌++◌}
use Rattle.net_graph.specs.declared.net.Net.{Net}
use Rattle.net_graph.specs.SeenSteps.{SeenStep}
use Rattle.pdl_expand.specs.Values.{AStep}
use Rattle.pdl_targets.specs.Rounds.{Places}
use Rattle.merge_order.specs.Feeding.{State, Is, Fails, feed}

-- the bit steps that become ready from a state on, up to the first fault
abbrev pub fed : Net → Places → State → List AStep → List SeenStep
fed net places s [] = []
fed net places s (step ∷ steps) =
    elim (feed net places s step) [ Is next ready ↦ ready ++ fed net places next steps | Fails fault ↦ [] ]
