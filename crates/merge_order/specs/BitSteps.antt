-- The bit steps of a procedure of a network (IEEE 1687-2014, PDL level 0): its steps, each bound to register
-- bits.
use Rattle.std.specs.Prelude.{ℕ, List, [], ◌∷◌, ◌++◌, Option, Some, None}
use Rattle.std.specs.Option.{option_map}
use Rattle.net_graph.specs.declared.net.Net.{Net}
use Rattle.net_graph.specs.SeenSteps.{SeenStep}
use Rattle.net_tree.specs.Form.{Items}
use Rattle.pdl_parser.specs.Values.{AProc}
use Rattle.pdl_expand.specs.Values.{AStep, cells_of}
use Rattle.pdl_expand.specs.Code.{Left}
use Rattle.pdl_expand.specs.Working.{left_in}
use Rattle.pdl_expand.specs.Expansion.{AFault as ExpandFault, expansion}
use Rattle.pdl_targets.specs.Binding.{finish}
use Rattle.pdl_targets.specs.Rounds.{Places}
use Rattle.pdl_targets.specs.SeenPlaces.{places_in}
use Rattle.merge_order.specs.Feeding.{AFault as FeedFault, Targets as IsTarget, State, Fed, Is, Fails, begin}
use Rattle.merge_order.specs.Feeding.{feed}

-- why a procedure has no further bit step
pub data AFault : Type 0 where
  Expands : ExpandFault → AFault
  Feeds : FeedFault → AFault

-- bit steps, and the fault in which they end, if they do
pub record BitStepsOf : Type 0 where
  pub steps : List SeenStep
  pub fault : Option AFault

abbrev pub ends : Option AFault → BitStepsOf
ends fault = record { steps = []; fault = fault }

abbrev pub nothing_left : BitStepsOf
nothing_left = ends None

-- a bit step, and what is left after it
abbrev pub given_first_bit : SeenStep → BitStepsOf → BitStepsOf
given_first_bit s left = record { steps = s ∷ left.steps; fault = left.fault }

-- the bit steps that became ready, before those of the later steps
abbrev pub with_ready : List SeenStep → BitStepsOf → BitStepsOf
with_ready ready b = record { steps = ready ++ b.steps; fault = b.fault }

-- The end after the last step: in the fault of the expansion, if it has one. Only a procedure that comes to
-- its end is asked whether an iApply is missing.
abbrev pub end_of : Option ExpandFault → State → Option AFault
end_of None s = option_map (λ e. Feeds (IsTarget e)) (finish s.queue)
end_of (Some fault) s = Some (Expands fault)

-- what becomes ready of a step, and those after its state; or the fault in place of it
abbrev pub answered : Fed → (State → BitStepsOf) → BitStepsOf
answered (Is next ready) more = with_ready ready (more next)
answered (Fails fault) more = ends (Some (Feeds fault))

-- steps taken in one after the other after a state: up to the first that is refused, or up to the end
abbrev pub bits_from : Net → Places → State → List AStep → Option ExpandFault → BitStepsOf
bits_from net places s [] fault = ends (end_of fault s)
bits_from net places s (step ∷ steps) fault =
    answered (feed net places s step) (λ t. bits_from net places t steps fault)

-- the bit steps of what is left of a procedure
abbrev pub bits_of : Net → Places → State → Left → BitStepsOf
bits_of net places s left = bits_from net places s left.steps left.fault

-- the bit steps of a procedure of the top module, up to its end or to its first fault
unfoldable pub bit_steps : List AProc → Net → Items → List ℕ → BitStepsOf
bit_steps procs net form name =
    bits_of net (places_in form) begin (left_in (expansion procs (cells_of net) name))
