-- The bit steps of a whole procedure.
use Rattle.std.proofs.Common.{◌≡◌, ◌≤◌, ◌+◌, ℕ, List, [], ◌∷◌, ◌++◌, length, Option, Some, refl, sym, ap, ◌∙◌}
use Rattle.std.proofs.Common.{subst, arith}
use Rattle.std.specs.Prelude.{All}
use Rattle.net_graph.specs.declared.net.Net.{Net}
use Rattle.net_graph.specs.SeenSteps.{SeenStep}
use Rattle.net_graph.specs.Steps.{IsStep}
use Rattle.net_tree.specs.Form.{Items}
use Rattle.pdl_parser.specs.Values.{AProc}
use Rattle.pdl_expand.specs.Expansion.{AFault as ExpandAFault, expansion}
use Rattle.pdl_expand.specs.Values.{AStep, cells_of}
use Rattle.pdl_expand.specs.Code.{Left}
use Rattle.pdl_expand.specs.Working.{left_in}
use Rattle.pdl_expand.proofs.Few.{steps_are_few}
use Rattle.pdl_targets.specs.Laws.{HasPaths, rounds_in, cycles_in, cycles_of}
use Rattle.pdl_targets.specs.Rounds.{Places}
use Rattle.pdl_targets.specs.SeenPlaces.{places_in}
use Rattle.merge_order.specs.AllSteps.{fed}
use Rattle.merge_order.specs.Feeding.{State, Fed, Is, Fails, begin, feed}
use Rattle.merge_order.specs.SeenFeeder.{AFeeder}
use Rattle.merge_order.proofs.FedFewer.{fed_steps_are_few, fed_rounds_are_few, fed_cycles_are_few}
use Rattle.merge_order.proofs.FedKept.{fed_on, fed_steps_are_of_the_network, fed_steps_have_paths}
use Rattle.merge_order.proofs.FedKept.{fed_runs_are_short}
use Rattle.merge_order.proofs.Unmerged.{others_are_bound}
use Rattle.merge_order.specs.BitSteps.{BitStepsOf, answered, bits_from, bit_steps}
use Rattle.merge_order.specs.SeenProgress.{bits_after}
use Rattle.merge_order.specs.StepLaws.{StepsAreFed, StepsAreBound, BitStepsAreOfTheNetwork, BitStepsHavePaths}
use Rattle.merge_order.specs.StepLaws.{BitStepsAreFew, BitRoundsAreFew, BitCyclesAreFew, BitRunsAreShort}

module _ (net : Net) (places : Places) (fault : Option ExpandAFault) where
  -- the fault after the steps changes none of them
  same : (steps : List AStep) (s : State)
      → (bits_from net places s steps fault).steps ≡ fed net places s steps
  same [] s = refl
  same (step ∷ steps) s = by_fed (λ t. same steps t) (feed net places s step)
    where
      by_fed : ((t : State) → (bits_from net places t steps fault).steps ≡ fed net places t steps) → (x : Fed)
          → (answered x (λ t. bits_from net places t steps fault)).steps ≡ fed_on net places steps x
      by_fed ih (Is next ready) = ap (λ l. ready ++ l) (ih next)
      by_fed ih (Fails refused) = refl

module _ (procs : List AProc) (net : Net) (form : Items) (name : List ℕ) where
  abbrev all_steps : List AStep
  all_steps = (expansion procs (cells_of net) name).steps

  are_fed : (bit_steps procs net form name).steps ≡ fed net (places_in form) begin all_steps
  unfolding bit_steps
  are_fed = same net (places_in form) (expansion procs (cells_of net) name).fault all_steps begin

  -- what holds of what becomes ready
  of_fed : (P : List SeenStep → Type 0) → P (fed net (places_in form) begin all_steps)
      → P (bit_steps procs net form name).steps
  of_fed P h = subst P (sym are_fed) h

pub steps_are_fed : StepsAreFed
steps_are_fed procs net form name = are_fed procs net form name

pub steps_are_bound : StepsAreBound
steps_are_bound procs net form name h =
    are_fed procs net form name ∙ others_are_bound net (places_in form) (all_steps procs net form name) h

pub bits_are_of_the_network : BitStepsAreOfTheNetwork
bits_are_of_the_network procs net form name well = of_fed procs net form name (All (IsStep net))
    (fed_steps_are_of_the_network net (places_in form) (all_steps procs net form name) well)

pub bits_have_paths : BitStepsHavePaths
bits_have_paths procs net form name = of_fed procs net form name (All (HasPaths (places_in form)))
    (fed_steps_have_paths net (places_in form) (all_steps procs net form name))

pub bits_are_few : BitStepsAreFew
bits_are_few procs net form name =
    let bits = of_fed procs net form name (λ l. length l ≤ length (all_steps procs net form name))
    (fed_steps_are_few net (places_in form) (all_steps procs net form name)) in
    let steps = steps_are_few procs (cells_of net) name in
    omega (arith, bits, steps)

pub bit_rounds_are_few : BitRoundsAreFew
bit_rounds_are_few procs net form name = of_fed procs net form name (λ l. rounds_in l ≤ 4096)
    (fed_rounds_are_few net (places_in form) (all_steps procs net form name))

pub bit_cycles_are_few : BitCyclesAreFew
bit_cycles_are_few procs net form name = of_fed procs net form name (λ l. cycles_in l ≤ 4000000)
    (fed_cycles_are_few net (places_in form) (all_steps procs net form name))

pub bit_runs_are_short : BitRunsAreShort
bit_runs_are_short procs net form name = of_fed procs net form name (All (λ s. cycles_of (Some s) ≤ 1000000))
    (fed_runs_are_short net (places_in form) (all_steps procs net form name))

-- ---- a procedure at its begin

pub begins_few : (left : Left) (f : AFeeder) (procs : List AProc) (net : Net) (form : Items) (name : List ℕ)
    → left ≡ left_in (expansion procs (cells_of net) name)
    → f ≡ record { net = net; form = form; state = begin; ready = [] }
    → f.state.queue.asked + length left.steps ≤ 100000
begins_few left f procs net form name e h =
    let few = steps_are_few procs (cells_of net) name in
    let asked = ap (λ (x : AFeeder). x.state.queue.asked) h in
    let long = ap (λ (l : Left). length l.steps) e in
    omega (arith, few, asked, long)

pub begins : (left : Left) (f : AFeeder) (procs : List AProc) (net : Net) (form : Items) (name : List ℕ)
    → left ≡ left_in (expansion procs (cells_of net) name)
    → f ≡ record { net = net; form = form; state = begin; ready = [] }
    → bits_after f left ≡ bit_steps procs net form name
unfolding bit_steps
begins left f procs net form name e h =
    ap (bits_after f) e ∙ ap (λ (x : AFeeder). bits_after x (left_in (expansion procs (cells_of net) name))) h
