-- What holds of each bit step that binding gives and stays in merges, holds of each that becomes ready.
use Rattle.std.proofs.Common.{◌≤◌, ℕ, List, [], ◌∷◌, ◌++◌, Option, Some, None}
use Rattle.std.specs.Prelude.{All}
use Rattle.std.proofs.lemmas.List.Elements.{All-nil, All-cons, All-head, All-tail, All-append}
use Rattle.ij_text.specs.declared.Place.{Place}
use Rattle.net_graph.specs.declared.net.Net.{Net}
use Rattle.net_graph.specs.SeenSteps.{SeenStep}
use Rattle.net_graph.specs.Steps.{IsStep}
use Rattle.pdl_expand.specs.Values.{AnAction, Writes, Reads, Applies, Runs, Resets, BeginsMerge, EndsBranch}
use Rattle.pdl_expand.specs.Values.{EndsMerge, AStep}
use Rattle.pdl_targets.specs.Binding.{Answer, Bound, bound, bound_from, feed as bind, finish, with_step}
use Rattle.pdl_targets.specs.Laws.{HasPaths, cycles_of}
use Rattle.pdl_targets.specs.Rounds.{Places}
use Rattle.pdl_targets.specs.Targets.{AFault as TargetFault, Found, Is as IsBound, Fails as IsRefused}
use Rattle.pdl_targets.proofs.Limited.{runs_are_short}
use Rattle.pdl_targets.proofs.Procedures.{applies_have_paths, steps_are_of_the_network}
use Rattle.merge_order.specs.AllSteps.{fed}
use Rattle.merge_order.specs.Feeding.{Fails, Fed, Is, Merging, State, answered, begin, begin_merge}
use Rattle.merge_order.specs.Feeding.{end_branch, end_merge, feed, if_applied, reset}
use Rattle.merge_order.specs.Laws.{FedRunsAreShort, FedStepsAreOfTheNetwork, FedStepsHavePaths}
use Rattle.merge_order.specs.Merge.{Branch, if_any, merged}
use Rattle.merge_order.proofs.Fewer.{merged_runs_are_short}
use Rattle.merge_order.proofs.OfNetwork.{merged_steps_are_of_the_network}
use Rattle.merge_order.proofs.OnePath.{merged_steps_have_paths}

-- what binding gives of an answer, and of the steps after it
abbrev pub bound_on : Net → Places → List AStep → Found Answer → Bound
bound_on net places steps (IsBound answer) = with_step answer.step (bound_from net places answer.queue steps)
bound_on net places steps (IsRefused fault) = record { steps = []; fault = Some fault }

-- what is ready of a step, and of the steps after it
abbrev pub fed_on : Net → Places → List AStep → Fed → List SeenStep
fed_on net places steps (Is next ready) = ready ++ fed net places next steps
fed_on net places steps (Fails fault) = []

-- ---- what holds of each bit step that binding gives

module _ (net : Net) (places : Places) (P : SeenStep → Type 0) (keeps : (bs : List Branch)
    → All (All P) bs → All P (merged places bs)) where
  -- the bit steps that wait for the end of a merge
  abbrev Wait : Option Merging → Type 0
  Wait None = Unit {0}
  Wait (Some m) = All (All P) m.branches × All P m.next

  -- a state, with the steps after it
  abbrev Has : List AStep → State → Type 0
  Has steps s = Wait s.merging × All P (bound_from net places s.queue steps).steps

  abbrev HasFed : List AStep → Fed → Type 0
  HasFed steps (Is next ready) = All P ready × Has steps next
  HasFed steps (Fails fault) = Unit {0}

  of_step : (o : Option SeenStep) (b : Bound) → All P (with_step o b).steps → All P (if_any o) × All P b.steps
  of_step None b h = (All-nil P, h)
  of_step (Some s) b h = (All-cons P s [] (All-head P s b.steps h) (All-nil P), All-tail P s b.steps h)

  after_bind : (steps : List AStep) (m : Option Merging) (x : Found Answer) → Wait m
      → All P (bound_on net places steps x).steps → HasFed steps (answered m x)
  after_bind steps None (IsBound answer) w h =
      let parts = of_step answer.step (bound_from net places answer.queue steps) h in (parts.0, (tt, parts.1))
  after_bind steps (Some m) (IsBound answer) w h =
      let parts = of_step answer.step (bound_from net places answer.queue steps) h in
      (All-nil P, ((w.0, All-append P m.next (if_any answer.step) w.1 parts.0), parts.1))
  after_bind steps m (IsRefused fault) w h = tt

  after_end : (steps : List AStep) (o : Option TargetFault) (s : State)
      → Has steps s → HasFed steps (if_applied o s)
  after_end steps None s h = (All-nil P, h)
  after_end steps (Some fault) s h = tt

  after_action : (steps : List AStep) (at : Place) (node : ℕ) (s : State) (d : AnAction) → Wait s.merging
      → All P (bound_on net places steps
      (bind net places s.queue (record { at = at; node = node; what = d }))).steps
      → HasFed steps (feed net places s (record { at = at; node = node; what = d }))
  after_action steps at node s (Writes target value) w h = after_bind steps s.merging
      (bind net places s.queue (record { at = at; node = node; what = Writes target value })) w h
  after_action steps at node s (Reads target value) w h = after_bind steps s.merging
      (bind net places s.queue (record { at = at; node = node; what = Reads target value })) w h
  after_action steps at node s Applies w h = after_bind steps s.merging
      (bind net places s.queue (record { at = at; node = node; what = Applies })) w h
  after_action steps at node s (Runs value) w h = after_bind steps s.merging
      (bind net places s.queue (record { at = at; node = node; what = Runs value })) w h
  after_action steps at node s Resets w h = in_merge s.merging w
    where
      in_merge : (m : Option Merging) → Wait m → HasFed steps (reset net places
          (record { queue = s.queue; merging = m }) (record { at = at; node = node; what = Resets }))
      in_merge None v = after_bind steps None
          (bind net places s.queue (record { at = at; node = node; what = Resets })) tt h
      in_merge (Some m) v = tt
  after_action steps at node s BeginsMerge w h = in_merge s.merging w
    where
      in_merge : (m : Option Merging) → Wait m
          → HasFed steps (begin_merge at (record { queue = s.queue; merging = m }))
      in_merge None v = after_end steps (finish s.queue) (record {
        queue = s.queue;
        merging = Some (record { branches = []; next = [] });
      }) ((All-nil (All P), All-nil P), h)
      in_merge (Some m) v = tt
  after_action steps at node s EndsBranch w h = in_merge s.merging w
    where
      in_merge : (m : Option Merging) → Wait m
          → HasFed steps (end_branch (record { queue = s.queue; merging = m }))
      in_merge None v = (All-nil P, (tt, h))
      in_merge (Some m) v =
          after_end steps (finish s.queue) (record {
            queue = s.queue;
            merging = Some (record { branches = m.branches ++ m.next ∷ []; next = [] });
          }) (
            (
              All-append (All P) m.branches (m.next ∷ []) v.0
                  (All-cons (All P) m.next [] v.1 (All-nil (All P))),
              All-nil P,
            ),
            h,
          )
  after_action steps at node s EndsMerge w h = in_merge s.merging w
    where
      in_merge : (m : Option Merging) → Wait m
          → HasFed steps (end_merge places (record { queue = s.queue; merging = m }))
      in_merge None v = (All-nil P, (tt, h))
      in_merge (Some m) v = (keeps m.branches v.0, (tt, h))

  all_have : (steps : List AStep) (s : State) → Has steps s → All P (fed net places s steps)
  all_have [] s h = All-nil P
  all_have (step ∷ steps) s h = by_fed (λ t k. all_have steps t k) (feed net places s step)
      (after_action steps step.at step.node s step.what h.0 h.1)
    where
      by_fed : ((t : State) → Has steps t → All P (fed net places t steps)) → (x : Fed)
          → HasFed steps x → All P (fed_on net places steps x)
      by_fed ih (Is next ready) k = All-append P ready (fed net places next steps) k.0 (ih next k.1)
      by_fed ih (Fails fault) k = All-nil P

  from_begin : (steps : List AStep) → All P (bound net places steps).steps
      → All P (fed net places begin steps)
  unfolding bound
  from_begin steps h = all_have steps begin (tt, h)

pub fed_steps_are_of_the_network : FedStepsAreOfTheNetwork
fed_steps_are_of_the_network net places steps well =
    from_begin net places (IsStep net) (merged_steps_are_of_the_network net places) steps
    (steps_are_of_the_network net places steps well)

pub fed_steps_have_paths : FedStepsHavePaths
fed_steps_have_paths net places steps = from_begin net places (HasPaths places)
    (merged_steps_have_paths places) steps (applies_have_paths net places steps)

pub fed_runs_are_short : FedRunsAreShort
fed_runs_are_short net places steps =
    from_begin net places (λ s. cycles_of (Some s) ≤ 1000000)
    (λ bs h. merged_runs_are_short places bs 1000000 h) steps (runs_are_short net places steps)
