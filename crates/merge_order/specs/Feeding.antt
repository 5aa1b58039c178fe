-- What each step of a procedure with merges comes to (IEEE 1687-2014, PDL level 0: iMerge): the bit steps of
-- a merge are ready at its end, all others at once.
use Rattle.std.specs.Prelude.{List, [], ◌∷◌, ◌++◌, Option, Some, None}
use Rattle.ij_text.specs.declared.Place.{Place}
use Rattle.net_graph.specs.declared.net.Net.{Net}
use Rattle.net_graph.specs.SeenSteps.{SeenStep}
use Rattle.pdl_expand.specs.Values.{AnAction, Writes, Reads, Applies, Runs, Resets, BeginsMerge, EndsBranch}
use Rattle.pdl_expand.specs.Values.{EndsMerge, AStep}
use Rattle.pdl_targets.specs.Binding.{Queue, Answer, empty, feed as bind, finish}
use Rattle.pdl_targets.specs.Rounds.{Places}
use Rattle.pdl_targets.specs.Targets.{AFault as TargetFault, Found, Is as IsBound, Fails as IsRefused}
use Rattle.merge_order.specs.Merge.{Branch, if_any, merged}

-- why a step isn't taken in
pub data AFault : Type 0 where
  IsMergeInside : Place → AFault
  IsMergeReset : Place → AFault
  Targets : TargetFault → AFault

-- a merge that is begun: its branches that have ended, and the bit steps of the next one
pub record Merging : Type 0 where
  pub branches : List Branch
  pub next : Branch

-- what was taken in: the queue, and the merge that is begun, if one is
pub record State : Type 0 where
  pub queue : Queue
  pub merging : Option Merging

abbrev pub begin : State
begin = record { queue = empty; merging = None }

-- what a step comes to: the state after it, and the bit steps that become ready; or the fault in place of
-- them
pub data Fed : Type 0 where
  Is : State → List SeenStep → Fed
  Fails : AFault → Fed

-- a bit step is ready at once, or waits for the end of the merge
abbrev pub given : Option Merging → Answer → Fed
given None answer = Is (record { queue = answer.queue; merging = None }) (if_any answer.step)
given (Some m) answer = Is (record {
  queue = answer.queue;
  merging = Some (record { branches = m.branches; next = m.next ++ if_any answer.step });
}) []

abbrev pub answered : Option Merging → Found Answer → Fed
answered merging (IsBound answer) = given merging answer
answered merging (IsRefused fault) = Fails (Targets fault)

-- what is written and read before a branch, and at its end, is applied
abbrev pub if_applied : Option TargetFault → State → Fed
if_applied None s = Is s []
if_applied (Some fault) s = Fails (Targets fault)

-- the end of a branch
abbrev pub branch_ended : Merging → Merging
branch_ended m = record { branches = m.branches ++ m.next ∷ []; next = [] }

-- ---- what each step comes to; a mark of a merge that isn't begun comes to nothing

-- no merge is in a merge
abbrev pub begin_merge : Place → State → Fed
begin_merge at s = elim s.merging [
  | None ↦ if_applied (finish s.queue) (record s { merging = Some (record { branches = []; next = [] }) })
  | Some m ↦ Fails (IsMergeInside at)
]

abbrev pub end_branch : State → Fed
end_branch s = elim s.merging [
  | None ↦ Is s []
  | Some m ↦ if_applied (finish s.queue) (record s { merging = Some (branch_ended m) })
]

abbrev pub end_merge : Places → State → Fed
end_merge places s = elim s.merging [
  | None ↦ Is s []
  | Some m ↦ Is (record s { merging = None }) (merged places m.branches)
]

abbrev pub bind_step : Net → Places → State → AStep → Fed
bind_step net places s step = answered s.merging (bind net places s.queue step)

-- no iReset is in a merge
abbrev pub reset : Net → Places → State → AStep → Fed
reset net places s step = elim s.merging [
  | None ↦ answered None (bind net places s.queue step)
  | Some m ↦ Fails (IsMergeReset step.at)
]

abbrev pub feed : Net → Places → State → AStep → Fed
feed net places s step = action step.what
  where
    action : AnAction → Fed
    action BeginsMerge = begin_merge step.at s
    action EndsBranch = end_branch s
    action EndsMerge = end_merge places s
    action Resets = reset net places s step
    action (Writes target value) = bind_step net places s step
    action (Reads target value) = bind_step net places s step
    action Applies = bind_step net places s step
    action (Runs value) = bind_step net places s step
