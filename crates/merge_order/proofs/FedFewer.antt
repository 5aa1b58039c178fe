-- No more becomes ready than binding gives.
use Rattle.std.proofs.Common.{◌≡◌, ◌≤◌, ◌+◌, ℕ, List, [], ◌∷◌, ◌++◌, length, Option, Some, None, refl, arith}
use Rattle.std.proofs.lemmas.List.{length-append}
use Rattle.ij_text.specs.declared.Place.{Place}
use Rattle.net_graph.specs.declared.net.Net.{Net}
use Rattle.net_graph.specs.SeenSteps.{SeenStep}
use Rattle.pdl_expand.specs.Values.{AnAction, Writes, Reads, Applies, Runs, Resets, BeginsMerge, EndsBranch}
use Rattle.pdl_expand.specs.Values.{EndsMerge, AStep}
use Rattle.pdl_targets.specs.Binding.{Queue, Answer, Bound, bound, bound_from, empty, feed as bind, finish}
use Rattle.pdl_targets.specs.Binding.{with_step}
use Rattle.pdl_targets.specs.Laws.{cycles_in, rounds_in}
use Rattle.pdl_targets.specs.Rounds.{Places}
use Rattle.pdl_targets.specs.Targets.{AFault as TargetFault, Found, Is as IsBound, Fails as IsRefused}
use Rattle.pdl_targets.proofs.Limited.{rounds_are_few, cycles_are_few}
use Rattle.merge_order.specs.AllSteps.{fed}
use Rattle.merge_order.specs.Feeding.{Fails, Fed, Is, Merging, State, answered, begin, begin_merge}
use Rattle.merge_order.specs.Feeding.{end_branch, end_merge, feed, if_applied, reset}
use Rattle.merge_order.specs.Laws.{FedCyclesAreFew, FedRoundsAreFew, FedStepsAreFew, in_all}
use Rattle.merge_order.specs.Merge.{Branch, if_any, merged}
use Rattle.merge_order.proofs.Fewer.{merged_steps_are_few, merged_rounds_are_few, merged_cycles_are_few}
use Rattle.merge_order.proofs.Fewer.{rounds_both, cycles_both}
use Rattle.merge_order.proofs.FedKept.{bound_on, fed_on}

module _ (net : Net) (places : Places) (count : Branch → ℕ) (none : count [] ≡ 0) (both : (a b : Branch)
    → count (a ++ b) ≡ count a + count b) (less : (bs : List Branch)
    → count (merged places bs) ≤ in_all count bs) where
  abbrev waiting : Option Merging → ℕ
  waiting None = 0
  waiting (Some m) = in_all count m.branches + count m.next

  abbrev rest : List AStep → State → ℕ
  rest steps s = waiting s.merging + count (bound_from net places s.queue steps).steps

  abbrev AtMost : List AStep → ℕ → Fed → Type 0
  AtMost steps n (Is next ready) = count ready + rest steps next ≤ n
  AtMost steps n (Fails fault) = Unit {0}

  with_one : (o : Option SeenStep) (b : Bound)
      → count (with_step o b).steps ≡ count (if_any o) + count b.steps
  with_one None b = omega (arith, none)
  with_one (Some s) b = both (s ∷ []) b.steps

  one_more : (bs : List Branch) (b : Branch) → in_all count (bs ++ b ∷ []) ≡ in_all count bs + count b
  one_more [] b = omega arith
  one_more (a ∷ bs) b = let ih = one_more bs b in omega (arith, ih)

  less_bound : (steps : List AStep) (m : Option Merging) (x : Found Answer)
      → AtMost steps (waiting m + count (bound_on net places steps x).steps) (answered m x)
  less_bound steps None (IsBound answer) =
      let one = with_one answer.step (bound_from net places answer.queue steps) in omega (arith, one)
  less_bound steps (Some m) (IsBound answer) =
      let one = with_one answer.step (bound_from net places answer.queue steps) in
      let two = both m.next (if_any answer.step) in
      omega (arith, none, one, two)
  less_bound steps m (IsRefused fault) = tt

  less_ended : (steps : List AStep) (o : Option TargetFault) (s : State) (n : ℕ)
      → rest steps s ≤ n → AtMost steps n (if_applied o s)
  less_ended steps None s n h = omega (arith, none, h)
  less_ended steps (Some fault) s n h = tt

  less_done : (steps : List AStep) (at : Place) (node : ℕ) (s : State) (d : AnAction)
      → AtMost steps (waiting s.merging + count (bound_on net places steps
      (bind net places s.queue (record { at = at; node = node; what = d }))).steps)
      (feed net places s (record { at = at; node = node; what = d }))
  less_done steps at node s (Writes target value) = less_bound steps s.merging
      (bind net places s.queue (record { at = at; node = node; what = Writes target value }))
  less_done steps at node s (Reads target value) = less_bound steps s.merging
      (bind net places s.queue (record { at = at; node = node; what = Reads target value }))
  less_done steps at node s Applies =
      less_bound steps s.merging (bind net places s.queue (record { at = at; node = node; what = Applies }))
  less_done steps at node s (Runs value) = less_bound steps s.merging
      (bind net places s.queue (record { at = at; node = node; what = Runs value }))
  less_done steps at node s Resets = in_merge s.merging
    where
      in_merge : (m : Option Merging)
          → AtMost steps (waiting m + count (bound_on net places steps (bind net places s.queue
          (record { at = at; node = node; what = Resets }))).steps) (reset net places
          (record { queue = s.queue; merging = m }) (record { at = at; node = node; what = Resets }))
      in_merge None = less_bound steps None
          (bind net places s.queue (record { at = at; node = node; what = Resets }))
      in_merge (Some m) = tt
  less_done steps at node s BeginsMerge = in_merge s.merging
    where
      in_merge : (m : Option Merging)
          → AtMost steps (waiting m + count (bound_from net places s.queue steps).steps)
          (begin_merge at (record { queue = s.queue; merging = m }))
      in_merge None = less_ended steps (finish s.queue) (record
          { queue = s.queue; merging = Some (record { branches = []; next = [] }) }) _ (omega (arith, none))
      in_merge (Some m) = tt
  less_done steps at node s EndsBranch = in_merge s.merging
    where
      in_merge : (m : Option Merging)
          → AtMost steps (waiting m + count (bound_from net places s.queue steps).steps)
          (end_branch (record { queue = s.queue; merging = m }))
      in_merge None = omega (arith, none)
      in_merge (Some m) =
          let one = one_more m.branches m.next in
          less_ended steps (finish s.queue) (record {
            queue = s.queue;
            merging = Some
                (record { branches = m.branches ++ m.next ∷ []; next = [] });
          }) _ (omega (arith, none, one))
  less_done steps at node s EndsMerge = in_merge s.merging
    where
      in_merge : (m : Option Merging)
          → AtMost steps (waiting m + count (bound_from net places s.queue steps).steps)
          (end_merge places (record { queue = s.queue; merging = m }))
      in_merge None = omega (arith, none)
      in_merge (Some m) = let fewer = less m.branches in omega (arith, fewer)

  all_less : (steps : List AStep) (s : State) → count (fed net places s steps) ≤ rest steps s
  all_less [] s = omega (arith, none)
  all_less (step ∷ steps) s =
      by_fed (λ t. all_less steps t) (feed net places s step) (less_done steps step.at step.node s step.what)
    where
      by_fed : ((t : State) → count (fed net places t steps) ≤ rest steps t) → (x : Fed)
          → AtMost steps (rest (step ∷ steps) s) x → count (fed_on net places steps x) ≤ rest (step ∷ steps) s
      by_fed ih (Is next ready) k =
          let more = ih next in
          let two = both ready (fed net places next steps) in
          omega (arith, k, more, two)
      by_fed ih (Fails fault) k = omega (arith, none)

  less_begun : (steps : List AStep)
      → count (fed net places begin steps) ≤ count (bound net places steps).steps
  unfolding bound
  less_begun steps = let all = all_less steps begin in omega (arith, all)

-- binding gives one bit step of a step at most
bound_few : (net : Net) (places : Places) (steps : List AStep)
    → length (bound net places steps).steps ≤ length steps
unfolding bound
bound_few net places steps = few steps empty
  where
    with_few : (o : Option SeenStep) (b : Bound) (n : ℕ)
        → length b.steps ≤ n → length (with_step o b).steps ≤ n + 1
    with_few None b n h = omega (arith, h)
    with_few (Some s) b n h = omega (arith, h)

    few : (steps : List AStep) (q : Queue) → length (bound_from net places q steps).steps ≤ length steps
    few [] q = omega arith
    few (s ∷ ss) q = by_answer (λ p. few ss p) (bind net places q s)
      where
        by_answer : ((p : Queue) → length (bound_from net places p ss).steps ≤ length ss) → (x : Found Answer)
            → length (bound_on net places ss x).steps ≤ length (s ∷ ss)
        by_answer ih (IsBound answer) =
            let more = with_few answer.step (bound_from net places answer.queue ss)
            (length ss) (ih answer.queue) in
            omega (arith, more)
        by_answer ih (IsRefused fault) = omega arith

pub fed_steps_are_few : FedStepsAreFew
fed_steps_are_few net places steps =
    let less = less_begun net places (λ b. length b) refl
    (λ a b. length-append a b) (merged_steps_are_few places) steps in
    let few = bound_few net places steps in
    omega (arith, less, few)

pub fed_rounds_are_few : FedRoundsAreFew
fed_rounds_are_few net places steps =
    let less = less_begun net places rounds_in refl rounds_both (merged_rounds_are_few places) steps in
    let few = rounds_are_few net places steps in
    omega (arith, less, few)

pub fed_cycles_are_few : FedCyclesAreFew
fed_cycles_are_few net places steps =
    let less = less_begun net places cycles_in refl cycles_both (merged_cycles_are_few places) steps in
    let few = cycles_are_few net places steps in
    omega (arith, less, few)
