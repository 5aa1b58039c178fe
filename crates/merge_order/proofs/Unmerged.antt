-- A procedure without merges.
use Rattle.std.proofs.Common.{◌≡◌, ℕ, List, [], ◌∷◌, ◌++◌, Option, Some, None, refl, ap, ◌∙◌}
use Rattle.ij_text.specs.declared.Place.{Place}
use Rattle.net_graph.specs.declared.net.Net.{Net}
use Rattle.net_graph.specs.SeenSteps.{SeenStep}
use Rattle.pdl_expand.specs.Values.{AnAction, Writes, Reads, Applies, Runs, Resets, BeginsMerge, EndsBranch}
use Rattle.pdl_expand.specs.Values.{EndsMerge, AStep}
use Rattle.pdl_targets.specs.Binding.{Queue, Answer, Bound, bound, bound_from, empty, feed as bind, with_step}
use Rattle.pdl_targets.specs.Rounds.{Places}
use Rattle.pdl_targets.specs.Targets.{Found, Is as IsBound, Fails as IsRefused}
use Rattle.merge_order.specs.AllSteps.{fed}
use Rattle.merge_order.specs.Feeding.{State, answered, feed}
use Rattle.merge_order.specs.Laws.{HaveNoMerge, IsNoMark, OthersAreBound}
use Rattle.merge_order.specs.Merge.{if_any}
use Rattle.merge_order.proofs.FedKept.{bound_on, fed_on}

with_same : (o : Option SeenStep) (b : Bound) → if_any o ++ b.steps ≡ (with_step o b).steps
with_same None b = refl
with_same (Some s) b = refl

module _ (net : Net) (places : Places) where
  abbrev outside : Queue → State
  outside q = record { queue = q; merging = None }

  as_bound : (at : Place) (node : ℕ) (q : Queue) (d : AnAction) → IsNoMark d
      → feed net places (outside q) (record { at = at; node = node; what = d })
      ≡ answered None (bind net places q (record { at = at; node = node; what = d }))
  as_bound at node q (Writes target value) h = refl
  as_bound at node q (Reads target value) h = refl
  as_bound at node q Applies h = refl
  as_bound at node q (Runs value) h = refl
  as_bound at node q Resets h = refl
  as_bound at node q BeginsMerge h = absurd h
  as_bound at node q EndsBranch h = absurd h
  as_bound at node q EndsMerge h = absurd h

  all_bound : (steps : List AStep) (q : Queue) → HaveNoMerge steps
      → fed net places (outside q) steps ≡ (bound_from net places q steps).steps
  all_bound [] q h = refl
  all_bound (s ∷ ss) q h =
      ap (fed_on net places ss) (as_bound s.at s.node q s.what h.0)
      ∙ by_answer (λ p. all_bound ss p h.1) (bind net places q s)
    where
      by_answer : ((p : Queue) → fed net places (outside p) ss ≡ (bound_from net places p ss).steps)
          → (x : Found Answer) → fed_on net places ss (answered None x) ≡ (bound_on net places ss x).steps
      by_answer ih (IsBound answer) = ap (λ l. if_any answer.step ++ l) (ih answer.queue)
          ∙ with_same answer.step (bound_from net places answer.queue ss)
      by_answer ih (IsRefused fault) = refl

pub others_are_bound : OthersAreBound
unfolding bound
others_are_bound net places steps h = all_bound net places steps empty h
