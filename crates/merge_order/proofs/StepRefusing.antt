-- What is left where the expansion is refused, and where it ends.
use Rattle.std.proofs.Common.{◌≡◌, [], ◌++◌, List, Some, ap, ◌∙◌}
use Rattle.net_graph.specs.SeenSteps.{SeenStep}
use Rattle.pdl_expand.specs.Code.{Left}
use Rattle.pdl_expand.specs.Expansion.{AFault, IsNoProc, IsArgCount, IsTooManySteps, IsNoName, IsCallDepth}
use Rattle.pdl_expand.specs.SeenSteps.{RefusesLeft, only_fault}
use Rattle.pdl_expand.specs.declared.fault.ExpandFault.{ExpandFault}
use Rattle.pdl_expand.specs.declared.fault.ExpandFault.TheVariants as expand
use Rattle.merge_order.specs.SeenFeeder.{AFeeder}
use Rattle.merge_order.specs.BitSteps.{BitStepsOf, Expands}
use Rattle.merge_order.specs.Seen.{EndsIn, Refuses, of_expand}
use Rattle.merge_order.specs.SeenProgress.{bits_after}
use Rattle.merge_order.specs.declared.step_fault.StepFault.{StepFault}
use Rattle.merge_order.specs.declared.step_fault.StepFault.TheVariants as fault

-- where no bit step is ready
module _ (f : AFeeder) (none : f.ready ≡ []) where
  only : (left : Left) (e : AFault) → left ≡ only_fault e
      → ((bits_after f left).steps ≡ []) × ((bits_after f left).fault ≡ Some (Expands e))
  only left e h = (
    ap (λ (l : Left). (bits_after f l).steps) h ∙ ap (λ (l : List SeenStep). l ++ []) none,
    ap (λ (l : Left). (bits_after f l).fault) h,
  )

  pub refused_left : (left : Left) (e : ExpandFault) → RefusesLeft left e
      → Refuses (bits_after f left) (of_expand e)
  refused_left left expand.OutOfMemory h = tt
  refused_left left (expand.NoProc at name) h = only left (IsNoProc at name.items) h
  refused_left left (expand.ArgCount at) h = only left (IsArgCount at) h
  refused_left left (expand.TooManySteps at) h = only left (IsTooManySteps at) h
  refused_left left (expand.NoName at name) h = only left (IsNoName at name.items) h
  refused_left left (expand.CallDepth at) h = only left (IsCallDepth at) h

-- a procedure that is refused ends in the fault
pub refused_ends : (left : BitStepsOf) (e : StepFault) → Refuses left e → EndsIn left.fault e
refused_ends left fault.OutOfMemory h = tt
refused_ends left (fault.Expand e) h = h.1
refused_ends left (fault.Feed e) h = h.1
