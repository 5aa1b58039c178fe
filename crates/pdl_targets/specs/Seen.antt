-- What the calls answer, as the definitions say it.
use Rattle.std.specs.Prelude.{◌≡◌, Option, Some, None, IsSome, Result, Ok, Err}
use Rattle.std.specs.Option.{IfSome}
use Rattle.pdl_targets.specs.declared.fault.TargetFault.{TargetFault}
use Rattle.pdl_targets.specs.declared.fault.TargetFault.TheVariants as fault
use Rattle.pdl_targets.specs.Targets.{AFault, IsNoTarget, IsNoValue, IsValueWide, IsNotWritable}
use Rattle.pdl_targets.specs.Targets.{IsNotReadable, IsSelectTarget, IsBadCount, IsLimit, IsUnapplied, Found}
use Rattle.pdl_targets.specs.Targets.{Is, Fails}

-- the fault that a refusal says, unless memory ran out
abbrev pub fault_of : TargetFault → Option AFault
fault_of fault.OutOfMemory = None
fault_of (fault.NoTarget at) = Some (IsNoTarget at)
fault_of (fault.NoValue at) = Some (IsNoValue at)
fault_of (fault.ValueWide at) = Some (IsValueWide at)
fault_of (fault.NotWritable at) = Some (IsNotWritable at)
fault_of (fault.NotReadable at) = Some (IsNotReadable at)
fault_of (fault.SelectTarget at bit) = Some (IsSelectTarget at bit)
fault_of (fault.BadCount at) = Some (IsBadCount at)
fault_of (fault.Limit at which number) = Some (IsLimit at which number)
fault_of (fault.Unapplied at) = Some (IsUnapplied at)

-- a refusal says the fault that comes in place of a value, unless memory ran out
pub record Refuses {A : Type 0} (found : Found A) (e : TargetFault) : Type 0 where
  pub says : IfSome (fault_of e) (λ f. found ≡ Fails f)

-- an answer is the value that is found, or says the fault in place of it, unless memory ran out
abbrev pub Finds : {A B : Type 0} → (B → A) → Found A → Result B TargetFault → Type 0
Finds view found (Ok b) = found ≡ Is (view b)
Finds view found (Err e) = Refuses found e

-- an end with this fault; memory isn't wanting there
pub record EndsWith (fault : Option AFault) (e : TargetFault) : Type 0 where
  pub there : IsSome fault
  pub says : fault ≡ fault_of e

-- an end without a fault, or with the fault that is said
abbrev pub Finishes : Option AFault → Result (Unit {0}) TargetFault → Type 0
Finishes fault (Ok u) = fault ≡ None
Finishes fault (Err e) = EndsWith fault e
