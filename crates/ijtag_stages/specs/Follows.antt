-- How the code goes: a call that follows work.
use Rattle.std.specs.Prelude.{◌≡◌, Option, Some, Result, Ok, Err}
use Rattle.ijtag_stages.specs.Refusals.{Part, Refusal}
use Rattle.ijtag_stages.specs.Seen.{seen_refusal}
use Rattle.ijtag_stages.specs.declared.refusal.StageFault.{StageFault}
use Rattle.ijtag_stages.specs.declared.refusal.StageFault.TheVariants.{Refused as RefusedStage}
use Rattle.ijtag_stages.specs.declared.refusal.StageFault.TheVariants.{OutOfMemory as MemoryStage}

-- a stage's fault is what the work refuses for, or want of memory
abbrev pub IsFault : {A : Type 0} → Part A → StageFault → Type 0
IsFault work (RefusedStage refusal) = work.refuses (seen_refusal refusal)
IsFault work MemoryStage = Unit {0}

-- a stage gives what the work gives, or refuses as it does
abbrev pub Follows : {A B : Type 0} → Part B → (A → B) → Result A StageFault → Type 0
Follows work view (Ok a) = work.gives (view a)
Follows work view (Err fault) = IsFault work fault

-- a fault tells this refusal, where there is one, unless memory ran out
abbrev pub IsToldAs : Option Refusal → StageFault → Type 0
IsToldAs refusal (RefusedStage told) = refusal ≡ Some (seen_refusal told)
IsToldAs refusal MemoryStage = Unit {0}
