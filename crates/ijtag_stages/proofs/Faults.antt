-- What a stage refuses for, from the fault of its reader.
use Rattle.std.proofs.Common.{◌≡◌, subst}
use Rattle.std.specs.Prelude.{Option, Some}
use Rattle.ijtag_stages.specs.Follows.{IsFault, IsToldAs}
use Rattle.ijtag_stages.specs.Refusals.{Part, Refusal}
use Rattle.ijtag_stages.specs.Seen.{seen_refusal}
use Rattle.ijtag_stages.specs.Work.{◌>>=◌}
use Rattle.ijtag_stages.specs.declared.refusal.StageFault.{StageFault}
use Rattle.ijtag_stages.specs.declared.refusal.StageFault.TheVariants.{Refused, OutOfMemory}
use Rattle.std.proofs.lemmas.Option.{same_Some}

-- what is told as a refusal of the work is a fault of it
pub told_fault : {A : Type 0} (work : Part A) (want : Option Refusal) (fault : StageFault)
    → IsToldAs want fault → ((r : Refusal) → want ≡ Some r → work.refuses r) → IsFault work fault
told_fault work want (Refused told) is refuses = refuses (seen_refusal told) is
told_fault work want OutOfMemory is refuses = tt

-- what is told as one refusal of the work is a fault of it
pub told_one : {A : Type 0} (work : Part A) (want : Refusal) (fault : StageFault) → IsToldAs (Some want) fault
    → work.refuses want → IsFault work fault
told_one work want (Refused told) is refuses =
    subst work.refuses (same_Some want (seen_refusal told) is) refuses
told_one work want OutOfMemory is refuses = tt
