-- A text of some work that was written to a file.
use Rattle.std.specs.Prelude.{◌≡◌, ℕ, Option, Some, List}
use Rattle.std.specs.Option.{option_map}
use Rattle.retargeter.specs.Files.{HoldsPart}
use Rattle.ij_io.specs.Files.{Files, file_at}
use Rattle.ijtag_stages.specs.Refusals.{Part}
use Rattle.headline.specs.Retargeting.{PlannedStep}
use Rattle.net_graph.specs.Resets.{start_holds}
use Rattle.retargeter.specs.Plans.{AreStepsOf}
use Rattle.ijtag_work.specs.Accepted.{SeenAccepted}

-- there are plans for the bit steps of what is accepted
abbrev pub HasPlans : SeenAccepted → Type 0
HasPlans it = (xs : List PlannedStep)
    × AreStepsOf it.network.net it.network.form (start_holds it.network.net) it.steps xs

-- the file holds the text
pub record IsFiled (work : Part (List ℕ)) (old new : Option Files) (name : List ℕ) : Type 0 where
  pub bytes : List ℕ
  pub given : work.gives bytes
  pub held : file_at new name ≡ option_map (λ _. Some bytes) old

-- it is as before, or holds some first bytes
pub record IsPartFiled (work : Part (List ℕ)) (old new : Option Files) (name : List ℕ) : Type 0 where
  pub bytes : List ℕ
  pub given : work.gives bytes
  pub held : HoldsPart old new name bytes
