-- The end-to-end statement: the SVF file that a compile leaves does, played clock by clock, what the
-- procedure means.
use Rattle.std.specs.Prelude.{◌≡◌, ℕ, Bool, List, Option, Some}
use Rattle.std.specs.Option.{option_map}
use Rattle.ij_io.specs.Files.{Files}
use Rattle.headline.specs.Retargeting.{DoesSteps}
use Rattle.ijtag_work.specs.Accepted.{SeenAccepted, accepted_of}
use Rattle.ijtag_work.specs.Command.{Command, Compile, Compiles, Run, Runs, Make, Makes, made_svf}
use Rattle.ijtag_work.specs.Order.{compile, made_inputs, made_texts, reads_differ, run}
use Rattle.ijtag_work.specs.Promises.{AcceptedWith}

-- where the texts are accepted as a network, a device and the bit steps of a procedure: the SVF file holds
-- bytes that do these steps
pub record HasRightSvf (files : Option Files)
    (svf : Option (Option (List ℕ))) (it : SeenAccepted) : Type 0 where
  pub bytes : List ℕ
  pub written : svf ≡ option_map (λ _. Some bytes) files
  pub right : DoesSteps it.network.net it.network.form it.device it.steps bytes

abbrev pub IsRetargeted : Option Files → Compile → Option (Option (List ℕ)) → Type 0
IsRetargeted files c svf = AcceptedWith (compile c) files (HasRightSvf files svf)

-- the same of a run, whose texts are accepted with tables that fit the network; and it ends as differing
-- exactly where a read of the procedure's direct meaning differs
pub record RunsRight (files : Option Files) (svf : Option (Option (List ℕ)))
    (differs : Bool) (it : SeenAccepted) : Type 0 where
  pub right : HasRightSvf files svf it
  pub alike : differs ≡ reads_differ it

abbrev pub IsRunRetargeted : Option Files → Run → Option (Option (List ℕ)) → Bool → Type 0
IsRunRetargeted files r svf differs = AcceptedWith (run r) files (RunsRight files svf differs)

-- the same of a made design, whose texts are accepted as those of a run
pub record IsMadeRetargeted (files : Option Files) (m : Make)
    (svf : Option (Option (List ℕ))) (differs : Bool) : Type 0 where
  pub it : SeenAccepted
  pub accepted : (accepted_of (made_inputs (made_texts m))).gives it
  pub right : RunsRight files svf differs it

-- what each command leaves in its SVF file, by the contents of any file, where it ends with this verdict
abbrev pub LeavesRightSvf : Option Files
    → (List ℕ → Option (Option (List ℕ))) → Bool → Option Command → Type 0
LeavesRightSvf files file differs (Some (Compiles c)) = IsRetargeted files c (file c.svf)
LeavesRightSvf files file differs (Some (Runs r)) = IsRunRetargeted files r (file r.svf) differs
LeavesRightSvf files file differs (Some (Makes m)) = IsMadeRetargeted files m (file (made_svf m.stem)) differs
LeavesRightSvf files file differs _ = Unit {0}
