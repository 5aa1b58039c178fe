-- What is promised of what the texts of a command are accepted as.
use Rattle.std.specs.Prelude.{ℕ, List, Option}
use Rattle.ij_io.specs.Files.{Files}
use Rattle.ijtag_work.specs.Accepted.{SeenAccepted, accepted_of}
use Rattle.ijtag_work.specs.Inputs.{loads_of, texts_of}
use Rattle.ijtag_work.specs.Loads.{loaded}
use Rattle.ijtag_work.specs.Task.{Row}

-- the files' texts are accepted, and this holds of what they are accepted as
pub record AcceptedWith (row : Row) (files : Option Files) (P : SeenAccepted → Type 0) : Type 0 where
  pub texts : List (List ℕ)
  pub it : SeenAccepted
  pub read : (loaded files (loads_of row.inputs)).gives texts
  pub accepted : (accepted_of (texts_of row.inputs texts)).gives it
  pub holds : P it
