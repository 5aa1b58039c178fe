-- What is promised of each command, of those of which a clause speaks.
use Rattle.std.specs.Prelude.{IfSome}
use Rattle.std.proofs.Common.{ℕ, Bool, List, Option, Some, None}
use Rattle.ij_io.specs.Files.{Files}
use Rattle.ijtag_tools.specs.Command.{Command, Explains, Tightens}
use Rattle.ijtag_tools.specs.Promises.{IfExplains, IfTightens, IsBounded, IsExplained, IsPromised}

module _ (files : Option Files) (file : List ℕ → Option (Option (List ℕ))) where
  pub bounded_in : (words : Option Command) (differs : Bool)
      → IfSome words (λ command. IsPromised command files file differs)
      → IfSome words (λ command. IfTightens command (λ t. IsBounded files t))
  bounded_in None differs promised = tt
  bounded_in (Some (Tightens t)) differs promised = promised
  bounded_in (Some _) differs promised = tt

  pub explained_in : (words : Option Command) (differs : Bool)
      → IfSome words (λ command. IsPromised command files file differs)
      → IfSome words (λ command. IfExplains command (λ e. IsExplained files e (file e.new)))
  explained_in None differs promised = tt
  explained_in (Some (Explains e)) differs promised = promised
  explained_in (Some _) differs promised = tt
