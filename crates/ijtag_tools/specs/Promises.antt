-- What is promised besides of a command that ends as Good.
use Rattle.std.specs.Prelude.{◌≡◌, ℕ, Bool, List, Option, Some, Ok}
use Rattle.std.specs.Option.{option_map}
use Rattle.ij_io.specs.Files.{Files}
use Rattle.svf_reader.specs.Meaning.{svf}
use Rattle.ijtag_work.specs.Accepted.{SeenAccepted}
use Rattle.ijtag_work.specs.Promises.{AcceptedWith}
use Rattle.ijtag_tools.specs.Command.{Command, Explain, Explains, Tighten, Tightens}
use Rattle.ijtag_tools.specs.Order.{explain, tighten}
use Rattle.ijtag_tools.specs.Tight.{IsTight, NoneTakesFewer}

-- the file holds such a text
pub record HoldsTight (files : Option Files)
    (svf : Option (Option (List ℕ))) (it : SeenAccepted) : Type 0 where
  pub bytes : List ℕ
  pub written : svf ≡ option_map (λ _. Some bytes) files
  pub tight : IsTight it bytes

-- the file holds an SVF text in which a reader finds the commands of the text that is explained
pub record HoldsSameCommands (files : Option Files)
    (new : Option (Option (List ℕ))) (it : SeenAccepted) : Type 0 where
  pub bytes : List ℕ
  pub written : new ≡ option_map (λ _. Some bytes) files
  pub read : svf it.svf ≡ Ok it.commands
  pub read_again : svf bytes ≡ Ok it.commands

-- the texts are accepted as a network and a procedure for which it does
abbrev pub IsTightened : Option Files → Tighten → Option (Option (List ℕ)) → Type 0
IsTightened files t svf = AcceptedWith (tighten t) files (HoldsTight files svf)

-- the texts are accepted, and the file holds the same commands
abbrev pub IsExplained : Option Files → Explain → Option (Option (List ℕ)) → Type 0
IsExplained files e new = AcceptedWith (explain e) files (HoldsSameCommands files new)

-- the texts are accepted, and no SVF to which the audit says yes takes fewer clocks than is printed
abbrev pub IsBounded : Option Files → Tighten → Type 0
IsBounded files t = AcceptedWith (tighten t) files NoneTakesFewer

-- what is promised besides of the commands
abbrev pub IsPromised : Command → Option Files → (List ℕ → Option (Option (List ℕ))) → Bool → Type 0
IsPromised (Explains e) files file differs = IsExplained files e (file e.new)
IsPromised (Tightens t) files file differs = IsBounded files t
IsPromised _ files file differs = Unit {0}

-- what holds where a command is an explain
abbrev pub IfExplains : Command → (Explain → Type 0) → Type 0
IfExplains (Explains e) P = P e
IfExplains _ P = Unit {0}

-- what holds where a command is a tighten
abbrev pub IfTightens : Command → (Tighten → Type 0) → Type 0
IfTightens (Tightens t) P = P t
IfTightens _ P = Unit {0}
