-- That a play has as many pins as its commands have clocks (Serial Vector Format, revision E).
use Rattle.std.specs.Prelude.{◌≡◌, ℕ, Bool, true, false, List, length}
use Rattle.svf_writer.specs.SeenCommands.{SeenCommand}
use Rattle.svf_writer.specs.Clocks.{clocks_from}
use Rattle.svf_writer.specs.Fits.{AreFit}
use Rattle.tap_machine.specs.declared.Stable.{Stable}
use Rattle.tap_machine.specs.declared.Stable.TheVariants.{Reset as InReset, Idle as InIdle}
use Rattle.tap_machine.specs.Play.{pins}

abbrev pub is_reset : Stable → Bool
is_reset InReset = true
is_reset InIdle = false

abbrev pub PinsAreClocks : Type 0
PinsAreClocks =
    (cs : List SeenCommand) (from : Stable) (scans : ℕ) → AreFit cs
    → length (pins from scans cs) ≡ clocks_from (is_reset from) cs
