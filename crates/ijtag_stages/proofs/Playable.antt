-- Commands that are read take few clocks when they are played.
use Rattle.std.proofs.Common.{◌≡◌, Ok, ℕ, ◌+◌, ◌≤◌, Bool, true, false, List, [], ◌∷◌, length, arith}
use Rattle.svf_writer.specs.SeenCommands.{SIR, SDR, Reset, Idle, Run, SeenCommand}
use Rattle.svf_writer.specs.Fits.{AreFit}
use Rattle.tap_machine.specs.declared.Stable.TheVariants.{Reset as InReset}
use Rattle.tap_machine.specs.Play.{pins, scans_in}
use Rattle.tap_machine.proofs.Clocks.{at_least, pins_are_clocks}
use Rattle.svf_reader.specs.Meaning.{svf}
use Rattle.svf_writer.specs.Clocks.{clocks_from}
use Rattle.svf_reader.proofs.Few.{read_commands_are_within_limits as few_clocks}
use Rattle.svf_reader.proofs.Following.{read_commands_fit}
use Rattle.ijtag_stages.specs.Laws.{ReadCommandsArePlayable}

few_scans : (cs : List SeenCommand) (b : Bool) → scans_in cs ≤ clocks_from b cs
few_scans [] b = omega arith
few_scans (SIR s ∷ cs) b = omega (arith, few_scans cs false, at_least b (s.len + 6))
few_scans (SDR s ∷ cs) b = omega (arith, few_scans cs false, at_least b (s.len + 5))
few_scans (Reset ∷ cs) b = omega (arith, few_scans cs true)
few_scans (Idle ∷ cs) b = omega (arith, few_scans cs false)
few_scans (Run n ∷ cs) b = omega (arith, few_scans cs false)

pub read_commands_are_playable : (src : List ℕ) (cs : List SeenCommand) → svf src ≡ Ok cs → AreFit cs
    → (length (pins InReset 0 cs) ≤ 1000000000) × (scans_in cs ≤ 1000000000)
read_commands_are_playable src cs e fit =
    let few = few_clocks src cs e in
    let count = pins_are_clocks cs InReset 0 fit in
    (omega (arith, few, count), omega (arith, few, few_scans cs true))

pub all_are_playable : ReadCommandsArePlayable
all_are_playable src cs e = read_commands_are_playable src cs e (read_commands_fit src cs e)
