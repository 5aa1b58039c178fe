-- What is left of a play: the pins still to come, and the state in which they leave the controller.
use Rattle.std.specs.Prelude.{◌≡◌, ◌<◌, ◌^◌, ◌+◌, ◌*◌, ◌==◌, ℕ, cond, true, false, List, [], ◌∷◌, ◌++◌}
use Rattle.std.specs.Prelude.{length, replicate, map, drop, Option, Some, None, option_map, unwrap_or}
use Rattle.svf_writer.specs.Fits.{HasLength, AreFitAfter}
use Rattle.svf_writer.specs.Lent.{lent}
use Rattle.tap_machine.specs.declared.Pins.{Pins}
use Rattle.tap_machine.specs.declared.Stable.{Stable}
use Rattle.tap_machine.specs.declared.Stable.TheVariants.{Reset as InReset, Idle as InIdle}
use Rattle.tap_machine.specs.declared.progress.HeldBits.{HeldBits}
use Rattle.tap_machine.specs.declared.progress.Phase.{Phase}
use Rattle.tap_machine.specs.declared.progress.Phase.TheVariants.{Quiet, BeforeIr, BeforeDr, Select, Enter}
use Rattle.tap_machine.specs.declared.progress.Phase.TheVariants.{Shift, Exit, Update}
use Rattle.tap_machine.specs.declared.progress.Progress.{Progress}
use Rattle.svf_writer.specs.SeenCommands.{SeenCommand}
use Rattle.tap_machine.specs.Play.{no_shift, shifts, LastScan, Played, expected, sir_pins, sdr_pins}
use Rattle.tap_machine.specs.Play.{pins_with, rests_after, scans_in}

-- a play as contracts see it: the pins that are left, and where they leave the controller
pub record Remaining : Type 0 where
  pub pins : List Pins
  pub rests : Stable

-- what is kept of the last scan of a kind, by what it was taken from
abbrev pub seen_held : HeldBits → LastScan
seen_held s =
    record {
      len = s.len;
      tdi = unwrap_or (lent s.tdi) [];
      mask = unwrap_or (lent s.mask) (replicate s.len true);
    }

-- the length of that scan, where there was one
abbrev pub last_length : HeldBits → Option ℕ
last_length s = option_map (λ b. s.len) s.tdi

-- its bits have its length
pub record AreHeldBits (s : HeldBits) : Type 0 where
  pub tdi : length (unwrap_or (lent s.tdi) []) ≡ s.len
  pub mask : HasLength s.len (lent s.mask)

-- the scan at hand
abbrev pub scan_under_way : Progress → Played
scan_under_way p =
    record {
      tdi = unwrap_or (lent p.scan.tdi) [];
      expects =
          expected p.scan.len (lent p.tdo) (unwrap_or (lent p.scan.mask) (replicate p.scan.len true));
    }

-- the pins of a scan from a position on
abbrev pub pins_from : ℕ → Played → ℕ → List Pins
pins_from scan p k = shifts scan k (drop k p.tdi) (drop k p.expects) ++ map no_shift (true ∷ false ∷ [])

-- the pins of a command from a phase on
abbrev pub phase_pins : ℕ → Played → Phase → List Pins
phase_pins scan p (Quiet tms left) = replicate left (no_shift tms)
phase_pins scan p BeforeIr = sir_pins scan p
phase_pins scan p BeforeDr = sdr_pins scan p
phase_pins scan p Select = map no_shift (false ∷ false ∷ []) ++ pins_from scan p 0
phase_pins scan p Enter = map no_shift (false ∷ []) ++ pins_from scan p 0
phase_pins scan p (Shift k) = pins_from scan p k
phase_pins scan p Exit = map no_shift (true ∷ false ∷ [])
phase_pins scan p Update = map no_shift (false ∷ [])

-- the commands that are not begun
abbrev pub remaining_commands : Progress → List SeenCommand
remaining_commands p = drop p.at p.commands.now

-- their pins
abbrev pub later_pins : Progress → List Pins
later_pins p = pins_with (seen_held p.ir) (seen_held p.dr) p.rests_in p.scans (remaining_commands p)

-- the pins that are left of the command at hand
abbrev pub pins_at_hand : Progress → List Pins
pins_at_hand p = phase_pins p.scans (scan_under_way p) p.phase

-- all pins that are left
abbrev pub remaining_pins : Progress → List Pins
remaining_pins p = pins_at_hand p ++ later_pins p

-- where the play ends
abbrev pub rests_at_end : Progress → Stable
rests_at_end p = rests_after p.rests_in (remaining_commands p)

abbrev pub remaining : Progress → Remaining
remaining p = record { pins = remaining_pins p; rests = rests_at_end p }

-- the phase once this many bits of a scan were shifted
abbrev pub shifted_to : ℕ → ℕ → Phase
shifted_to len k = cond (k == len) Exit (Shift k)

-- a phase that shifts has a bit to shift
abbrev pub IsWithin : ℕ → Phase → Type 0
IsWithin len (Quiet tms left) = Unit {0}
IsWithin len BeforeIr = 0 < len
IsWithin len BeforeDr = 0 < len
IsWithin len Select = 0 < len
IsWithin len Enter = 0 < len
IsWithin len (Shift k) = k < len
IsWithin len Exit = Unit {0}
IsWithin len Update = Unit {0}

-- a play that is under way
pub record IsUnderWay (p : Progress) : Type 0 where
  pub ir : AreHeldBits p.ir
  pub dr : AreHeldBits p.dr
  pub scan : AreHeldBits p.scan
  pub tdo : HasLength p.scan.len (lent p.tdo)
  pub within : IsWithin p.scan.len p.phase
  pub fits : AreFitAfter (last_length p.ir) (last_length p.dr) (remaining_commands p)
  pub few : p.scans + scans_in (remaining_commands p) < 2 ^ 32
  pub counted : length p.commands.now < 2 ^ 64

-- the first of the pins, and none where there is none
abbrev pub first_of : List Pins → Option Pins
first_of [] = None
first_of (p ∷ ps) = Some p

-- one more clock where the controller must first leave Test-Logic-Reset
abbrev pub wakes : Stable → ℕ
wakes InReset = 1
wakes InIdle = 0

-- a number that falls with each command begun
abbrev pub to_begin : Progress → ℕ
to_begin p = 2 * length (remaining_commands p) + wakes p.rests_in
