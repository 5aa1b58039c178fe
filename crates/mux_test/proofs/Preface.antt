-- The preface, played from power-up on any bench: it rests in Run-Test/Idle with the link's instruction, and
-- all else is as it was.
use Rattle.std.proofs.Common.{◌≡◌, ◌<◌, Bool, List, [], refl, sym, subst}
use Rattle.ij_bits.specs.BitLists.{bits_of}
use Rattle.ij_bits.proofs.WordBits.{length-bits_of}
use Rattle.svf_writer.specs.Written.{preface_commands}
use Rattle.tap_machine.specs.declared.TapState.TheVariants.{RunTestIdle}
use Rattle.net_bench.specs.Bench.{Chip, State, power_up}
use Rattle.net_bench.specs.Laws.{loaded}
use Rattle.net_bench.specs.Playing.{compares_from, play_from}
use Rattle.net_bench.proofs.PublicLaws.{is_shaped_first, nothing_is_compared, prefaces_link}
use Rattle.mux_test.proofs.Flushing.{Rests}

module _ {L : Type 0} (chip : Chip L) (some : 0 < chip.device.ir) where
  abbrev opcode : List Bool
  opcode = bits_of chip.device.ir chip.device.opcode

  abbrev pub idle : State L
  idle = record (power_up chip) { tap = RunTestIdle }

  pub preface_plays : play_from chip 0 (preface_commands chip.device) (power_up chip)
      ≡ loaded chip idle opcode
  preface_plays = (prefaces_link chip 0 some).1

  pub preface_compares_nothing : compares_from chip 0 (preface_commands chip.device) (power_up chip) ≡ []
  preface_compares_nothing =
      nothing_is_compared chip 0 (preface_commands chip.device) (power_up chip) (refl, tt)

  pub preface_rests : Rests chip (play_from chip 0 (preface_commands chip.device) (power_up chip))
  preface_rests =
      let p = is_shaped_first chip in
      subst (Rests chip) (sym preface_plays) (record {
        idle = refl;
        link = refl;
        shaped = record {
          stages =
              p.stages;
          holds = p.holds;
          ir = length-bits_of chip.device.ir chip.device.opcode;
        };
      })
