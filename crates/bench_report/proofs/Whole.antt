-- The report of a whole play from power-up.
use Rattle.std.proofs.Common.{◌≡◌, ℕ, List, length, map, ap, ◌∙◌}
use Rattle.instruments.specs.Machine.{count_log}
use Rattle.instruments.specs.Seen.{seen_model}
use Rattle.instruments.specs.declared.Counts.{Counts}
use Rattle.instruments.specs.declared.model.Model.{Model}
use Rattle.net_graph.specs.declared.net.Net.{Net}
use Rattle.svf_writer.specs.SeenCommands.{SeenCommand}
use Rattle.tap_machine.specs.declared.Pins.{Pins}
use Rattle.tap_machine.specs.declared.Stable.TheVariants.{Reset as InReset}
use Rattle.tap_machine.specs.Play.{pins, scans_in}
use Rattle.net_bench.specs.Bench.{State, fault_free, power_up}
use Rattle.net_bench.specs.Board.{SeenBench}
use Rattle.net_bench.specs.Playing.{after_pins, compares, differing, play_from}
use Rattle.instruments.specs.Runners.{machines_of}
use Rattle.report.specs.Totalled.{play_text}
use Rattle.bench_report.specs.Report.{chip, chip_of, differs_of, state_text}
use Rattle.instruments.proofs.Machines.{machines_are}

module _ (net : Net) (models : List Model) (b : SeenBench) (ps : List Pins) (cs : List SeenCommand) (n : b.net
    ≡ net) (m : b.models ≡ models) (st : b.state ≡ power_up (chip_of b)) (p : ps ≡ pins InReset 0 cs) where
  chip_is : chip_of b ≡ chip net b.device (map seen_model models)
  chip_is =
      ap (λ (x : Net). fault_free count_log x b.device (machines_of b.models)) n
      ∙ ap (fault_free count_log net b.device) (ap machines_of m ∙ machines_are models)

  pub differs_are : differing (compares (chip_of b) ps b.state)
      ≡ differs_of net b.device (map seen_model models) cs
  differs_are =
      ap (λ l. differing (compares (chip_of b) l b.state)) p
      ∙ ap (λ s. differing (compares (chip_of b) (pins InReset 0 cs) s)) st
      ∙ ap (λ c. differing (compares c (pins InReset 0 cs) (power_up c))) chip_is

  pub state_is : (after : SeenBench) → after ≡ record b { state = after_pins (chip_of b) ps b.state }
      → state_text net (map seen_model models) after.state ≡ state_text net (map seen_model models) (play_from
      (chip net b.device (map seen_model models)) 0 cs (power_up (chip net b.device (map seen_model models))))
  state_is after is =
      ap (λ (s : State Counts). state_text net (map seen_model models) s)
      (ap (λ a. a.state) is
      ∙ ap (λ l. after_pins (chip_of b) l b.state) p
      ∙ ap (λ s. after_pins (chip_of b) (pins InReset 0 cs) s) st
      ∙ ap (λ c. after_pins c (pins InReset 0 cs) (power_up c)) chip_is)

  pub totals_are : (scans clocks differs : ℕ) → scans ≡ scans_in cs → clocks ≡ length ps
      → differs ≡ length (differing (compares (chip_of b) ps b.state))
      → play_text scans clocks differs ≡ play_text (scans_in cs) (length (pins InReset 0 cs))
      (length (differs_of net b.device (map seen_model models) cs))
  totals_are scans clocks differs s c d =
      ap (λ k. play_text k clocks differs) s
      ∙ ap (λ k. play_text (scans_in cs) k differs) (c ∙ ap length p)
      ∙ ap (λ k. play_text (scans_in cs) (length (pins InReset 0 cs)) k) (d ∙ ap length differs_are)
