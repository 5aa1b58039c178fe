-- What the update stages hold before a scan is found by a play from power-up.
use Rattle.std.proofs.Common.{◌≡◌, ◌≢◌, ℕ, suc, Bool, true, false, cond, List, Option, None, ap, sym, ◌∙◌}
use Rattle.std.proofs.Common.{arith}
use Rattle.std.specs.Prelude.{◌==◌, map}
use Rattle.std.proofs.lemmas.Bool.Decides.{nat_tests}
use Rattle.instruments.specs.Machine.{Machine, count_log}
use Rattle.instruments.specs.Runners.{machines_of}
use Rattle.instruments.specs.Seen.{SeenModel, seen_model}
use Rattle.instruments.specs.declared.model.Model.{Model}
use Rattle.instruments.proofs.Machines.{machines_are}
use Rattle.net_graph.specs.declared.device.Device.{Device}
use Rattle.net_graph.specs.declared.net.Net.{Net}
use Rattle.net_graph.specs.Signals.{Holds}
use Rattle.svf_writer.specs.SeenCommands.{SeenCommand}
use Rattle.tap_machine.specs.declared.Pins.{Pins}
use Rattle.tap_machine.specs.declared.Stable.TheVariants.{Reset as InReset}
use Rattle.tap_machine.specs.Play.{pins, scans_in}
use Rattle.net_bench.specs.Bench.{Chip, fault_free, power_up}
use Rattle.net_bench.specs.Board.{SeenBench}
use Rattle.bench_report.specs.Report.{chip, chip_of}
use Rattle.instruments.specs.declared.Counts.{Counts}
use Rattle.svf_notes.specs.Before.{held_at, holds_before}

-- no scan has the number 0
pub none_is_zero : (net : Net) (device : Device) (models : List SeenModel) (commands : List SeenCommand)
    (scan : ℕ) → scan ≡ 0 → None ≡ holds_before net device models commands scan
unfolding holds_before
none_is_zero net device models commands scan e =
    let zero : (scan == 0) ≡ true = grind (arith, nat_tests, e) in
    ap (λ (z : Bool). cond z None (held_at (chip net device models) scan (suc (scans_in commands))
    (pins InReset 0 commands) (power_up (chip net device models)))) (sym zero)

module _ (net : Net) (device : Device) (models : List Model) (commands : List SeenCommand) (scan : ℕ) where
  abbrev at_first : List Machine → Option Holds
  at_first ms =
      let c : Chip Counts = fault_free count_log net device ms in
      cond (scan == 0) None (held_at c scan (suc (scans_in commands)) (pins InReset 0 commands) (power_up c))

  pub held_is : (b : SeenBench) (ps : List Pins) (end : ℕ) (found : Option Holds) → scan ≢ 0
      → b ≡ record {
        net = net;
        device = device;
        models = models;
        state = power_up (fault_free count_log net device (machines_of models));
      }
      → ps ≡ pins InReset 0 commands → end ≡ suc (scans_in commands)
      → held_at (chip_of b) scan end ps b.state ≡ found
      → holds_before net device (map seen_model models) commands scan ≡ found
  unfolding holds_before
  held_is b ps end found some bench played last is =
      let c : Chip Counts = fault_free count_log net device (machines_of models) in
      let later : (scan == 0) ≡ false = grind (arith, nat_tests, some) in
      ap at_first (sym (machines_are models))
      ∙ ap (λ (z : Bool). cond z None
      (held_at c scan (suc (scans_in commands)) (pins InReset 0 commands) (power_up c))) later
      ∙ ap (λ (n : ℕ). held_at c scan n (pins InReset 0 commands) (power_up c)) (sym last)
      ∙ ap (λ (qs : List Pins). held_at c scan end qs (power_up c)) (sym played)
      ∙ ap (λ (x : SeenBench). held_at (chip_of x) scan end ps x.state) (sym bench)
      ∙ is
