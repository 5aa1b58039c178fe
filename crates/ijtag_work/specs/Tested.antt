-- What the SVF file of a mux test does, played on the chip, and on one with a multiplexer that is stuck.
use Rattle.std.specs.Prelude.{◌≡◌, ◌≤◌, ℕ, true, List, Ok, Option, Some, length}
use Rattle.std.specs.Option.{option_map}
use Rattle.ij_io.specs.Files.{Files}
use Rattle.instruments.specs.Machine.{Machine, whole_log}
use Rattle.net_bench.specs.Playing.{differing}
use Rattle.net_graph.specs.declared.branch.Branch.{Branch}
use Rattle.net_graph.specs.Resets.{start_holds}
use Rattle.svf_reader.specs.Meaning.{svf}
use Rattle.mux_test.specs.Laws.{AreReached, IsQuiet, compared, stuck}
use Rattle.mux_test.specs.Seen.{is_seen_in_test}
use Rattle.mux_test.specs.Test.{test_commands, test_text, tested}
use Rattle.ijtag_work.specs.Accepted.{SeenAccepted}
use Rattle.ijtag_work.specs.Command.{Command, MuxTest, MuxTests}
use Rattle.ijtag_work.specs.Order.{mux_test, test_text_of}
use Rattle.ijtag_work.specs.Promises.{AcceptedWith}

-- In the text of the test a reader of SVF finds its commands. Played clock by clock from power-up, whatever
-- the instruments are, no compare of them differs, no instrument has an event, and each bit that selects
-- nothing ends as it began. Where a multiplexer always passes on the same row, and the test sees it, some
-- compare differs. And each row of each multiplexer is gone through.
pub record TestsRight (it : SeenAccepted) : Type 0 where
  pub read_again : svf (test_text it.network.net it.network.form it.device)
      ≡ Ok (test_commands it.network.net it.network.form it.device)
  pub quiet : (machines : List Machine) → IsQuiet it.network.net it.network.form it.device machines
  pub found : (machines : List Machine) (b : Branch) → is_seen_in_test it.network.net it.network.form b ≡ true
      → 1 ≤ length
      (differing (compared (stuck whole_log it.network.net it.device machines b) it.network.form))
  pub reached : AreReached it.network.net it.network.form
      (start_holds it.network.net) (tested it.network.net it.network.form)

-- where the texts are accepted as a network and a device: the SVF file holds the text of this network's test,
-- of which this holds
pub record HasRightTest (files : Option Files)
    (svf : Option (Option (List ℕ))) (it : SeenAccepted) : Type 0 where
  pub written : svf ≡ option_map (λ _. Some (test_text_of it)) files
  pub right : TestsRight it

abbrev pub IsTested : Option Files → Option (Option (List ℕ)) → MuxTest → Type 0
IsTested files svf m = AcceptedWith (mux_test m) files (HasRightTest files svf)

-- where the words are a mux test, its SVF file is so
abbrev pub TestIsRight : Option Files → (List ℕ → Option (Option (List ℕ))) → Option Command → Type 0
TestIsRight files file (Some (MuxTests m)) = IsTested files (file m.svf) m
TestIsRight files file _ = Unit {0}
