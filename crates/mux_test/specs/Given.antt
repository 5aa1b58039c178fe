-- A mux test as contracts see it: its scans that are still to come, the rows that a mux may be stuck in
-- unseen, and how many scans and rows there are in all.
use Rattle.std.specs.Prelude.{ℕ, List}
use Rattle.net_graph.specs.declared.branch.Branch.{Branch}
use Rattle.svf_writer.specs.SeenCommands.{seen_command}
use Rattle.mux_test.specs.declared.test.TestScan.{TestScan}
use Rattle.mux_test.specs.Flushes.{SeenTestScan}

pub record SeenTest : Type 0 where
  pub scans : List SeenTestScan
  pub unseen : List Branch
  pub scan_count : ℕ
  pub row_count : ℕ

abbrev pub seen_test_scan : TestScan → SeenTestScan
seen_test_scan t = record { branch = t.branch; first = t.first; scan = seen_command t.scan }
