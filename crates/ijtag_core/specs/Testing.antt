-- A planned test of the network's multiplexers.
use Rattle.std.specs.Prelude.{◌≡◌, length}
use Rattle.mux_test.specs.Flushes.{test_scans}
use Rattle.mux_test.specs.Given.{SeenTest}
use Rattle.mux_test.specs.Seen.{unseen as unseen_in}
use Rattle.mux_test.specs.Test.{branches, scanned}
use Rattle.ijtag_work.specs.Accepted.{SeenAccepted}

-- what it prints is that of the test of an accepted network
pub record IsReportOf (it : SeenAccepted) (t : SeenTest) : Type 0 where
  pub unseen : t.unseen ≡ unseen_in it.network.net it.network.form
  pub scan_count : t.scan_count ≡ length (scanned it.network.net it.network.form)
  pub row_count : t.row_count ≡ length (branches it.network.net)

-- and all of its scans are still to come
pub record IsTestOf (it : SeenAccepted) (t : SeenTest) : Type 0 where
  pub scans : t.scans ≡ test_scans it.network.net it.network.form
  pub report : IsReportOf it t
