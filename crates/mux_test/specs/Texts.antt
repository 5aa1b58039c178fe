-- The text of a test, scan by scan (Serial Vector Format, revision E: SDR, comments).
use Rattle.std.specs.Prelude.{◌≡◌, ◌<◌, ℕ, cond, List, [], ◌∷◌, ◌++◌, length, All}
use Rattle.net_graph.specs.declared.device.Device.{Device}
use Rattle.net_graph.specs.declared.net.Net.{Net}
use Rattle.net_tree.specs.Form.{Items}
use Rattle.svf_writer.specs.Fits.{IsWrittenCommand}
use Rattle.svf_writer.specs.RowMarks.{row_mark}
use Rattle.svf_writer.specs.Written.{preface, text_of}
use Rattle.mux_test.specs.Flushes.{SeenTestScan, test_scans}
use Rattle.mux_test.specs.Laws.{IsTestable}
use Rattle.mux_test.specs.Seen.{unseen}
use Rattle.mux_test.specs.Test.{test_text}

-- the comment before the first scan of a row
abbrev pub mark_of : Net → SeenTestScan → List ℕ
mark_of net s = cond s.first (row_mark net s.branch) []

abbrev pub scan_text : Net → SeenTestScan → List ℕ
scan_text net s = mark_of net s ++ text_of s.scan

abbrev pub scans_text : Net → List SeenTestScan → List ℕ
scans_text net [] = []
scans_text net (s ∷ ss) = scan_text net s ++ scans_text net ss

-- a scan that can be written: its mux is there, and it is a scan as it is written
pub record CanWrite (net : Net) (s : SeenTestScan) : Type 0 where
  pub there : s.branch.mux < length net.muxes.items
  pub written : IsWrittenCommand s.scan

-- the scans of a test can be written, their texts make the text of the test, and the muxes of its unseen rows
-- are there
pub record IsTheText (net : Net) (form : Items) : Type 0 where
  pub can : All (CanWrite net) (test_scans net form)
  pub there : All (λ b. b.mux < length net.muxes.items) (unseen net form)
  pub text : (device : Device)
      → preface device ++ scans_text net (test_scans net form) ≡ test_text net form device

abbrev pub ScansMakeTheText : Type 0
ScansMakeTheText = (net : Net) (form : Items) → IsTestable net form → IsTheText net form
