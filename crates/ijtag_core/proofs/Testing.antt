-- What a mux test does after the texts that were accepted.
use Rattle.std.specs.Prelude.{option_map}
use Rattle.std.proofs.Common.{◌≡◌, ◌∙◌, ◌++◌, refl, ap, false, ℕ, Some, List}
use Rattle.ij_io.specs.Bytes.{Adds, AddsPart}
use Rattle.ij_io.specs.Files.{file_at}
use Rattle.ij_io.specs.Pieces.{HoldsPart}
use Rattle.net_graph.specs.Devices.{IsDevice}
use Rattle.svf_writer.specs.Written.{preface}
use Rattle.mux_test.specs.Flushes.{SeenTestScan, test_scans}
use Rattle.mux_test.specs.Laws.{IsTestable, RowsAreReached, StuckAreFound, TestsAreQuiet}
use Rattle.mux_test.specs.Reading.{TestsAreReadAgain}
use Rattle.mux_test.specs.Texts.{ScansMakeTheText, scans_text}
use Rattle.ijtag_stages.specs.Nested.{IsNested}
use Rattle.ijtag_work.specs.Accepted.{SeenAccepted}
use Rattle.ijtag_work.specs.Late.{IsPartOf}
use Rattle.ijtag_work.specs.Leaves.{Leaves}
use Rattle.ijtag_work.specs.Order.{mux_tested, ran, test_report_of, test_text_of, within_limit}
use Rattle.ijtag_work.specs.Runs.{IsDone, Seen}
use Rattle.ijtag_work.specs.Tested.{TestsRight}
use Rattle.ijtag_work.proofs.Ends.{all_done, file_cut, text_cut}

module _ (name : List ℕ) (it : SeenAccepted) (short : (within_limit it).gives tt) where
  -- all of it could be done
  pub can_test : (leaves : Leaves) × (mux_tested name it).gives leaves
  can_test = (ran name (test_text_of it) (test_report_of it) false, (tt, short, refl))

  module _ (old new : Seen) where
    -- the file is cut off
    pub test_part : HoldsPart old.files new.files name (test_text_of it)
        → new.printed ≡ old.printed → IsPartOf (mux_tested name it) old new
    test_part =
        file_cut (mux_tested name it) name (test_text_of it) (test_report_of it) false
        (tt, short, refl) old new

    -- the report is cut off
    pub lines_part : file_at new.files name ≡ option_map (λ _. Some (test_text_of it)) old.files
        → AddsPart old.printed new.printed (test_report_of it) → IsPartOf (mux_tested name it) old new
    lines_part =
        text_cut (mux_tested name it) name (test_text_of it) (test_report_of it) false
        (tt, short, refl) old new

    pub test_done : file_at new.files name ≡ option_map (λ _. Some (test_text_of it)) old.files
        → Adds old.printed new.printed (test_report_of it) → IsDone (mux_tested name it) old new false
    test_done whole printed =
        all_done (mux_tested name it) name (test_text_of it) (test_report_of it) false
        (tt, short, refl) old new whole false printed refl

-- ---- the laws of mux tests, of what was accepted

module _ (it : SeenAccepted) (nested : IsNested it.network.net it.network.form) where
  abbrev pub testable : IsTestable it.network.net it.network.form
  testable = record { well_formed = nested.well_formed; describes = nested.describes; lawful = nested.lawful }

  pub right : TestsAreQuiet → StuckAreFound → RowsAreReached → TestsAreReadAgain → IsDevice it.device
      → (within_limit it).gives tt → TestsRight it
  unfolding within_limit
  right quiet found reached again device short =
      record {
        read_again = again it.network.net it.network.form it.device testable device short;
        quiet = λ machines. quiet it.network.net it.network.form it.device machines testable device;
        found = λ machines b seen. found it.network.net it.network.form
            it.device machines b testable device seen;
        reached = reached it.network.net it.network.form testable;
      }

  pub text_is : ScansMakeTheText → (scans : List SeenTestScan)
      → scans ≡ test_scans it.network.net it.network.form
      → preface it.device ++ scans_text it.network.net scans ≡ test_text_of it
  unfolding test_text_of
  text_is make scans same =
      ap (λ (ss : List SeenTestScan). preface it.device ++ scans_text it.network.net ss) same
      ∙ (make it.network.net it.network.form testable).text it.device
