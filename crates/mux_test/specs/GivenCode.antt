-- A code for mux tests as contracts see them, so that a struct may have one as its value.
use Rattle.std.specs.Prelude.{ℕ, Bool, List, refl}
use Rattle.std.specs.Coded.{Coded, code_by, coded×, coded_ℕ, coded_bool, coded_list}
use Rattle.net_graph.specs.declared.branch.Branch.{Branch}
use Rattle.svf_writer.specs.SeenCode.{command_code}
use Rattle.svf_writer.specs.SeenCommands.{SeenCommand}
use Rattle.mux_test.specs.Flushes.{SeenTestScan}
use Rattle.mux_test.specs.Given.{SeenTest}

abbrev pub branch_parts : Branch → ℕ × ℕ
branch_parts b = (b.mux, b.row)

abbrev pub branch_of : ℕ × ℕ → Branch
branch_of (mux, row) = record { mux = mux; row = row }

abbrev pub branch_code : Coded Branch
branch_code = code_by (ℕ × ℕ) (coded× coded_ℕ coded_ℕ) branch_parts branch_of (λ _. refl)

abbrev pub ScanParts : Type 0
ScanParts = Branch × (Bool × SeenCommand)

abbrev pub scan_parts : SeenTestScan → ScanParts
scan_parts s = (s.branch, (s.first, s.scan))

abbrev pub scan_of : ScanParts → SeenTestScan
scan_of (branch, (first, scan)) = record { branch = branch; first = first; scan = scan }

abbrev pub scan_code : Coded SeenTestScan
scan_code =
    code_by ScanParts (coded× branch_code (coded× coded_bool command_code)) scan_parts scan_of (λ _. refl)

abbrev pub TestParts : Type 0
TestParts = List SeenTestScan × (List Branch × (ℕ × ℕ))

abbrev pub test_parts : SeenTest → TestParts
test_parts t = (t.scans, (t.unseen, (t.scan_count, t.row_count)))

abbrev pub test_of : TestParts → SeenTest
test_of (scans, (unseen, (scan_count, row_count))) =
    record { scans = scans; unseen = unseen; scan_count = scan_count; row_count = row_count }

abbrev pub test_code : Coded SeenTest
test_code = code_by TestParts (coded× (coded_list scan_code)
    (coded× (coded_list branch_code) (coded× coded_ℕ coded_ℕ))) test_parts test_of (λ _. refl)
