use Rattle.mux_test.proofs.Found.{tests_are_quiet, stuck_are_found, rows_are_reached}
use Rattle.mux_test.proofs.Reading.{tests_are_read_again}
use Rattle.mux_test.proofs.Texts.{scans_make_the_text}
use Rattle.mux_test.proofs.law.mux_tests_law.Goals as goal

pub returns : goal.returns
returns c =
    record {
      quiet = tests_are_quiet;
      found = stuck_are_found;
      reached = rows_are_reached;
      text = scans_make_the_text;
      read_again = tests_are_read_again;
    }
