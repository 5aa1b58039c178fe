-- What is printed of bit steps in a row, and what is kept of their meaning after them, whatever was done
-- before.
use Rattle.std.specs.Prelude.{ℕ, List, Option, map}
use Rattle.ij_io.specs.Bytes.{Adds, AddsPart}
use Rattle.instruments.specs.After.{machine_of}
use Rattle.instruments.specs.Machine.{count_log}
use Rattle.instruments.specs.declared.Counts.{Counts}
use Rattle.net_graph.specs.SeenSteps.{SeenStep}
use Rattle.pdl_meaning.specs.Direct.{Direct, do_all}
use Rattle.direct_report.specs.Tally.{Tally, Keeps}
use Rattle.direct_report.specs.Report.{steps_lines}

abbrev pub lines_from : Tally → Direct Counts → List SeenStep → List ℕ
lines_from k d steps = steps_lines k.net (map machine_of k.models) d steps

abbrev pub done_from : Tally → Direct Counts → List SeenStep → Direct Counts
done_from k d steps = do_all count_log k.net (map machine_of k.models) d steps

abbrev pub PrintsSteps : Tally → List SeenStep → Option (List ℕ) → Option (List ℕ) → Type 0
PrintsSteps k steps old new = (d : Direct Counts) → Keeps k d → Adds old new (lines_from k d steps)

abbrev pub PrintsStepsPart : Tally → List SeenStep → Option (List ℕ) → Option (List ℕ) → Type 0
PrintsStepsPart k steps old new = (d : Direct Counts) → Keeps k d → AddsPart old new (lines_from k d steps)

abbrev pub KeepsSteps : Tally → List SeenStep → Tally → Type 0
KeepsSteps k steps after = (d : Direct Counts) → Keeps k d → Keeps after (done_from k d steps)
