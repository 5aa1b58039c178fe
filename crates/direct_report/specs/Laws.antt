-- What the report consists of, part by part.
use Rattle.std.specs.Prelude.{◌≡◌, ◌≤◌, Bool, List, [], ◌∷◌, ◌++◌, map, filter, length, All}
use Rattle.instruments.specs.After.{machine_of}
use Rattle.instruments.specs.Machine.{count_log}
use Rattle.instruments.specs.Seen.{SeenModel}
use Rattle.instruments.specs.declared.Counts.{Counts}
use Rattle.net_graph.specs.Named.{IsBitOf}
use Rattle.net_graph.specs.Nets.{IsNet}
use Rattle.net_graph.specs.SeenSteps.{SeenStep}
use Rattle.net_graph.specs.Steps.{IsGroup}
use Rattle.net_graph.specs.SeenSteps.{SeenGroup}
use Rattle.net_graph.specs.declared.net.Net.{Net}
use Rattle.net_graph.specs.declared.step.ReadBit.{ReadBit}
use Rattle.pdl_meaning.specs.Direct.{Direct, do_step}
use Rattle.direct_report.specs.Report.{end_text, in_order, report_from, step_lines}

-- the report from a step on is the lines of that step and the report of the steps after it
abbrev pub StepsComeInOrder : Type 0
StepsComeInOrder =
    (net : Net) (models : List SeenModel) (d : Direct Counts) (s : SeenStep) (ss : List SeenStep)
    → report_from net models d (s ∷ ss) ≡ step_lines net (map machine_of models) d s
    ++ report_from net models (do_step count_log net (map machine_of models) d s) ss

-- with no step left it is its end
abbrev pub TheEndComesLast : Type 0
TheEndComesLast = (net : Net) (models : List SeenModel) (d : Direct Counts)
    → report_from net models d [] ≡ end_text net models d

-- no read is lost where reads are put in order, and none is told twice
abbrev pub OrderKeepsReads : Type 0
OrderKeepsReads = (net : Net) (reads : List (ReadBit × Bool)) → All (λ x. IsBitOf net x.0.bit) reads
    → (test : ReadBit × Bool → Bool) → length (filter test (in_order net reads)) ≡ length (filter test reads)

-- a round reads at most 4096 bits
abbrev pub ReadsAreFew : Type 0
ReadsAreFew = (net : Net) (g : SeenGroup) → IsNet net → IsGroup net g → length g.reads ≤ 4096
