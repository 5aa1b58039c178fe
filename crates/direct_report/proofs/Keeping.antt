-- What is kept of a meaning, from step to step.
use Rattle.std.proofs.Common.{◌≡◌, ◌+◌, ℕ, List, ◌++◌, length, ap, ◌∙◌, arith}
use Rattle.std.specs.Prelude.{map}
use Rattle.instruments.specs.After.{machine_of}
use Rattle.instruments.specs.Machine.{Machine, Reset as ResetEvent, count_log}
use Rattle.instruments.specs.OnNetwork.{Running, all_have}
use Rattle.instruments.specs.Seen.{SeenModel, seen_model}
use Rattle.instruments.specs.declared.Counts.{Counts}
use Rattle.instruments.specs.declared.model.Model.{Model}
use Rattle.net_graph.specs.Resets.{reset_holds}
use Rattle.net_graph.specs.SeenSteps.{SeenGroup, Apply, Reset, Run}
use Rattle.net_graph.specs.Signals.{Holds}
use Rattle.net_graph.specs.declared.net.Net.{Net}
use Rattle.pdl_meaning.specs.Direct.{Direct, do_rounds, do_step, run_cycles}
use Rattle.pdl_meaning.specs.States.{Reads, SeenState, direct_at, with_reads}
use Rattle.report.specs.Registers.{registers_text}
use Rattle.report.specs.Totalled.{direct_text}
use Rattle.report.specs.Instruments.{instruments_text}
use Rattle.instruments.specs.Runners.{machines_of}
use Rattle.direct_report.specs.Going.{AreCounted, SameState}
use Rattle.direct_report.specs.Tally.{Tally, Keeps}
use Rattle.direct_report.specs.Report.{differing, end_text, rounds_lines, step_lines}
use Rattle.instruments.proofs.Machines.{machines_are}

-- a run that stands for a meaning, with the meaning's reads, is the meaning
pub same_as : (s : SeenState) (d : Direct Counts) → s.holds ≡ d.holds
    → s.insts ≡ d.insts → with_reads s d.reads ≡ d
same_as s d h i =
    ap (λ (x : Holds). direct_at x s.insts d.reads) h
    ∙ ap (λ (x : List (Running Counts)). direct_at d.holds x d.reads) i

-- what a run keeps, by the parts of its state
abbrev pub kept_at : Net → List SeenModel → SeenState → ℕ → ℕ → Tally
kept_at net ms s reads differ =
    record { net = net; models = ms; holds = s.holds; insts = s.insts; reads = reads; differs = differ }

module _ (net : Net) (models : List Model) (s after : SeenState) (reads differ : ℕ) (n : s.net ≡ net)
    (m : s.models ≡ models) (d : Direct Counts)
    (k : Keeps (kept_at net (map seen_model models) s reads differ) d) where
  machines_same : machines_of s.models ≡ map machine_of (map seen_model models)
  machines_same = ap machines_of m ∙ machines_are models

  -- this many cycles
  pub after_run : (cycles : ℕ) → ((rs : Reads)
      → with_reads after rs ≡ run_cycles count_log s.net (machines_of s.models) cycles (with_reads s rs))
      → Keeps (kept_at net (map seen_model models) after reads differ)
      (do_step count_log net (map machine_of (map seen_model models)) d (Run cycles))
  after_run cycles run =
      let all : with_reads after d.reads
      ≡ run_cycles count_log net (map machine_of (map seen_model models)) cycles d =
      run d.reads
      ∙ ap (λ (x : Net). run_cycles count_log x (machines_of s.models) cycles (with_reads s d.reads)) n
      ∙ ap (λ (x : List Machine). run_cycles count_log net x cycles (with_reads s d.reads)) machines_same
      ∙ ap (run_cycles count_log net (map machine_of (map seen_model models)) cycles)
      (same_as s d k.holds k.insts) in
      record {
        holds = ap (λ (x : Direct Counts). x.holds) all;
        insts = ap (λ (x : Direct Counts). x.insts) all;
        reads = k.reads ∙ ap (λ (x : Direct Counts). length x.reads) all;
        differs = k.differs ∙ ap (λ (x : Direct Counts). length (differing x)) all;
      }

  -- a reset
  pub after_reset : after ≡ record s {
    holds = reset_holds s.net s.holds;
    insts = all_have count_log s.net (machines_of s.models) ResetEvent (reset_holds s.net s.holds) s.insts;
  }
      → Keeps (kept_at net (map seen_model models) after reads differ)
      (do_step count_log net (map machine_of (map seen_model models)) d Reset)
  after_reset is =
      let holds : reset_holds s.net s.holds ≡ reset_holds net d.holds =
      ap (λ (x : Net). reset_holds x s.holds) n ∙ ap (reset_holds net) k.holds in
      record {
        holds = ap (λ (x : SeenState). x.holds) is ∙ holds;
        insts = ap (λ (x : SeenState). x.insts) is
            ∙ ap (λ (x : Net). all_have count_log x
            (machines_of s.models) ResetEvent (reset_holds s.net s.holds) s.insts) n
            ∙ ap (λ (x : List Machine). all_have count_log net x ResetEvent
            (reset_holds s.net s.holds) s.insts) machines_same
            ∙ ap (λ (x : Holds). all_have count_log net
            (map machine_of (map seen_model models)) ResetEvent x s.insts) holds
            ∙ ap (λ (x : List (Running Counts)). all_have count_log net
            (map machine_of (map seen_model models)) ResetEvent (reset_holds net d.holds) x) k.insts;
        reads = k.reads;
        differs = k.differs;
      }

  -- the rounds of an iApply
  pub after_rounds : (gs : List SeenGroup) (told differing_told : ℕ)
      → SameState after (do_rounds count_log net (machines_of s.models) d gs)
      → AreCounted told differing_told d (do_rounds count_log net (machines_of s.models) d gs)
      → Keeps (kept_at net (map seen_model models) after (reads + told) (differ + differing_told))
      (do_step count_log net (map machine_of (map seen_model models)) d (Apply gs))
  after_rounds gs told differing_told stands counted =
      let same : do_rounds count_log net (machines_of s.models) d gs
      ≡ do_rounds count_log net (map machine_of (map seen_model models)) d gs =
      ap (λ (x : List Machine). do_rounds count_log net x d gs) machines_same in
      record {
        holds = stands.holds ∙ ap (λ (x : Direct Counts). x.holds) same;
        insts = stands.insts ∙ ap (λ (x : Direct Counts). x.insts) same;
        reads = omega (arith, k.reads, counted.reads, ap (λ (x : Direct Counts). length x.reads) same);
        differs =
            omega (arith, k.differs, counted.differs, ap (λ (x : Direct Counts). length (differing x)) same);
      }

  -- the lines of an iApply
  pub lines_same : (gs : List SeenGroup) → rounds_lines net (machines_of s.models) d gs
      ≡ step_lines net (map machine_of (map seen_model models)) d (Apply gs)
  lines_same gs = ap (λ (x : List Machine). rounds_lines net x d gs) machines_same

  pub stands_now : SameState s d
  stands_now = record { holds = k.holds; insts = k.insts }

  -- the end of the report
  pub end_same : registers_text net s.holds
      ++ (instruments_text net (map seen_model models) s.insts ++ direct_text reads differ)
      ≡ end_text net (map seen_model models) d
  end_same =
      ap (λ (x : Holds). registers_text net x
      ++ (instruments_text net (map seen_model models) s.insts ++ direct_text reads differ)) k.holds
      ∙ ap (λ (x : List (Running Counts)). registers_text net d.holds
      ++ (instruments_text net (map seen_model models) x ++ direct_text reads differ)) k.insts
      ∙ ap (λ (x : ℕ). registers_text net d.holds
      ++ (instruments_text net (map seen_model models) d.insts ++ direct_text x differ)) k.reads
      ∙ ap (λ (x : ℕ). registers_text net d.holds ++ (instruments_text net (map seen_model models) d.insts
      ++ direct_text (length d.reads) x)) k.differs
