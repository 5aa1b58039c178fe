-- Run cycles one by one, as a loop does.
use Rattle.std.proofs.Common.{◌≡◌, ℕ, suc, Bool, List, sym, ap, ◌∙◌, length, subst}
use Rattle.std.specs.Prelude.{map}
use Rattle.std.proofs.lemmas.List.{length-map}
use Rattle.instruments.specs.Arrays.{StandFor}
use Rattle.instruments.specs.Machine.{Machine, Run, count_log}
use Rattle.instruments.specs.OnNetwork.{Running, all_have, inputs_at}
use Rattle.instruments.specs.declared.Counts.{Counts}
use Rattle.instruments.specs.declared.model.Model.{Model}
use Rattle.net_graph.specs.Signals.{Holds}
use Rattle.net_graph.specs.declared.net.Net.{Net}
use Rattle.net_graph.specs.declared.step.ReadBit.{ReadBit}
use Rattle.pdl_meaning.specs.Direct.{run_cycles}
use Rattle.pdl_meaning.specs.States.{direct_at}
use Rattle.instruments.specs.Runners.{AreRunning}
use Rattle.instruments.specs.declared.runner.Runner.{Runner}
use Rattle.instruments.proofs.Running.{shown_of}

-- one cycle more is done, one less is left
pub one_run : (net : Net) (machines : List Machine) (holds : Holds) (reads : List (ReadBit × Bool))
    (insts after : List (Running Counts)) (n m : ℕ) → n ≡ suc m
    → after ≡ all_have count_log net machines Run holds insts
    → run_cycles count_log net machines m (direct_at holds after reads)
    ≡ run_cycles count_log net machines n (direct_at holds insts reads)
one_run net machines holds reads insts after n m e a =
    ap (λ (x : List (Running Counts)). run_cycles count_log net machines m (direct_at holds x reads)) a
    ∙ sym (ap (λ (k : ℕ). run_cycles count_log net machines k (direct_at holds insts reads)) e)

pub none_left : (net : Net) (machines : List Machine) (holds : Holds) (reads : List (ReadBit × Bool))
    (insts : List (Running Counts)) (n : ℕ) → n ≡ 0
    → direct_at holds insts reads ≡ run_cycles count_log net machines n (direct_at holds insts reads)
none_left net machines holds reads insts n e =
    sym (ap (λ (k : ℕ). run_cycles count_log net machines k (direct_at holds insts reads)) e)

-- the same numbers are shown
pub still_running : (net : Net) (models : List Model) (holds : Holds) (xs ys : List Runner)
    → map (λ r. r.inputs) ys ≡ map (λ r. r.inputs) xs
    → AreRunning net models holds xs → AreRunning net models holds ys
still_running net models holds xs ys e run =
    record {
      fit = run.fit;
      count = sym (length-map ys (λ r. r.inputs)) ∙ ap length e ∙ length-map xs (λ r. r.inputs) ∙ run.count;
      shown = λ i. subst (λ (ns : List ℕ). StandFor ns (inputs_at net holds i))
          (shown_of xs ys i (sym e)) (run.shown i);
    }
