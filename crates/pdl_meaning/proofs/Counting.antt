-- Steps keep the number of instruments.
use Rattle.std.proofs.Common.{◌≡◌, ℕ, zero, suc, List, [], ◌∷◌, length, refl, ap, ◌∙◌}
use Rattle.std.specs.Prelude.{Result, Ok, Err, OnOk, OnErr}
use Rattle.instruments.specs.Machine.{Machine, Run as RunEvent, Reset as ResetEvent, count_log}
use Rattle.instruments.specs.OnNetwork.{Running, change_of, each_from, happens, inputs_at, machine_at}
use Rattle.instruments.specs.Runners.{machines_of}
use Rattle.instruments.specs.declared.Counts.{Counts}
use Rattle.net_graph.specs.Resets.{reset_holds}
use Rattle.net_graph.specs.SeenSteps.{SeenGroup, SeenStep, Apply, Run, Reset}
use Rattle.net_graph.specs.Writes.{write_all}
use Rattle.net_graph.specs.declared.net.Net.{Net}
use Rattle.pdl_meaning.specs.States.{SeenDirect}
use Rattle.pdl_meaning.specs.Direct.{Direct, do_group, do_rounds, do_step, run_cycles}

each_counted : {X : Type 0} (f : ℕ → X → X) (n : ℕ) (xs : List X) → length (each_from f n xs) ≡ length xs
each_counted f n [] = refl
each_counted f n (x ∷ xs) = ap suc (each_counted f (suc n) xs)

module _ (net : Net) (machines : List Machine) where
  rounds_counted : (gs : List SeenGroup) (d : Direct Counts)
      → length (do_rounds count_log net machines d gs).insts ≡ length d.insts
  rounds_counted [] d = refl
  rounds_counted (g ∷ gs) d =
      let after = write_all d.holds g.writes in
      rounds_counted gs (do_group count_log net machines d g)
      ∙ each_counted (λ i x. change_of count_log (machine_at machines i)
      (inputs_at net d.holds i) (inputs_at net after i) x) zero d.insts

  cycles_counted : (n : ℕ) (d : Direct Counts)
      → length (run_cycles count_log net machines n d).insts ≡ length d.insts
  cycles_counted zero d = refl
  cycles_counted (suc n) d =
      let next : ℕ → Running Counts → Running Counts =
      λ i x. happens count_log (machine_at machines i) RunEvent (inputs_at net d.holds i) x in
      cycles_counted n (record d { insts = each_from next zero d.insts }) ∙ each_counted next zero d.insts

  pub step_counted : (s : SeenStep) (d : Direct Counts)
      → length (do_step count_log net machines d s).insts ≡ length d.insts
  step_counted (Apply rounds) d = rounds_counted rounds d
  step_counted (Run n) d = cycles_counted n d
  step_counted Reset d =
      let after = reset_holds net d.holds in
      each_counted
      (λ i x. happens count_log (machine_at machines i) ResetEvent (inputs_at net after i) x) zero d.insts

-- whether a step is done, or all is as before it
pub kept_counted : {A E : Type 0} (r : Result A E) (s : SeenStep) (before after : SeenDirect) → OnOk r (after
    ≡ record before { state = do_step count_log before.net (machines_of before.models) before.state s })
    → OnErr r (after ≡ before) → length after.state.insts ≡ length before.state.insts
kept_counted (Ok u) s before after done same = ap (λ (d : SeenDirect). length d.state.insts) done
    ∙ step_counted before.net (machines_of before.models) s before.state
kept_counted (Err e) s before after done same = ap (λ (d : SeenDirect). length d.state.insts) same
