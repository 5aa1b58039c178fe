-- A direct meaning that counts events, step by step.
use Rattle.std.proofs.Common.{◌≡◌, ℕ, zero, suc, Bool, List, [], ◌∷◌, ◌++◌, refl, ap, ◌∙◌}
use Rattle.std.specs.Prelude.{map}
use Rattle.instruments.specs.declared.Counts.{Counts}
use Rattle.instruments.specs.Machine.{Event, Machine, Run as RunEvent, Reset as ResetEvent, count_log}
use Rattle.instruments.specs.Machine.{whole_log}
use Rattle.instruments.specs.OnNetwork.{Running}
use Rattle.net_graph.specs.declared.net.Net.{Net}
use Rattle.net_graph.specs.declared.step.ReadBit.{ReadBit}
use Rattle.net_graph.specs.Resets.{reset_holds}
use Rattle.net_graph.specs.SeenSteps.{SeenGroup, SeenStep, Apply, Run, Reset}
use Rattle.net_graph.specs.Signals.{signal, capture_signal}
use Rattle.net_graph.specs.Writes.{write_all}
use Rattle.net_bench.proofs.Forgetting.{all_have_tallied, changes_tallied, outputs_tallied, fresh_tallied}
use Rattle.pdl_meaning.specs.Direct.{Direct, do_all, do_group, do_rounds, do_step, found, power_up}
use Rattle.pdl_meaning.specs.Direct.{run_cycles}
use Rattle.ijtag_work.specs.Laws.{MeaningsAreCounted, with_counts}

module _ (net : Net) (machines : List Machine) where
  found_counted : (d : Direct (List Event)) (r : ReadBit)
      → found count_log net machines (with_counts d) r ≡ found whole_log net machines d r
  found_counted d r =
      ap (λ outs. (r, signal outs d.holds (capture_signal net r.bit))) (outputs_tallied machines d.insts)

  all_found : (d : Direct (List Event)) (rs : List ReadBit)
      → map (found count_log net machines (with_counts d)) rs ≡ map (found whole_log net machines d) rs
  all_found d [] = refl
  all_found d (r ∷ rs) =
      ap (λ x. x ∷ map (found count_log net machines (with_counts d)) rs) (found_counted d r)
      ∙ ap (λ xs. found whole_log net machines d r ∷ xs) (all_found d rs)

  group_counted : (d : Direct (List Event)) (g : SeenGroup)
      → do_group count_log net machines (with_counts d) g ≡ with_counts (do_group whole_log net machines d g)
  group_counted d g =
      let after = write_all d.holds g.writes in
      ap (λ (xs : List (Running Counts)). record {
        holds = after;
        insts = xs;
        reads = d.reads ++ map (found count_log net machines (with_counts d)) g.reads;
      })
      (changes_tallied net machines d.holds after d.insts)
      ∙ ap (λ (rs : List (ReadBit × Bool)). record (with_counts (do_group whole_log net machines d g))
      { reads = d.reads ++ rs }) (all_found d g.reads)

  rounds_counted : (gs : List SeenGroup) (d : Direct (List Event))
      → do_rounds count_log net machines (with_counts d) gs
      ≡ with_counts (do_rounds whole_log net machines d gs)
  rounds_counted [] d = refl
  rounds_counted (g ∷ gs) d =
      ap (λ (k : Direct Counts). do_rounds count_log net machines k gs) (group_counted d g)
      ∙ rounds_counted gs (do_group whole_log net machines d g)

  cycles_counted : (n : ℕ) (d : Direct (List Event)) → run_cycles count_log net machines n (with_counts d)
      ≡ with_counts (run_cycles whole_log net machines n d)
  cycles_counted zero d = refl
  cycles_counted (suc n) d =
      ap (λ (xs : List (Running Counts)). run_cycles count_log net machines n
      (record (with_counts d) { insts = xs })) (all_have_tallied net machines RunEvent d.holds d.insts)
      ∙ cycles_counted n _

  step_counted : (d : Direct (List Event)) (s : SeenStep)
      → do_step count_log net machines (with_counts d) s ≡ with_counts (do_step whole_log net machines d s)
  step_counted d (Apply gs) = rounds_counted gs d
  step_counted d (Run n) = cycles_counted n d
  step_counted d Reset =
      let after = reset_holds net d.holds in
      ap (λ (xs : List (Running Counts)). record { holds = after; insts = xs; reads = d.reads })
      (all_have_tallied net machines ResetEvent after d.insts)

  all_counted : (ss : List SeenStep) (d : Direct (List Event))
      → do_all count_log net machines (with_counts d) ss ≡ with_counts (do_all whole_log net machines d ss)
  all_counted [] d = refl
  all_counted (s ∷ ss) d =
      ap (λ (k : Direct Counts). do_all count_log net machines k ss) (step_counted d s)
      ∙ all_counted ss (do_step whole_log net machines d s)

  start_counted : power_up count_log net machines ≡ with_counts (power_up whole_log net machines)
  start_counted =
      ap (λ (xs : List (Running Counts)). record (power_up count_log net machines) { insts = xs })
      (fresh_tallied machines)

pub meanings_are_counted : MeaningsAreCounted
meanings_are_counted net machines steps =
    ap (λ (k : Direct Counts). do_all count_log net machines k steps) (start_counted net machines)
    ∙ all_counted net machines steps (power_up whole_log net machines)
