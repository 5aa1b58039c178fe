-- An instrument sees of a merge what one branch alone would show it.
use Rattle.std.proofs.Common.{◌≡◌, ◌≤◌, ◌+◌, ⊎_elim, ℕ, zero, suc, Bool, true, false, cond, List, [], ◌∷◌}
use Rattle.std.proofs.Common.{◌++◌, length, length-append, map, None, Some, refl, sym, ap, ◌∙◌, arith}
use Rattle.std.specs.Prelude.{filter, flat_map, ◌==◌}
use Rattle.std.proofs.lemmas.List.Elements.{filter-append}
use Rattle.net_graph.specs.declared.net.Net.{Net}
use Rattle.net_graph.specs.declared.step.WriteBit.{WriteBit}
use Rattle.net_graph.specs.SeenSteps.{SeenGroup, SeenStep, Apply, Run, Reset}
use Rattle.net_graph.specs.Signals.{Holds}
use Rattle.net_graph.specs.Writes.{write_all}
use Rattle.net_graph.proofs.Shapes.{shape}
use Rattle.net_graph.proofs.Writing.{write_all-shape}
use Rattle.instruments.specs.Machine.{Event, Machine, Run as RunEvent, whole_log}
use Rattle.instruments.specs.OnNetwork.{all_have, change_of, changes, happens, inputs_at, machine_at}
use Rattle.instruments.proofs.Changing.{changes_none}
use Rattle.pdl_meaning.specs.Direct.{Direct, do_all, do_group, do_rounds, do_step, run_cycles}
use Rattle.pdl_targets.specs.Binding.{run_of}
use Rattle.pdl_targets.specs.Laws.{rounds_of}
use Rattle.pdl_targets.specs.Rounds.{Places}
use Rattle.merge_order.specs.Merge.{Branch, all_joins, applies_in, firsts, if_any, later, longest}
use Rattle.merge_order.specs.Merge.{longest_run, merged, turn, turns}
use Rattle.merge_order.specs.MergeLaws.{InstrumentsSeeTheirBranch}
use Rattle.merge_order.specs.Order.{StandIn, Does, DoBranch, DoRounds}
use Rattle.merge_order.specs.Seeing.{feeds}
use Rattle.merge_order.proofs.MergeAlone.{branch_stands, counted_writes, do_one, parts_in, rounds_stand}
use Rattle.merge_order.proofs.MergeAlone.{step_stands, writes_are, writes_kept}
use Rattle.merge_order.proofs.Events.{Insts, changes_both, each_length, run_unseen, seen}
use Rattle.merge_order.proofs.Inputs.{Alike, inputs_same, written_alike}
use Rattle.merge_order.proofs.Standing.{stand_all, stand_few, stand_filtered}

-- ---- a merge has no reset

abbrev NoReset : List SeenStep → Type 0
NoReset [] = Unit {0}
NoReset (Apply rounds ∷ ms) = NoReset ms
NoReset (Run n ∷ ms) = NoReset ms
NoReset (Reset ∷ ms) = ⊥

no_reset_both : (ms ns : List SeenStep) → NoReset ms → NoReset ns → NoReset (ms ++ ns)
no_reset_both [] ns h k = k
no_reset_both (Apply rounds ∷ ms) ns h k = no_reset_both ms ns h k
no_reset_both (Run n ∷ ms) ns h k = no_reset_both ms ns h k
no_reset_both (Reset ∷ ms) ns h k = absurd h

no_reset_applies : (applies : List (List SeenGroup)) → NoReset (map Apply applies)
no_reset_applies [] = tt
no_reset_applies (a ∷ rest) = no_reset_applies rest

no_reset_run : (n : ℕ) → NoReset (if_any (run_of n))
no_reset_run n = by_test (n == 0)
  where
    by_test : (t : Bool) → NoReset (if_any (cond t None (Some (Run n))))
    by_test true = tt
    by_test false = tt

module _ (places : Places) where
  no_reset_turns : (n : ℕ) (bs : List Branch) → NoReset (turns places n bs)
  no_reset_turns zero bs = tt
  no_reset_turns (suc n) bs =
      no_reset_both (turn places (firsts bs)) (turns places n (later bs))
      (no_reset_both (map Apply (all_joins places (applies_in (firsts bs)))) (if_any
      (run_of (longest_run (firsts bs)))) (no_reset_applies (all_joins places (applies_in (firsts bs))))
      (no_reset_run (longest_run (firsts bs))))
      (no_reset_turns n (later bs))

-- ---- two ways on, of which one instrument sees the same

module _ (net : Net) (machines : List Machine) (i : ℕ) where
  abbrev State : Type 0
  State = Direct (List Event)

  abbrev fed_writes : List WriteBit → List WriteBit
  fed_writes ws = filter (λ w. feeds net i w.bit) ws

  record Same (d e : State) : Type 0 where
    shapes : shape d.holds ≡ shape e.holds
    alike : Alike (feeds net i) d.holds e.holds
    insts : length d.insts ≡ length e.insts
    changes : seen d.insts i ≡ seen e.insts i

  same_itself : (d : State) → Same d d
  same_itself d = record { shapes = refl; alike = λ c is. refl; insts = refl; changes = refl }

  -- ---- rounds

  changed_length : (a b : Holds) (xs : Insts) → length (changes whole_log net machines a b xs) ≡ length xs
  changed_length a b xs = each_length
      (λ i x. change_of whole_log (machine_at machines i) (inputs_at net a i) (inputs_at net b i) x) zero xs

  both_groups : (d e : State) (h g : SeenGroup) → Same d e → fed_writes h.writes ≡ fed_writes g.writes
      → Same (do_group whole_log net machines d h) (do_group whole_log net machines e g)
  both_groups d e h g s same =
      let after = written_alike (feeds net i) h.writes g.writes d.holds e.holds s.shapes s.alike same in
      record {
        shapes = write_all-shape h.writes d.holds ∙ s.shapes ∙ sym (write_all-shape g.writes e.holds);
        alike = after;
        insts = changed_length d.holds (write_all d.holds h.writes) d.insts ∙ s.insts
            ∙ sym (changed_length e.holds (write_all e.holds g.writes) e.insts);
        changes =
            changes_both net machines i d.holds (write_all d.holds h.writes) e.holds
            (write_all e.holds g.writes) d.insts e.insts
            (inputs_same d.holds e.holds net i s.alike) (inputs_same (write_all d.holds h.writes)
            (write_all e.holds g.writes) net i after) s.insts s.changes;
      }

  -- a group that writes nothing that the instrument sees
  left_group : (d e : State) (h : SeenGroup) → Same d e → fed_writes h.writes ≡ []
      → Same (do_group whole_log net machines d h) e
  left_group d e h s none =
      let after = written_alike (feeds net i) h.writes [] d.holds e.holds s.shapes s.alike none in
      record {
        shapes = write_all-shape h.writes d.holds ∙ s.shapes;
        alike = after;
        insts = changed_length d.holds (write_all d.holds h.writes) d.insts ∙ s.insts;
        changes =
            changes_both net machines i d.holds (write_all d.holds h.writes) e.holds e.holds d.insts e.insts
            (inputs_same d.holds e.holds net i s.alike)
            (inputs_same (write_all d.holds h.writes) e.holds net i after) s.insts s.changes
            ∙ ap (λ xs. seen xs i) (changes_none whole_log net machines e.holds e.holds e.insts (λ j. refl));
      }

  abbrev in_rounds : List SeenGroup → List WriteBit
  in_rounds gs = flat_map (λ g. g.writes) gs

  abbrev number : List WriteBit → ℕ
  number ws = length (fed_writes ws)

  number_both : (ws vs : List WriteBit) → number (ws ++ vs) ≡ number ws + number vs
  number_both ws vs = ap length (filter-append (λ w. feeds net i w.bit) ws vs)
      ∙ length-append (fed_writes ws) (fed_writes vs)

  stand_number : (ws vs : List WriteBit) → StandIn ws vs → number ws ≤ number vs
  stand_number ws vs h =
      stand_few (fed_writes ws) (fed_writes vs) (stand_filtered (λ w. feeds net i w.bit) ws vs h)

  stand_same : (ws vs : List WriteBit) → StandIn ws vs → number vs ≤ number ws → fed_writes vs ≡ fed_writes ws
  stand_same ws vs h n =
      stand_all (fed_writes ws) (fed_writes vs) (stand_filtered (λ w. feeds net i w.bit) ws vs h) n

  none_of : (ws : List WriteBit) → number ws ≤ 0 → fed_writes ws ≡ []
  none_of ws n = stand_same [] ws tt n

  both_rounds : (d e : State) (hs gs : List SeenGroup) → Same d e → DoRounds hs gs
      → number (in_rounds hs) ≤ number (in_rounds gs)
      → Same (do_rounds whole_log net machines d hs) (do_rounds whole_log net machines e gs)
  both_rounds d e [] [] s h n = s
  both_rounds d e [] (g ∷ gs) s h n = absurd h
  both_rounds d e (h ∷ hs) [] s k n = absurd k
  both_rounds d e (h ∷ hs) (g ∷ gs) s k n =
      let left = number_both h.writes (in_rounds hs) in
      let right = number_both g.writes (in_rounds gs) in
      let first = stand_number g.writes h.writes k.0.0 in
      let rest = stand_number (in_rounds gs) (in_rounds hs)
      (rounds_stand (λ g. g.writes) writes_kept hs gs k.1) in
      let same = stand_same g.writes h.writes k.0.0 (omega (arith, n, left, right, first, rest)) in
      both_rounds (do_group whole_log net machines d h) (do_group whole_log net machines e g) hs gs
      (both_groups d e h g s same) k.1 (omega (arith, n, left, right, first, rest))

  left_rounds : (d e : State) (hs : List SeenGroup) → Same d e → number (in_rounds hs) ≤ 0
      → Same (do_rounds whole_log net machines d hs) e
  left_rounds d e [] s n = s
  left_rounds d e (h ∷ hs) s n =
      let left = number_both h.writes (in_rounds hs) in
      left_rounds (do_group whole_log net machines d h) e hs
      (left_group d e h s (none_of h.writes (omega (arith, n, left)))) (omega (arith, n, left))

  -- ---- runs

  run_length : (h : Holds) (xs : Insts) → length (all_have whole_log net machines RunEvent h xs) ≡ length xs
  run_length h xs =
      each_length (λ i x. happens whole_log (machine_at machines i) RunEvent (inputs_at net h i) x) zero xs

  left_run : (n : ℕ) (d e : State) → Same d e → Same (run_cycles whole_log net machines n d) e
  left_run zero d e s = s
  left_run (suc n) d e s =
      left_run n (record d { insts = all_have whole_log net machines RunEvent d.holds d.insts }) e
      (record {
        shapes = s.shapes;
        alike = s.alike;
        insts = run_length d.holds d.insts ∙ s.insts;
        changes = run_unseen net machines i d.holds d.insts ∙ s.changes;
      })

  right_run : (n : ℕ) (d e : State) → Same d e → Same d (run_cycles whole_log net machines n e)
  right_run zero d e s = s
  right_run (suc n) d e s =
      right_run n d (record e { insts = all_have whole_log net machines RunEvent e.holds e.insts })
      (record {
        shapes = s.shapes;
        alike = s.alike;
        insts = s.insts ∙ sym (run_length e.holds e.insts);
        changes = s.changes ∙ sym (run_unseen net machines i e.holds e.insts);
      })

  -- ---- bit steps

  abbrev in_step : SeenStep → List WriteBit
  in_step s = in_rounds (rounds_of (Some s))

  abbrev in_steps : List SeenStep → List WriteBit
  in_steps ss = parts_in (λ g. g.writes) writes_kept ss

  both_steps : (d e : State) (m s : SeenStep) → Same d e → Does m s → number (in_step m) ≤ number (in_step s)
      → Same (do_step whole_log net machines d m) (do_step whole_log net machines e s)
  both_steps d e (Apply hs) (Apply gs) s h n = both_rounds d e hs gs s h n
  both_steps d e (Apply hs) (Run k) s h n = absurd h
  both_steps d e (Apply hs) Reset s h n = absurd h
  both_steps d e (Run m) (Apply gs) s h n = absurd h
  both_steps d e (Run m) (Run k) s h n =
      right_run k (run_cycles whole_log net machines m d) e (left_run m d e s)
  both_steps d e (Run m) Reset s h n = absurd h
  both_steps d e Reset t s h n = absurd h

  left_step : (d e : State) (m : SeenStep) (ms : List SeenStep) → Same d e → NoReset (m ∷ ms)
      → number (in_step m) ≤ 0 → Same (do_step whole_log net machines d m) e
  left_step d e (Apply hs) ms s h n = left_rounds d e hs s n
  left_step d e (Run m) ms s h n = left_run m d e s
  left_step d e Reset ms s h n = absurd h

  no_reset_rest : (m : SeenStep) (ms : List SeenStep) → NoReset (m ∷ ms) → NoReset ms
  no_reset_rest (Apply hs) ms h = h
  no_reset_rest (Run m) ms h = h
  no_reset_rest Reset ms h = absurd h

  all_steps : (d e : State) (ms : List SeenStep) (b : Branch) → Same d e → NoReset ms → DoBranch ms b
      → number (in_steps ms) ≤ number (in_steps b)
      → Same (do_all whole_log net machines d ms) (do_all whole_log net machines e b)
  all_steps d e [] [] s r h n = s
  all_steps d e [] (t ∷ ts) s r h n = absurd h
  all_steps d e (m ∷ ms) [] s r h n =
      let two = number_both (in_step m) (in_steps ms) in
      all_steps (do_step whole_log net machines d m) e ms [] (left_step d e m ms s r (omega (arith, n, two)))
      (no_reset_rest m ms r) tt (omega (arith, n, two))
  all_steps d e (m ∷ ms) (t ∷ ts) s r h n =
      ⊎_elim (here (λ x y. all_steps x y ms ts)) (later_on (λ x. all_steps x e ms (t ∷ ts))) h
    where
      here : ((x y : State) → Same x y → NoReset ms → DoBranch ms ts
          → number (in_steps ms) ≤ number (in_steps ts)
          → Same (do_all whole_log net machines x ms) (do_all whole_log net machines y ts))
          → (Does m t × DoBranch ms ts)
          → Same (do_all whole_log net machines (do_step whole_log net machines d m) ms)
          (do_all whole_log net machines (do_step whole_log net machines e t) ts)
      here ih p =
          let two = number_both (in_step m) (in_steps ms) in
          let other = number_both (in_step t) (in_steps ts) in
          let first = stand_number (in_step t) (in_step m)
          (step_stands (λ g. g.writes) writes_kept m t p.0) in
          let rest = stand_number (in_steps ts) (in_steps ms)
          (branch_stands (λ g. g.writes) writes_kept ms ts p.1) in
          ih (do_step whole_log net machines d m) (do_step whole_log net machines e t) (both_steps d e m t s
          p.0 (omega (arith, n, two, other, first, rest))) (no_reset_rest m ms r) p.1
          (omega (arith, n, two, other, first, rest))

      later_on : ((x : State) → Same x e → NoReset ms → DoBranch ms (t ∷ ts)
          → number (in_steps ms) ≤ number (in_steps (t ∷ ts))
          → Same (do_all whole_log net machines x ms) (do_all whole_log net machines e (t ∷ ts)))
          → DoBranch ms (t ∷ ts)
          → Same (do_all whole_log net machines (do_step whole_log net machines d m) ms)
          (do_all whole_log net machines (do_step whole_log net machines e t) ts)
      later_on ih q =
          let two = number_both (in_step m) (in_steps ms) in
          let rest = stand_number (in_steps (t ∷ ts)) (in_steps ms)
          (branch_stands (λ g. g.writes) writes_kept ms (t ∷ ts) q) in
          ih (do_step whole_log net machines d m) (left_step d e m ms s r (omega (arith, n, two, rest)))
          (no_reset_rest m ms r) q (omega (arith, n, two))

pub instruments_see_their_branch : InstrumentsSeeTheirBranch
instruments_see_their_branch net machines d places before b following i are h k =
    let ms = merged places (before ++ b ∷ following) in
    let counted = counted_writes places before b following (λ w. feeds net i w.bit) h k in
    let left = ap (λ l. length (filter (λ (w : WriteBit). feeds net i w.bit) l)) (writes_are ms) in
    let right = ap (λ l. length (filter (λ (w : WriteBit). feeds net i w.bit) l)) (writes_are b) in
    (all_steps net machines i d d ms b (same_itself net machines i d) (no_reset_turns places
    (longest (before ++ b ∷ following)) (before ++ b ∷ following)) (do_one places before b following are)
    (omega (arith, counted, left, right))).changes
