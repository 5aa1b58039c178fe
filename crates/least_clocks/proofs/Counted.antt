-- What a count counts of each piece of work.
use Rattle.std.proofs.Common.{◌≡◌, ℕ, zero, suc, ◌+◌, ◌<◌, Bool, true, false, List, ◌∷◌, ◌++◌, ap, ◌∙◌, arith}
use Rattle.std.specs.Prelude.{cond, replicate}
use Rattle.net_graph.specs.declared.branch.Branch.{Branch}
use Rattle.net_graph.specs.declared.device.Device.{Device}
use Rattle.net_graph.specs.declared.net.Net.{Net}
use Rattle.net_graph.specs.SeenSteps.{SeenGroup}
use Rattle.net_graph.specs.Signals.{Holds}
use Rattle.net_graph.specs.Writes.{write_all}
use Rattle.net_tree.specs.Form.{Items}
use Rattle.tap_machine.specs.declared.Stable.TheVariants.{Idle as InIdle}
use Rattle.svf_audit.specs.Work.{Work, Group, Cycle, is_redundant}
use Rattle.least_clocks.specs.declared.count.Count.{Count}
use Rattle.least_clocks.specs.Counting.{state_of}
use Rattle.least_clocks.specs.Inside.{is_one_of, bits_within_rows}
use Rattle.least_clocks.specs.Least.{State, clocks_to_idle, clocks_to_link, first_scan, is_on_first}
use Rattle.least_clocks.specs.Least.{is_passed, own_scan, round_scan_clocks, was_idle, least_from}
use Rattle.least_clocks.proofs.Moving.{takes}

module _ (net : Net) (form : Items) (device : Device) where
  abbrev from : State → List Work → ℕ
  from s ws = least_from net form device s ws

  abbrev counted : Count → List Work → ℕ
  counted c ws = c.clocks + from (state_of c) ws

  idle_cycles : (s : State) (n : ℕ) (left : List Work)
      → from (was_idle s) (replicate n Cycle ++ left) ≡ n + from (was_idle s) left
  idle_cycles s zero left = omega arith
  idle_cycles s (suc n) left = omega (arith, idle_cycles s n left)

  some_cycles : (s : State) (n : ℕ) (left : List Work) → 0 < n
      → from s (replicate n Cycle ++ left) ≡ clocks_to_idle s.rest + (n + from (was_idle s) left)
  some_cycles s zero left l = absurd (omega (arith, l))
  some_cycles s (suc n) left l = omega (arith, idle_cycles s n left)

  pub run_counted : (c d : Count) (n m : ℕ) → 0 < n → m ≡ n
      → d ≡ record c { rest = InIdle; clocks = c.clocks + clocks_to_idle c.rest } → (left : List Work)
      → counted (record d { clocks = d.clocks + m }) left ≡ counted c (replicate n Cycle ++ left)
  run_counted c d n m l is e left =
      let to = ap (λ (x : Count). counted (record x { clocks = x.clocks + m }) left) e in
      let ran = some_cycles (state_of c) n left l in
      omega (arith, to, ran, is)

  pub round_counted : (c d : Count) (g : SeenGroup) (n : ℕ) (h : Holds)
      → is_redundant c.holds (Group g) ≡ false → n ≡ round_scan_clocks net form c.fresh c.holds g
      → d ≡ record c {
        fresh = false;
        linked = true;
        rest = InIdle;
        clocks = c.clocks + (clocks_to_idle c.rest + (clocks_to_link device c.linked + n));
      }
      → h ≡ write_all d.holds g.writes → (left : List Work)
      → counted (record d { holds = h }) left ≡ counted c (Group g ∷ left)
  round_counted c d g n h redundant clocks e held left =
      let written : h ≡ write_all c.holds g.writes =
      held ∙ ap (λ (x : Count). write_all x.holds g.writes) e in
      let to = ap (λ (x : Count). counted (record x { holds = h }) left) e in
      let later =
      ap (λ k. from (record { fresh = false; linked = true; rest = InIdle; holds = k }) left) written in
      let taken = takes net form device c.fresh c.linked c.rest c.holds g left redundant in
      omega (arith, to, later, taken, clocks)

-- the clocks of a round's own scan, of the rows that were found
pub own_counted : (net : Net) (form : Items) (holds : Holds) (g : SeenGroup) (rows : List Branch) (bits : ℕ)
    → ((b : Branch) → is_one_of rows b ≡ is_passed form holds g b)
    → bits ≡ bits_within_rows net form (is_one_of rows) → bits + 5 ≡ own_scan net form holds g
own_counted net form holds g rows bits same is =
    ap (λ n. n + 5) (is ∙ ap (bits_within_rows net form) (λ i b. same b i))

-- the clocks of the scans of a round, the first one or a later one
pub scans_counted : (net : Net) (form : Items) (fresh : Bool) (holds : Holds) (g : SeenGroup) (own n : ℕ)
    → own ≡ own_scan net form holds g
    → n ≡ cond fresh (first_scan net + cond (is_on_first net holds g) 0 own) own
    → n ≡ round_scan_clocks net form fresh holds g
scans_counted net form true holds g own n is e =
    e ∙ ap (λ k. first_scan net + cond (is_on_first net holds g) 0 k) is
scans_counted net form false holds g own n is e = e ∙ is
