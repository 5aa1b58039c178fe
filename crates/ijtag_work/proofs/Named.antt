-- Each compare of a play of planned steps is of the read that is named at its place.
use Rattle.std.proofs.Common.{◌≡◌, ℕ, zero, suc, Bool, true, false, cond, List, [], ◌∷◌, sym, ap, ◌∙◌, subst}
use Rattle.std.proofs.Common.{arith}
use Rattle.std.specs.Prelude.{◌↔◌, Contains, map}
use Rattle.ij_bits.specs.BitLists.{same_bit}
use Rattle.ij_bits.specs.Different.{AreDifferent}
use Rattle.instruments.specs.After.{machine_of}
use Rattle.instruments.specs.declared.Counts.{Counts}
use Rattle.instruments.specs.Machine.{Event, Machine, count_log, whole_log}
use Rattle.net_graph.specs.declared.device.Device.{Device}
use Rattle.net_graph.specs.declared.net.Net.{Net}
use Rattle.net_graph.specs.Devices.{IsDevice}
use Rattle.net_graph.specs.Resets.{start_holds}
use Rattle.net_tree.specs.Form.{Items}
use Rattle.net_bench.specs.Bench.{Chip, fault_free, power_up}
use Rattle.net_bench.specs.Counting.{CountsBegin, CountsCompare, counting, listing}
use Rattle.net_bench.specs.Playing.{Compare, compares_from, differing}
use Rattle.pdl_meaning.specs.Direct.{Direct, direct}
use Rattle.headline.specs.Agreement.{script_compares}
use Rattle.headline.specs.Headline.{after_preface, at_end, at_start, compared, first_scans}
use Rattle.headline.specs.ReadPlaces.{ReadsHavePlaces, place}
use Rattle.headline.specs.Script.{ScannedStep, script_commands}
use Rattle.headline.specs.Retargeting.{PlannedStep, PlansAreScripts, PlansPlay, IsRetargetable}
use Rattle.headline.specs.Retargeting.{StepsArePlanned, script_of}
use Rattle.headline.proofs.GroupPlaying.{selects_drive_nothing}
use Rattle.headline.proofs.Right.{steps_same}
use Rattle.run_report.specs.Laws.{PlacesAreOne}
use Rattle.run_report.specs.Places.{places}
use Rattle.run_report.specs.declared.place.ReadPlace.{ReadPlace}
use Rattle.bench_report.specs.Report.{differs_of}
use Rattle.ijtag_work.specs.Laws.{ComparesAreNamed, DiffersAreNamed, ReadsAreCompared}
use Rattle.ijtag_work.specs.Naming.{compares_at, IsNamed}
use Rattle.ijtag_work.proofs.Alike.{ok_same}
use Rattle.ijtag_work.proofs.Compared.{all_added}
use Rattle.ijtag_work.proofs.Counted.{meanings_are_counted}
use Rattle.ijtag_work.proofs.Naming.{AreAdded, Read, named_at, reads_found, reads_placed}
use Rattle.ij_bits.proofs.Contained.{first_in, later_in}

module _ (net : Net) (form : Items) (device : Device) (machines : List Machine) (plans : List PlannedStep)
    (c : IsRetargetable net form) (d : IsDevice device)
    (a : StepsArePlanned net form (start_holds net) plans) where
  abbrev chip : Chip (List Event)
  chip = fault_free whole_log net device machines

  abbrev script : List ScannedStep
  script = script_of net (start_holds net) plans

  abbrev reads : List Read
  reads = (at_end chip script).reads

  abbrev expected : List Compare
  expected = script_compares chip (first_scans chip) (after_preface chip) (at_start chip) script

  added : AreAdded expected (places net plans) [] reads
  added =
      all_added whole_log net form device machines c
      (selects_drive_nothing net form c) (omega (arith, d.two_bits)) plans a

  pub in_order : reads_placed (places net plans) ≡ reads_found reads
  in_order = added.in_order ∙ ap reads_found (sym added.reads)

  pub expected_at : expected ≡ compares_at (places net plans) reads
  expected_at = added.compares ∙ ap (compares_at (places net plans)) (sym added.reads)

pub reads_are_compared : PlansPlay → ReadsAreCompared
reads_are_compared play net form device machines plans c d a =
    let chip = fault_free whole_log net device machines in
    let script = script_of net (start_holds net) plans in
    let plays = (play net form device machines plans c d a).0 in
    record {
      in_order = in_order net form device machines plans c d a;
      compared = λ x. subst (λ cs. Contains (compared chip script) x ↔ Contains cs x)
          (expected_at net form device machines plans c d a) (plays.compares x);
    }

pub compares_are_named : PlansAreScripts → ReadsHavePlaces → PlansPlay → ComparesAreNamed
compares_are_named scripts apart play net form device machines plans c d a x m =
    let chip = fault_free whole_log net device machines in
    let script = script_of net (start_holds net) plans in
    let reads = (at_end chip script).reads in
    let law = reads_are_compared play net form device machines plans c d a in
    let differ = apart net device machines script c.well_formed
    (selects_drive_nothing net form c) d (scripts net form plans c a) in
    let differ_here = subst (λ cs. AreDifferent {A = ℕ × ℕ} (map place cs))
    (expected_at net form device machines plans c d a) differ in
    named_at (places net plans) reads x law.in_order differ_here ((law.compared x).0 m)

-- ---- the compares that differ

differs_by : (t : Bool) (c x : Compare) (cs : List Compare) → (Contains (differing cs) x → Contains cs x)
    → Contains (cond t (differing cs) (c ∷ differing cs)) x → Contains (c ∷ cs) x
differs_by true c x cs f m = later_in c x cs (f m)
differs_by false c x cs f (zero, l, e) = subst (Contains (c ∷ cs)) e (first_in c cs)
differs_by false c x cs f (suc k, l, e) = later_in c x cs (f (k, omega (arith, l), e))

differs_are : (cs : List Compare) (x : Compare) → Contains (differing cs) x → Contains cs x
differs_are [] x m = m
differs_are (c ∷ cs) x m = differs_by (same_bit c.expect c.found) c x cs (differs_are cs x) m

pub differs_are_named : CountsBegin → CountsCompare → PlacesAreOne → ComparesAreNamed → DiffersAreNamed
differs_are_named begins compare places_one law net form device models steps
    bytes commands plans right read a same x m =
    let machines = map machine_of models in
    let script = script_of net (start_holds net) right.plans in
    let start = power_up (listing net device machines) in
    let are : commands ≡ script_commands device script =
    ok_same commands (script_commands device script) (sym read ∙ right.read) in
    let listed : differs_of net device models commands ≡ differing
    (compared (listing net device machines) script) = ap (differs_of net device models) are ∙ ap
    (λ s. differing (compares_from (counting net device machines) 0 (script_commands device script) s))
    (begins net device machines)
    ∙ ap differing (compare net device machines 0 (script_commands device script) start) in
    let among = differs_are (compared (listing net device machines) script) x
    (subst (λ cs. Contains cs x) listed m) in
    let named = law net form device machines right.plans right.network
    right.right.valid.carried right.planned x among in
    let meant : (at_end (listing net device machines) script).reads
    ≡ (direct count_log net machines steps).reads =
    ap (λ ss. (direct whole_log net machines ss).reads) right.right.does
    ∙ sym (ap (λ (k : Direct Counts). k.reads) (meanings_are_counted net machines steps)) in
    let one : places net right.plans ≡ places net plans = places_one net form right.plans plans right.planned
    a (sym (steps_same net (start_holds net) right.plans) ∙ right.right.does ∙ sym same) in
    subst (λ (ps : List ReadPlace). IsNamed ps (direct count_log net machines steps).reads x) one
    (subst (λ (rs : List Read). IsNamed (places net right.plans) rs x) meant named)
