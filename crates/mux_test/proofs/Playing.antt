-- Flushes, one after the other, on a bench without faults and on one with a stuck mux.
use Rattle.std.proofs.Common.{◌≡◌, ◌≢◌, ⊎_elim, ℕ, ◌+◌, ◌<◌, ◌≤◌, Bool, true, false, List, [], ◌∷◌, ◌++◌}
use Rattle.std.proofs.Common.{length, refl, sym, ap, ◌∙◌, subst, arith, length-append}
use Rattle.std.specs.Prelude.{map, All, get_or, not, ◌==◌, Contains, unwrap_or}
use Rattle.std.specs.Str.{bytes_eq as same_registers}
use Rattle.std.proofs.lemmas.Bool.{cases_Bool, true≢false, eq-eqb}
use Rattle.std.proofs.lemmas.List.Elements.{All-head, All-tail}
use Rattle.std.proofs.lemmas.Slice.Eq.{bytes_eq-Decides}
use Rattle.ij_bits.specs.BitLists.{number_of}
use Rattle.instruments.proofs.Changing.{changes_none}
use Rattle.instruments.specs.OnNetwork.{inputs_at, port_numbers}
use Rattle.net_graph.specs.Chain.{IsRoute, chain}
use Rattle.net_graph.specs.declared.branch.Branch.{Branch}
use Rattle.net_graph.specs.declared.net.BitId.{BitId}
use Rattle.net_graph.specs.declared.net.Inst.{Inst}
use Rattle.net_graph.specs.declared.net.Net.{Net}
use Rattle.net_graph.specs.declared.net.PortIn.{PortIn}
use Rattle.net_graph.specs.declared.net.Sig.{Sig}
use Rattle.net_graph.specs.Nets.{IsNet}
use Rattle.net_graph.specs.Path.{is_select, route_of}
use Rattle.net_graph.specs.Signals.{Holds, Outputs, hold_at, signal}
use Rattle.net_graph.specs.Stuck.{stuck_route}
use Rattle.net_graph.proofs.Placing.{not_contained}
use Rattle.net_graph.proofs.Shapes.{capture_widths, widths}
use Rattle.net_graph.proofs.Steps.{DifferOn}
use Rattle.path_planner.specs.Opening.{InputsStay, IsUnseen, AreUnseen, last_holds}
use Rattle.path_planner.specs.Scannable.{IsScannable}
use Rattle.svf_writer.specs.SeenCommands.{SDR, SeenCommand}
use Rattle.tap_machine.specs.declared.Stable.TheVariants.{Idle as InIdle}
use Rattle.tap_machine.specs.Play.{AreWhole}
use Rattle.net_bench.specs.Bench.{Chip, State}
use Rattle.net_bench.specs.Playing.{Compare, compares_from, differing, play_from, resting}
use Rattle.net_bench.proofs.PublicLaws.{plays_split, rests_as}
use Rattle.mux_test.specs.Seen.{begins, is_seen}
use Rattle.mux_test.specs.Test.{flush, flushes}
use Rattle.mux_test.proofs.Flushing.{Rests, found, none, rests_on, holds_on, idle_on, insts_on}
use Rattle.net_bench.proofs.Differing.{differing_both}

-- ---- inputs that stay

bits_stay : (h k : Holds) (sigs : List Sig)
    → All (λ sig. (outs : Outputs) → signal outs k sig ≡ signal outs h sig) sigs
    → map (signal (λ i port pos. false) k) sigs ≡ map (signal (λ i port pos. false) h) sigs
bits_stay h k [] a = refl
bits_stay h k (s ∷ ss) a =
    ap (λ b. b ∷ map (signal (λ i port pos. false) k) ss) (All-head (λ sig. (outs : Outputs)
    → signal outs k sig ≡ signal outs h sig) s ss a (λ i port pos. false))
    ∙ ap (λ bs. signal (λ i port pos. false) h s ∷ bs)
    (bits_stay h k ss (All-tail (λ sig. (outs : Outputs) → signal outs k sig ≡ signal outs h sig) s ss a))

abbrev PortStays : Holds → Holds → PortIn → Type 0
PortStays h k port = All (λ sig. (outs : Outputs) → signal outs k sig ≡ signal outs h sig) port.bits.items

abbrev number : Holds → PortIn → ℕ
number x port = number_of (map (signal (λ i port pos. false) x) port.bits.items)

ports_stay : (h k : Holds) (ports : List PortIn) → All (PortStays h k) ports
    → map (number k) ports ≡ map (number h) ports
ports_stay h k [] a = refl
ports_stay h k (p ∷ ps) a =
    ap (λ n. number_of n ∷ map (number k) ps) (bits_stay h k p.bits.items (All-head (PortStays h k) p ps a))
    ∙ ap (λ ns. number h p ∷ ns) (ports_stay h k ps (All-tail (PortStays h k) p ps a))

abbrev InstStays : Holds → Holds → Inst → Type 0
InstStays h k inst = All (PortStays h k) inst.ins.items

insts_stay : (h k : Holds) (insts : List Inst) → All (InstStays h k) insts
    → map (port_numbers k) insts ≡ map (port_numbers h) insts
insts_stay h k [] a = refl
insts_stay h k (i ∷ is) a =
    ap (λ ns. ns ∷ map (port_numbers k) is) (ports_stay h k i.ins.items (All-head (InstStays h k) i is a))
    ∙ ap (λ ns. port_numbers h i ∷ ns) (insts_stay h k is (All-tail (InstStays h k) i is a))

inputs_as : (net : Net) (h k : Holds) → InputsStay net h k → (i : ℕ) → inputs_at net k i ≡ inputs_at net h i
inputs_as net h k a i = ap (λ ns. get_or ns i []) (insts_stay h k net.insts.items a)

-- ---- bits that stay

pub data_as : (net : Net) (h : Holds) (hs : List Holds) (b : BitId) → AreUnseen net h hs
    → is_select net b ≡ false → hold_at (last_holds h hs) b ≡ hold_at h b
data_as net h [] b u f = refl
data_as net h (k ∷ hs) b u f = data_as net k hs b u.1 f ∙ u.0.data_bits b f

-- ---- the commands of flushes

pub flushes_whole : (net : Net) (h : Holds) (hs : List Holds) → AreWhole (map SDR (flushes net h hs))
flushes_whole net h [] = tt
flushes_whole net h (k ∷ hs) = (((_, refl), (_, refl)), flushes_whole net k hs)

differ_on : (net : Net) (h k : Holds) → IsUnseen net h k → (own : List ℕ)
    → route_of net h ≡ own → DifferOn own h k
differ_on net h k u own e =
    let same : u.scan.path ≡ own = sym (ap (λ o. unwrap_or o []) u.scan.traced) ∙ e in
    record {
      shapes = u.scan.shape;
      off = λ r n. u.scan.off_path r (subst (λ p. ¬ Contains p r) (sym same) (not_contained own r n));
    }

-- flushes of which no compare differs and no instrument sees anything
module _ {L : Type 0} (chip : Chip L) where
  pub record AreQuiet (scans : ℕ) (s : State L) (h : Holds) (hs : List Holds) : Type 0 where
    pub holds : (play_from chip scans (map SDR (flushes chip.net h hs)) s).holds ≡ last_holds h hs
    pub insts : (play_from chip scans (map SDR (flushes chip.net h hs)) s).insts ≡ s.insts
    pub none : differing (compares_from chip scans (map SDR (flushes chip.net h hs)) s) ≡ []

module _ {L : Type 0} (chip : Chip L) (w : IsNet chip.net) (wide : capture_widths chip.net ≡ widths chip.net)
    (routes : (h : Holds) → IsRoute (length chip.net.regs.items) (chip.path h)) (some_bits : (h : Holds)
    → IsScannable chip.net h → 0 < length (chain (route_of chip.net h) h)) where
  abbrev net : Net
  net = chip.net

  -- ---- one flush, and then more

  module _ (scans : ℕ) (s : State L) (r : Rests chip s) (g : IsScannable net s.holds) (k : Holds)
      (u : IsUnseen net s.holds k) (same : chip.path s.holds ≡ route_of net s.holds) where
    abbrev first : List SeenCommand
    first = SDR (flush net s.holds k) ∷ []

    abbrev s1 : State L
    s1 = play_from chip scans first s

    d : DifferOn (route_of net s.holds) s.holds k
    d = differ_on net s.holds k u (route_of net s.holds) refl

    pub next_rests : Rests chip s1
    next_rests = rests_on chip w wide scans s r k u.scan.shape (routes s.holds) (some_bits s.holds g) same d

    pub next_holds : s1.holds ≡ k
    next_holds = holds_on chip w wide scans s r k u.scan.shape (routes s.holds) (some_bits s.holds g) same d

    pub next_insts : s1.insts ≡ s.insts
    next_insts =
        insts_on chip w wide scans s r k u.scan.shape (routes s.holds) (some_bits s.holds g) same d
        ∙ changes_none chip.log net chip.machines s.holds k s.insts (inputs_as net s.holds k u.inputs)

    pub next_none : differing (compares_from chip scans first s) ≡ []
    next_none = none chip w wide scans s r k u.scan.shape (routes s.holds) (some_bits s.holds g) same d

    pub next_scannable : IsScannable net s1.holds
    next_scannable = subst (IsScannable net) (sym next_holds) u.listed

  -- where the first flush leaves the bench, whatever it does
  module _ (scans : ℕ) (s : State L) (k : Holds) (ks : List Holds)
      (idle : resting (play_from chip scans (SDR (flush net s.holds k) ∷ []) s) ≡ InIdle) where
    abbrev rest : List SeenCommand
    rest = map SDR (flushes net k ks)

    pub plays_on : play_from chip scans (map SDR (flushes net s.holds (k ∷ ks))) s
        ≡ play_from chip (scans + 1) rest (play_from chip scans (SDR (flush net s.holds k) ∷ []) s)
    plays_on =
        (plays_split chip scans (SDR (flush net s.holds k) ∷ []) rest s (flushes_whole net k ks) idle).0

    pub compares_on : differing (compares_from chip scans (map SDR (flushes net s.holds (k ∷ ks))) s)
        ≡ differing (compares_from chip scans (SDR (flush net s.holds k) ∷ []) s) ++ differing
        (compares_from chip (scans + 1) rest (play_from chip scans (SDR (flush net s.holds k) ∷ []) s))
    compares_on =
        ap differing
        (plays_split chip scans (SDR (flush net s.holds k) ∷ []) rest s (flushes_whole net k ks) idle).1
        ∙ differing_both (compares_from chip scans (SDR (flush net s.holds k) ∷ []) s) _

  -- ---- on the path that is meant

  pub quiet : ((h : Holds) → chip.path h ≡ route_of net h) → (hs : List Holds) (scans : ℕ) (s : State L)
      → Rests chip s → IsScannable net s.holds → AreUnseen net s.holds hs → AreQuiet chip scans s s.holds hs
  quiet same [] scans s r g u = record { holds = refl; insts = refl; none = refl }
  quiet same (k ∷ ks) scans s r g u =
      let meant = same s.holds in
      let s1 = play_from chip scans (SDR (flush net s.holds k) ∷ []) s in
      let r1 = next_rests scans s r g k u.0 meant in
      let e1 = next_holds scans s r g k u.0 meant in
      let idle = rests_as InIdle s1 r1.idle in
      let later = subst (λ z. AreQuiet chip (scans + 1) s1 z ks) e1 (quiet same ks (scans + 1) s1 r1
      (next_scannable scans s r g k u.0 meant) (subst (λ z. AreUnseen net z ks) (sym e1) u.1)) in
      let on = plays_on scans s k ks idle in
      record {
        holds = ap (λ (z : State L). z.holds) on ∙ later.holds;
        insts = ap (λ (z : State L). z.insts) on ∙ later.insts ∙ next_insts scans s r g k u.0 meant;
        none = compares_on scans s k ks idle
            ∙ ap (λ cs. cs ++ differing (compares_from chip (scans + 1) (map SDR (flushes net k ks)) s1))
            (next_none scans s r g k u.0 meant) ∙ later.none;
      }

  -- ---- where a mux is stuck

  more_left : (cs ds : List Compare) → 1 ≤ length cs → 1 ≤ length (cs ++ ds)
  more_left cs ds h = omega (arith, length-append cs ds, h)

  more_right : (cs ds : List Compare) → 1 ≤ length ds → 1 ≤ length (cs ++ ds)
  more_right cs ds h = omega (arith, length-append cs ds, h)

  module _ (b : Branch) (is_stuck : (h : Holds) → chip.path h ≡ stuck_route net b h) where
    lengths_differ : (own other : List ℕ) (h : Holds)
        → not (length (chain own h) == length (chain other h)) ≡ true
        → length (chain other h) ≢ length (chain own h)
    lengths_differ own other h z e =
        true≢false (sym z ∙ ap not (eq-eqb (length (chain own h)) (length (chain other h)) (sym e)))

    pub finds_stuck : (hs : List Holds) (scans : ℕ) (s : State L) → Rests chip s → IsScannable net s.holds
        → AreUnseen net s.holds hs → is_seen net b (begins s.holds hs) ≡ true
        → 1 ≤ length (differing (compares_from chip scans (map SDR (flushes net s.holds hs)) s))
    finds_stuck [] scans s r g u z = absurd (true≢false (sym z))
    finds_stuck (k ∷ ks) scans s r g u z =
        let h = s.holds in
        let own = route_of net h in
        let other = stuck_route net b h in
        let s1 = play_from chip scans (SDR (flush net h k) ∷ []) s in
        let ask : Bool → Bool = λ t. elim t as (λ _. Bool) [
          | true ↦ is_seen net b (begins k ks)
          | false ↦ not (length (chain own h) == length (chain other h))
        ] in
        ⊎_elim (λ t. let alike : own ≡ other = (bytes_eq-Decides own other).0 t in
        let meant : chip.path h ≡ own = is_stuck h ∙ sym alike in
        let r1 = next_rests scans s r g k u.0 meant in
        let e1 = next_holds scans s r g k u.0 meant in
        let idle = rests_as InIdle s1 r1.idle in
        let later = finds_stuck ks (scans + 1) s1 r1 (next_scannable scans s r g k u.0 meant)
        (subst (λ z. AreUnseen net z ks) (sym e1) u.1)
        (subst (λ x. is_seen net b (begins x ks) ≡ true) (sym e1) (sym (ap ask t) ∙ z)) in
        subst (λ cs. 1 ≤ length cs) (sym (compares_on scans s k ks idle))
        (more_right (differing (compares_from chip scans (SDR (flush net h k) ∷ []) s)) _ (subst (λ x. 1
        ≤ length (differing (compares_from chip (scans + 1) (map SDR (flushes net x ks)) s1))) e1 later)))
        (λ t. let other_length : length (chain other h)
        ≢ length (chain own h) = lengths_differ own other h (sym (ap ask t) ∙ z) in
        let idle = idle_on chip w wide scans s r k u.0.scan.shape (routes h) (some_bits h g) in
        subst (λ cs. 1 ≤ length cs) (sym (compares_on scans s k ks idle))
        (more_left _ _ (found chip w wide scans s r k u.0.scan.shape (routes h) (some_bits h g)
        (λ e. other_length (ap (λ p. length (chain p h)) (sym (is_stuck h)) ∙ e)))))
        (cases_Bool (same_registers own other))
