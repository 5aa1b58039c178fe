-- The compares of a scan that does a group's reads are those reads, with the values that the direct meaning
-- finds.
use Rattle.std.proofs.Common.{◌≡◌, ◌↔◌, ⊎_elim, ℕ, ◌+◌, ◌<◌, Bool, true, false, List, [], ◌∷◌, length, get_or}
use Rattle.std.proofs.Common.{Option, Some, None, sym, ap, ◌∙◌, subst, arith}
use Rattle.std.specs.Prelude.{Contains, map, ◌==◌, unwrap_or}
use Rattle.std.specs.List.{list_all, list_any}
use Rattle.std.proofs.lemmas.Bool.{cases_Bool, cases_lt, and_parts, eqb-true}
use Rattle.std.proofs.lemmas.List.{get_or-map, length-map, get_or_past}
use Rattle.std.proofs.lemmas.List.Elements.{All-contains}
use Rattle.ij_bits.specs.BitLists.{bit}
use Rattle.net_graph.specs.declared.device.Device.{Device}
use Rattle.net_graph.specs.declared.net.BitId.{BitId}
use Rattle.net_graph.specs.declared.net.Net.{Net}
use Rattle.net_graph.specs.declared.step.ReadBit.{ReadBit}
use Rattle.net_graph.specs.Chain.{IsRoute, chain, position}
use Rattle.ij_bits.specs.Different.{AreDifferent}
use Rattle.net_graph.specs.Path.{same_place}
use Rattle.net_graph.specs.SeenSteps.{SeenGroup}
use Rattle.net_graph.specs.Signals.{Holds, signal, capture_signal}
use Rattle.net_graph.specs.Steps.{IsDataBit, IsReadable, IsGroup}
use Rattle.net_graph.proofs.DataBits.{signal_same, readable_names_none}
use Rattle.net_graph.proofs.Placing.{StandsOn, contained_in, place_below}
use Rattle.net_graph.proofs.Positions.{captures_at}
use Rattle.net_graph.proofs.Shapes.{shape, widths, capture_widths, length-chain, length-captures, total}
use Rattle.net_graph.proofs.Places.{place_is, place_self}
use Rattle.instruments.specs.Machine.{Log, Machine}
use Rattle.instruments.specs.OnNetwork.{outputs}
use Rattle.net_bench.specs.Laws.{captured}
use Rattle.net_bench.specs.Bench.{Chip, State, fault_free}
use Rattle.net_bench.specs.Playing.{Compare, scan_compares}
use Rattle.pdl_meaning.specs.Direct.{Direct, found}
use Rattle.headline.specs.Agreement.{Agrees, read_compare}
use Rattle.headline.specs.Planned.{ExpectsReads}
use Rattle.headline.proofs.Comparing.{comes, stands, mapped, is_mapped}
use Rattle.headline.proofs.Grouping.{in_width, path_fits}
use Rattle.svf_audit.specs.Audit.{bits_on, expected_of, same_expects, does_reads}
use Rattle.svf_audit.proofs.Telling.{all_of, any_of, same_lists}
use Rattle.svf_audit.proofs.Changing.{length-bits_on, place_at, at_place}
use Rattle.std.proofs.lemmas.Option.{none-some}
use Rattle.ij_bits.proofs.Contained.{none_in, first_in, later_in, cases_in}

same_some : (x y : Bool) → Some x ≡ Some y → x ≡ y
same_some x y e = ap (λ o. unwrap_or o x) e

abbrev by : ReadBit → BitId → List ReadBit → Bool → Option Bool
by r b rs t = elim t [ true ↦ Some r.expect | false ↦ expected_of rs b ]

-- what is expected of a bit that is read once
pub expected_at : (rs : List ReadBit) (r : ReadBit) → AreDifferent (map (λ r. r.bit) rs)
    → Contains rs r → expected_of rs r.bit ≡ Some r.expect
expected_at [] r d c = absurd (none_in r c)
expected_at (x ∷ xs) r d c =
    ⊎_elim
    (λ e. ap (λ (z : ReadBit). expected_of (x ∷ xs) z.bit) (sym e) ∙ ap (by x x.bit xs) (place_self x.bit)
    ∙ ap (λ (z : ReadBit). Some z.expect) e)
    (λ k. ⊎_elim
    (λ t. absurd (d.0 (is_mapped (λ (r : ReadBit). r.bit) xs r x.bit k (place_is x.bit r.bit t))))
    (λ t. ap (by x r.bit xs) t ∙ expected_at xs r d.1 k) (cases_Bool (same_place x.bit r.bit)))
    (cases_in x r xs c)

pub expected_from : (rs : List ReadBit) (b : BitId) (e : Bool) → expected_of rs b ≡ Some e
    → (r : ReadBit) × Contains rs r × (r.bit ≡ b) × (r.expect ≡ e)
expected_from [] b e h = absurd (none-some e h)
expected_from (x ∷ xs) b e h =
    ⊎_elim
    (λ t. (x, first_in x xs, place_is x.bit b t, same_some x.expect e (sym (ap (by x b xs) t) ∙ h)))
    (λ t. let (r, c, at, w) = expected_from xs b e (sym (ap (by x b xs) t) ∙ h) in
    (r, later_in x r xs c, at, w))
    (cases_Bool (same_place x.bit b))

module _ (net : Net) (h : Holds) (path : List ℕ) (g : SeenGroup) (es : List (Option Bool)) (v : IsGroup net g)
    (w : shape h ≡ widths net) (q : does_reads g path h es ≡ true) where
  abbrev asked : BitId → Option Bool
  asked = expected_of g.reads

  parts : (same_expects es (map asked (bits_on h path)) ≡ true)
      × (list_all (λ (r : ReadBit). list_any (λ x. x == r.bit.reg) path) g.reads ≡ true)
  parts = and_parts (same_expects es (map asked (bits_on h path)))
      (list_all (λ (r : ReadBit). list_any (λ x. x == r.bit.reg) path) g.reads) q

  es_is : es ≡ map asked (bits_on h path)
  es_is = same_lists es (map asked (bits_on h path)) parts.0

  pub reads_stand : (r : ReadBit) → Contains g.reads r → StandsOn h path r.bit
  reads_stand r c =
      let (x, k, e) = any_of (λ x. x == r.bit.reg) path
      (all_of (λ (r : ReadBit). list_any (λ x. x == r.bit.reg) path) g.reads parts.1 r c) in
      let datum = All-contains (λ (r : ReadBit). IsDataBit net r.bit) g.reads r v.read c in
      record {
        on = contained_in path r.bit.reg (subst (Contains path) (eqb-true x r.bit.reg e) k);
        there = in_width net h r.bit w datum.there;
      }

  abbrev at : ℕ → BitId → BitId
  at i d = get_or (bits_on h path) i d

  reads_read : (r : ReadBit) → Contains g.reads r → get_or es (position path h r.bit) None ≡ Some r.expect
  reads_read r c =
      let s = reads_stand r c in
      let l = place_below h path r.bit s in
      ap (λ l. get_or l (position path h r.bit) None) es_is
      ∙ get_or-map asked (bits_on h path) (position path h r.bit) r.bit None
      (omega (arith, l, length-bits_on h path))
      ∙ ap asked (place_at h path r.bit r.bit s)
      ∙ expected_at g.reads r v.read_once c

  some_there : (i : ℕ) (e : Bool) → get_or es i None ≡ Some e → i < length es
  some_there i e k =
      ⊎_elim (λ l. l) (λ l. absurd (none-some e (sym (get_or_past es i None l) ∙ k))) (cases_lt i (length es))

  reads_compared_at : (n : ℕ) → IsRoute n path → BitId → (i : ℕ) (e : Bool) → get_or es i None ≡ Some e
      → (r : ReadBit) × Contains g.reads r × (position path h r.bit ≡ i) × (r.expect ≡ e)
  reads_compared_at n route d i e k =
      let long : length es ≡ length (bits_on h path) = ap length es_is ∙ length-map (bits_on h path) asked in
      let l : i < length (bits_on h path) = omega (arith, some_there i e k, long) in
      let is : asked (at i d) ≡ Some e =
      sym (get_or-map asked (bits_on h path) i d None l) ∙ ap (λ l. get_or l i None) (sym es_is) ∙ k in
      let (r, c, b, x) = expected_from g.reads (at i d) e is in
      let place = at_place h n path i d route (omega (arith, l, length-bits_on h path)) in
      (r, c, ap (position path h) b ∙ place.1, x)

  pub reads_expected : (n : ℕ) → IsRoute n path → ExpectsReads path h g.reads es
  reads_expected n route =
      record { compared = reads_compared_at n route (record { reg = 0; pos = 0 }); read = reads_read }

module _ {L : Type 0} (log : Log L) (net : Net) (device : Device) (machines : List Machine)
    (wide : capture_widths net ≡ widths net) where
  abbrev pub chip : Chip L
  chip = fault_free log net device machines

  module _ (scan : ℕ) (s : State L) (d : Direct L) (g : SeenGroup) (es : List (Option Bool))
      (a : Agrees net s d) (w : shape s.holds ≡ widths net) (v : IsGroup net g)
      (e : ExpectsReads (chip.path s.holds) s.holds g.reads es) (on : (r : ReadBit) → Contains g.reads r
      → StandsOn s.holds (chip.path s.holds) r.bit) where
    abbrev path : List ℕ
    path = chip.path s.holds

    abbrev compare : ReadBit → Compare
    compare r = read_compare scan path s.holds (found log net machines d r)

    -- the value captured at the place of a read bit is the one that the direct meaning finds
    value_is : (r : ReadBit) → Contains g.reads r → bit (captured chip s) (position path s.holds r.bit)
        ≡ signal (outputs machines d.insts) d.holds (capture_signal net r.bit)
    value_is r c =
        let outs = outputs machines s.insts in
        let sig = capture_signal net r.bit in
        let stand = on r c in
        let fits = path_fits net outs s.holds s.holds wide w path in
        let readable = All-contains
        (λ (r : ReadBit). IsReadable net (capture_signal net r.bit)) g.reads r v.captured c in
        captures_at net outs s.holds s.holds path r.bit fits stand.on stand.there
        ∙ signal_same net outs s.holds d.holds sig a.holds (readable_names_none net sig readable)
        ∙ ap (λ is. signal (outputs machines is) d.holds sig) a.insts

    below : (r : ReadBit) → Contains g.reads r → position path s.holds r.bit < length (captured chip s)
    below r c =
        let l : length (captured chip s) ≡ length (chain path s.holds) =
        length-captures net (outputs machines s.insts) s.holds path
        ∙ ap (total path) (wide ∙ sym w) ∙ sym (length-chain path s.holds) in
        omega (arith, l, place_below s.holds path r.bit (on r c))

    abbrev compare_at : ℕ → Bool → Bool → Compare
    compare_at k e f = record { scan = scan; bit = k; expect = e; found = f }

    compare_is : (r : ReadBit) → Contains g.reads r → compare r ≡ compare_at
        (0 + position path s.holds r.bit) r.expect (bit (captured chip s) (position path s.holds r.bit))
    compare_is r c =
        let z : position path s.holds r.bit ≡ 0 + position path s.holds r.bit = omega arith in
        ap (λ k. compare_at k r.expect
        (signal (outputs machines d.insts) d.holds (capture_signal net r.bit))) z
        ∙ ap (compare_at (0 + position path s.holds r.bit) r.expect) (sym (value_is r c))

    from_scan : (c : Compare) → Contains (scan_compares scan 0 es (captured chip s)) c
        → Contains (map compare g.reads) c
    from_scan c m =
        let (i, l, (x, g', q)) = comes (captured chip s) scan 0 es c m in
        let (r, k, at, y) = e.compared i x g' in
        let same : compare_at (0 + i) x (bit (captured chip s) i) ≡ compare_at
        (0 + position path s.holds r.bit) r.expect (bit (captured chip s) (position path s.holds r.bit)) =
        λ j. compare_at (0 + sym at j) (sym y j) (bit (captured chip s) (sym at j)) in
        is_mapped compare g.reads r c k (q ∙ same ∙ sym (compare_is r k))

    to_scan : (c : Compare) → Contains (map compare g.reads) c
        → Contains (scan_compares scan 0 es (captured chip s)) c
    to_scan c m =
        let (r, k, q) = mapped compare g.reads c m in
        stands (captured chip s) scan 0 (position path s.holds r.bit) es r.expect c
        (below r k) (e.read r k) (q ∙ compare_is r k)

    pub group_compared : (c : Compare)
        → Contains (scan_compares scan 0 es (captured chip s)) c ↔ Contains (map compare g.reads) c
    group_compared c = (from_scan c, to_scan c)
