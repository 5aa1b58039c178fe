-- Plans of a group, packed, are planned scans.
use Rattle.std.proofs.Common.{◌≡◌, ◌⊎◌, ⊎_elim, ℕ, zero, suc, ◌<◌, ◌≤◌, Bool, true, false, List, [], ◌∷◌}
use Rattle.std.proofs.Common.{◌++◌, length, Some, None, refl, sym, ap, ◌∙◌, subst, arith, length-append}
use Rattle.std.specs.Prelude.{All, Contains, cond, get_or, map, not, replicate, unwrap_or, IsNone}
use Rattle.std.specs.Option.{is_some}
use Rattle.std.proofs.lemmas.Bool.{true≢false, cases_lt}
use Rattle.std.proofs.lemmas.List.Elements.{All-head, All-tail, All-contains, All-weaker}
use Rattle.std.proofs.lemmas.List.{ext_get_or}
use Rattle.ij_bits.specs.BitLists.{bit}
use Rattle.net_graph.specs.declared.net.Net.{Net}
use Rattle.net_graph.specs.declared.net.Reg.{Reg}
use Rattle.net_graph.specs.declared.step.ReadBit.{ReadBit}
use Rattle.net_graph.specs.declared.step.WriteBit.{WriteBit}
use Rattle.net_graph.specs.Chain.{IsRoute, chain, position}
use Rattle.net_graph.specs.Groups.{registers_of, IsEmpty}
use Rattle.net_graph.specs.Nets.{IsNet, IsReg}
use Rattle.net_graph.specs.Path.{active, route_of}
use Rattle.net_graph.specs.SeenSteps.{SeenGroup}
use Rattle.net_graph.specs.Signals.{Holds, bits_at}
use Rattle.net_graph.specs.Steps.{IsDataBit, IsGroup}
use Rattle.net_graph.specs.Named.{IsBitOf}
use Rattle.net_graph.specs.Writes.{write_all}
use Rattle.net_graph.proofs.Routes.{active_route}
use Rattle.net_graph.proofs.Shapes.{shape, widths, total, length_at, length-chain, length-chain_same}
use Rattle.net_graph.proofs.Steps.{same_length}
use Rattle.net_graph.proofs.Writing.{write_all-shape}
use Rattle.net_tree.specs.Form.{Items}
use Rattle.path_planner.specs.Least.{ScanStep, AreOnPath, Reaches}
use Rattle.path_planner.specs.Opening.{CanOpen, IsUnseen}
use Rattle.path_planner.specs.Plans.{ArePlans, AreScans, IsScan}
use Rattle.path_planner.specs.Scannable.{IsScannable}
use Rattle.path_planner.proofs.Plans.{planned}
use Rattle.scan_packer.specs.Packed.{tdi_bits, tdo_bits, mask_bits}
use Rattle.scan_packer.specs.Packing.{CanPack, IsPacked}
use Rattle.scan_packer.proofs.Bits.{is_packed}
use Rattle.svf_writer.specs.Fits.{HasLength, IsWrittenScan}
use Rattle.svf_writer.specs.SeenCommands.{SeenScan}
use Rattle.tap_machine.specs.Play.{is_empty, expected, masked, mask_now, no_scan}
use Rattle.headline.specs.Planned.{IsPathScan, IsOpening, ExpectsReads, IsGroupScan, ScansDo}
use Rattle.headline.proofs.Comparing.{mapped}
use Rattle.headline.proofs.PlannedSizes.{total_below}
use Rattle.headline.specs.Scans.{scan_of, scans_of, holds_after, PlansDoGroups}
use Rattle.headline.proofs.Masking.{expected_where, expected_there, find_read}
use Rattle.ij_bits.proofs.Contained.{none_in}
use Rattle.headline.proofs.MuxPlans.{expects_none}
use Rattle.net_bench.proofs.Wide.{wide_at}

-- ---- the length of a path

module _ (net : Net) (w : IsNet net) (holds : Holds) (e : shape holds ≡ widths net) where
  first_wide : (r : ℕ) → r < length net.regs.items → 1 ≤ length (bits_at holds r)
  first_wide r l =
      omega (arith, wide_at net net.regs.items r w.regs l, length_at holds r, ap (λ ns. get_or ns r 0) e)

  at_least_one_bit : (path : List ℕ) → IsRoute (length net.regs.items) path
      → ¬ (path ≡ []) → 1 ≤ length (chain path holds)
  at_least_one_bit [] r n = absurd (n refl)
  at_least_one_bit (x ∷ xs) r n =
      omega (arith, first_wide x r.0, length-append (bits_at holds x) (chain xs holds))

  bits_within_limit : (path : List ℕ) → IsRoute (length net.regs.items) path
      → length (chain path holds) ≤ 65536
  bits_within_limit path r =
      omega (
        arith,
        length-chain path holds,
        ap (total path) e,
        total_below path (widths net) (length net.regs.items) r,
        w.bits_within_limit,
      )

-- ---- parts of a scan that are there or not

part_long : (b : Bool) (bits : List Bool) (n : ℕ) → length bits ≡ n → HasLength n (cond b None (Some bits))
part_long true bits n l = tt
part_long false bits n l = l

part_there : (b : Bool) (bits : List Bool) → is_some (cond b None (Some bits)) ≡ not b
part_there true bits = refl
part_there false bits = refl

parts_together : (b : Bool) (x y : List Bool)
    → is_some (cond b None (Some x)) ≡ is_some (cond b None (Some y))
parts_together b x y = part_there b x ∙ sym (part_there b y)

empty_is : (rs : List ReadBit) → is_empty rs ≡ true → rs ≡ []
empty_is [] e = refl
empty_is (r ∷ rs) e = absurd (true≢false (sym e))

past_end : (bits : List Bool) (i : ℕ) → bit bits i ≡ true → i < length bits
past_end [] i m = absurd (true≢false (sym m))
past_end (b ∷ bits) zero m = omega arith
past_end (b ∷ bits) (suc i) m = omega (arith, past_end bits i m)

bit_past : (bits : List Bool) (i : ℕ) → length bits ≤ i → bit bits i ≡ false
bit_past [] i l = refl
bit_past (b ∷ bits) zero l = absurd (omega (arith, l))
bit_past (b ∷ bits) (suc i) l = bit_past bits i (omega (arith, l))

-- ---- a scan of a plan

module _ (net : Net) (w : IsNet net) (holds : Holds) (e : shape holds ≡ widths net) (path : List ℕ)
    (t : active net holds ≡ Some path) (some : ¬ (path ≡ [])) where
  route : IsRoute (length net.regs.items) path
  route = active_route net holds path w t

  tdi_long : (plan : SeenGroup) → length (tdi_bits holds path plan) ≡ length (chain path holds)
  tdi_long plan = length-chain_same path
      (write_all holds plan.writes) holds (write_all-shape plan.writes holds)

  abbrev scan : SeenGroup → SeenScan
  scan plan = scan_of net holds path plan

  written : (plan : SeenGroup) → HasLength (length (chain path holds)) (scan plan).tdo
      → HasLength (length (chain path holds)) (scan plan).mask → IsWrittenScan (scan plan)
  written plan tdo mask =
      record {
        at_least_one_bit = at_least_one_bit net w holds e path route some;
        bits_within_limit = bits_within_limit net w holds e path route;
        given = refl;
        tdi = tdi_long plan;
        tdo = tdo;
        mask = mask;
        together = parts_together (is_empty plan.reads) (tdo_bits net path plan)
            (mask_bits net path plan);
        smask = refl;
      }

  -- a plan without reads
  silent_part : (plan : SeenGroup) (bits : List Bool) → plan.reads ≡ []
      → HasLength (length (chain path holds)) (cond (is_empty plan.reads) None (Some bits))
  silent_part plan bits q =
      subst (λ b. HasLength (length (chain path holds)) (cond b None (Some bits))) (sym (ap is_empty q)) tt

  abbrev silent_scan : (plan : SeenGroup) → plan.reads ≡ []
      → IsPathScan net holds (write_all holds plan.writes) (scan plan)
  silent_scan plan q =
      record {
        path = path;
        traced = t;
        written = written plan (silent_part plan (tdo_bits net path plan) q)
            (silent_part plan (mask_bits net path plan) q);
        long = refl;
        tdi = refl;
      }

  -- the plan that is the group
  module _ (g : SeenGroup) (v : IsGroup net g) (on : All (Contains path) (registers_of g)) where
    can : CanPack net holds path g
    can =
        record {
          widths = e;
          writes = All-weaker (λ (x : WriteBit). IsDataBit net x.bit)
              (λ (x : WriteBit). IsBitOf net x.bit) (λ x d. d.there) g.writes v.written;
          reads = All-weaker
              (λ (x : ReadBit). IsDataBit net x.bit) (λ (x : ReadBit). IsBitOf net x.bit) (λ x d. d.there)
              g.reads v.read;
          written_once = v.written_once;
          read_once = v.read_once;
          on_path = on;
        }

    packed : IsPacked net holds path g
    packed = is_packed net holds path g route can

    abbrev tdo : List Bool
    tdo = tdo_bits net path g

    abbrev mask : List Bool
    mask = mask_bits net path g

    abbrev path_scan : IsPathScan net holds (write_all holds g.writes) (scan g)
    path_scan =
        record {
          path = path;
          traced = t;
          written = written g
              (part_long (is_empty g.reads) tdo (length (chain path holds)) packed.tdo_length) (part_long
              (is_empty g.reads) mask (length (chain path holds)) packed.mask_length);
          long = refl;
          tdi = refl;
        }

    marked_at : (r : ReadBit) → Contains g.reads r → bit mask (position path holds r.bit) ≡ true
    marked_at r c = All-contains
        (λ (r : ReadBit). bit mask (position path holds r.bit) ≡ true) g.reads r packed.compares c

    expected_at : (r : ReadBit) → Contains g.reads r → bit tdo (position path holds r.bit) ≡ r.expect
    expected_at r c = All-contains
        (λ (r : ReadBit). bit tdo (position path holds r.bit) ≡ r.expect) g.reads r packed.expects c

    -- a position where MASK is 1 is the place of a read
    read_there : (i : ℕ) → i < length (chain path holds) → bit mask i ≡ true
        → (r : ReadBit) × Contains g.reads r × (position path holds r.bit ≡ i)
    read_there i l m =
        let (b, on, p) = packed.places i l in
        ⊎_elim (λ (r, c, z). (r, c, ap (position path holds) z ∙ p)) (λ n. absurd
        (true≢false (sym m ∙ ap (bit mask) (sym p) ∙ packed.unread_mask b on n))) (find_read b g.reads)

    -- and where it is 0, of none
    zero_there : (i : ℕ) → i < length (chain path holds) → bit mask i ≡ false → bit tdo i ≡ false
    zero_there i l m =
        let (b, on, p) = packed.places i l in
        ap (bit tdo) (sym p) ∙ packed.unread_tdo b on (λ c.
        let (r, k, z) = mapped (λ (r : ReadBit). r.bit) g.reads b c in
        true≢false (sym (marked_at r k) ∙ ap (bit mask) (ap (position path holds) (sym z) ∙ p) ∙ m))

    masked_expects : ExpectsReads path holds g.reads (masked tdo mask)
    masked_expects =
        record {
          compared = λ i x q. let (l, m, v) = expected_where tdo mask i x q in
              let (r, c, p) = read_there i (omega (arith, l, packed.tdo_length)) m in
              (r, c, p, sym (expected_at r c) ∙ ap (bit tdo) p ∙ v);
          read = λ r c. expected_there tdo mask
              (position path holds r.bit) r.expect (below r c) (marked_at r c) (expected_at r c);
        }
      where
        below : (r : ReadBit) → Contains g.reads r → position path holds r.bit < length tdo
        below r c = omega (
          arith,
          past_end mask (position path holds r.bit) (marked_at r c),
          packed.tdo_length,
          packed.mask_length,
        )

    none_expects : g.reads ≡ [] → ExpectsReads path holds g.reads (replicate (length (chain path holds)) None)
    none_expects q =
        record {
          compared = λ i x z. absurd (expects_none (length (chain path holds)) i x z);
          read = λ r c. absurd (none_in r (subst (λ rs. Contains rs r) q c));
        }

    expects_by : (b : Bool) → is_empty g.reads ≡ b
        → ExpectsReads path holds g.reads (expected (length (chain path holds)) (cond b None (Some tdo))
        (unwrap_or (cond b None (Some mask)) (mask_now no_scan (record (scan g) { mask = None }))))
    expects_by true q = none_expects (empty_is g.reads q)
    expects_by false q = masked_expects

    unmasked_by : (b : Bool) (i : ℕ) → bit (unwrap_or (cond b None (Some mask)) []) i ≡ false
        → bit (unwrap_or (cond b None (Some tdo)) []) i ≡ false
    unmasked_by true i m = refl
    unmasked_by false i m =
        ⊎_elim (λ l. zero_there i (omega (arith, l, packed.tdo_length)) m)
        (λ l. bit_past tdo i l) (cases_lt i (length tdo))

    pub group_scan : IsGroupScan net holds g (scan g)
    group_scan =
        record {
          scans = path_scan;
          on_path = on;
          compared = part_there (is_empty g.reads) tdo;
          unmasked = unmasked_by (is_empty g.reads);
          expects = expects_by (is_empty g.reads) refl;
        }

-- ---- all plans of a group

some_register : (ws : List WriteBit) (rs : List ReadBit) → ¬ ((ws ≡ []) × (rs ≡ []))
    → All (Contains []) (map (λ w. w.bit.reg) ws ++ map (λ r. r.bit.reg) rs) → ⊥
some_register [] [] n a = n (refl, refl)
some_register [] (r ∷ rs) n a =
    none_in r.bit.reg (All-head (Contains []) r.bit.reg (map (λ r. r.bit.reg) rs) a)
some_register (w ∷ ws) rs n a =
    none_in w.bit.reg
    (All-head (Contains []) w.bit.reg (map (λ w. w.bit.reg) ws ++ map (λ r. r.bit.reg) rs) a)

-- a scan over no register changes nothing
stays : (net : Net) (h next : Holds) → (s : ScanStep net h next) → s.path ≡ [] → next ≡ h
stays net h next s e =
    sym (ext_get_or [] h next (sym (same_length h next s.shape))
    (λ k _. sym (s.off_path k (λ c. none_in k (subst (λ p. Contains p k) e c)))))

opening : (net : Net) → IsNet net → (h : Holds) → shape h ≡ widths net → (p : SeenGroup) → p.reads ≡ []
    → (s : ScanStep net h (write_all h p.writes)) → ¬ (s.path ≡ []) → IsUnseen net h (write_all h p.writes)
    → IsOpening net h (write_all h p.writes) (scan_of net h (route_of net h) p)
opening net w h e p q s some u =
    let quiet : IsNone (cond (is_empty p.reads) None (Some (tdo_bits net s.path p))) =
    subst (λ b. IsNone (cond b None (Some (tdo_bits net s.path p)))) (sym (ap is_empty q)) refl in
    let here : IsOpening net h (write_all h p.writes) (scan_of net h s.path p) =
    record {
      scans = silent_scan net w h e s.path s.traced some p q;
      widths = s.shape;
      off_path = s.off_path;
      data_stays = u.data_bits;
      quiet = quiet;
    } in
    subst (λ path. IsOpening net h (write_all h p.writes) (scan_of net h path p))
    (sym (ap (λ o. unwrap_or o []) s.traced)) here

module _ (net : Net) (form : Items) (g : SeenGroup) (named : ¬ IsEmpty g) where
  last_scan : (h : Holds) (p : SeenGroup) → CanOpen net form g h → p ≡ g → IsScan net h p
      → IsGroupScan net h g (scan_of net h (route_of net h) p)
  last_scan h p c same scan =
      let (path, t, on) = subst (λ q. AreOnPath net (registers_of q) h) same scan.named in
      let some : ¬ (path ≡ []) =
      λ z. some_register g.writes g.reads named (subst (λ q. All (Contains q) (registers_of g)) z on) in
      let here = group_scan net c.well_formed h c.listed.widths path t some g c.group on in
      subst (λ q. IsGroupScan net h g (scan_of net h (route_of net h) q)) (sym same)
      (subst (λ q. IsGroupScan net h g (scan_of net h q g)) (sym (ap (λ o. unwrap_or o []) t)) here)

  plans_do : (plans : List SeenGroup) (h : Holds) → CanOpen net form g h → ArePlans net form g h plans
      → ScansDo net g h (scans_of net h plans) (holds_after h plans)
  plans_do [] h c a = absurd (named a)
  plans_do (p ∷ []) h c a =
      let all = planned net form g h (p ∷ []) c a in
      (last_scan h p c a.1 all.scans.0, ap (λ (q : SeenGroup). write_all h q.writes) a.1)
  plans_do (p ∷ (q ∷ ps)) h c a =
      let all = planned net form g h (p ∷ (q ∷ ps)) c a in
      let next = write_all h p.writes in
      let there : CanOpen net form g next = record {
        well_formed = c.well_formed;
        describes = c.describes;
        lawful = c.lawful;
        group = c.group;
        together = c.together;
        listed = all.unseen.0.listed;
      } in
      let rest = planned net form g next (q ∷ ps) there a.1 in
      let step = all.scans.0.step in
      let some : ¬ (step.path ≡ []) = λ z. all.least.2 (length ps) (omega arith)
      (subst (λ x. Reaches net (registers_of g) x (length ps)) (stays net h next step z) rest.least.1) in (
        next,
        opening net c.well_formed h c.listed.widths p a.0.reads_nothing step some all.unseen.0,
        plans_do (q ∷ ps) next there a.1,
      )

pub scans_listed : (net : Net) (plans : List SeenGroup) (h : Holds)
    → AreScans net h plans → IsScannable net (holds_after h plans)
scans_listed net [] h a = a
scans_listed net (p ∷ ps) h a = scans_listed net ps (write_all h p.writes) a.1

pub plans_do_groups : PlansDoGroups
plans_do_groups net form g h plans c named a =
    let all = planned net form g h plans c a in
    record {
      planned = record {
        named = named;
        valid = c.group;
        scans = plans_do net form g named plans h c
            a;
      };
      short = all.short;
      listed = scans_listed net plans h all.scans;
    }
