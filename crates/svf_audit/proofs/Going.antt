-- Each command, step by step: what its tests tell of the definition.
use Rattle.std.proofs.Common.{◌≡◌, ℕ, suc, Bool, true, false, List, [], ◌∷◌, ◌++◌, length, drop, Some, None}
use Rattle.std.proofs.Common.{refl, sym, ap, ◌∙◌, eq-eqb}
use Rattle.std.specs.Prelude.{not, map, Err, option_map}
use Rattle.std.specs.List.{list_all}
use Rattle.std.proofs.lemmas.List.{map-append}
use Rattle.ij_bits.specs.BitLists.{bits_eq, bits_of}
use Rattle.net_graph.specs.declared.device.Device.{Device}
use Rattle.net_graph.specs.declared.net.Net.{Net}
use Rattle.net_graph.specs.Chain.{chain, put_chain}
use Rattle.net_graph.specs.SeenSteps.{SeenGroup}
use Rattle.net_graph.specs.Signals.{Holds}
use Rattle.net_graph.specs.Path.{route_of}
use Rattle.svf_writer.specs.SeenCommands.{SeenScan}
use Rattle.tap_machine.specs.declared.Stable.TheVariants.{Idle as InIdle}
use Rattle.tap_machine.specs.Play.{LastScan, after_scan, expected, is_empty, played}
use Rattle.svf_audit.specs.declared.answer.Cause.TheVariants.{Length, Compare, Select, Step, Write, Read, Run}
use Rattle.svf_audit.specs.declared.answer.Cause.TheVariants.{Reset}
use Rattle.svf_audit.specs.declared.last_parts.LastParts.{LastParts}
use Rattle.svf_audit.specs.Audit.{Reading, State, changed, compares, do_group, does_reads, does_writes}
use Rattle.svf_audit.specs.Audit.{has_row, load_instruction, need, need_some, note, pass, reset, scan}
use Rattle.svf_audit.specs.Audit.{scanned, was_reset}
use Rattle.svf_audit.specs.Auditing.{do_scan_work, ok}
use Rattle.svf_audit.specs.LastParts.{looked_for, seen_last, seen_tdi}
use Rattle.svf_audit.specs.Work.{Work, Group, Cycle, Reset as ResetWork, due, group_first, after_cycles}
use Rattle.svf_audit.specs.Work.{after_reset}
use Rattle.std.proofs.lemmas.Bool.{ne_eqb}

-- ---- what a scan shifts and looks for

pub kept_length : (k : LastParts) (last : LastScan) (x : SeenScan)
    → seen_last k ≡ after_scan last x → k.len ≡ x.len
kept_length k last x e = ap (λ z. z.len) e

pub kept_tdi : (k : LastParts) (last : LastScan) (x : SeenScan)
    → seen_last k ≡ after_scan last x → seen_tdi k ≡ (played last x).tdi
kept_tdi k last x e = ap (λ z. z.tdi) e

pub kept_looks : (k : LastParts) (last : LastScan) (x : SeenScan) → seen_last k ≡ after_scan last x
    → looked_for k x.tdo ≡ (played last x).expects
kept_looks k last x e = ap (λ z. expected z.len x.tdo z.mask) e

module _ (net : Net) (device : Device) (a : State) (x : SeenScan) where
  -- ---- an instruction scan

  pub load_length : (x.len ≡ device.ir → ⊥) → load_instruction net device a x ≡ Err Length
  load_length h =
      ap (λ t. need t Length (need (not (compares (played a.ir x))) Compare
      (ok (record a {
        linked = bits_eq (played a.ir x).tdi (bits_of device.ir device.opcode);
        rest = InIdle;
        ir = after_scan a.ir x;
        scans = suc a.scans;
      })))) (ne_eqb x.len device.ir h)

  pub load_compares : x.len ≡ device.ir → compares (played a.ir x) ≡ true → load_instruction net device a x
      ≡ Err Compare
  load_compares e c =
      let next = ok (record a {
        linked = bits_eq (played a.ir x).tdi (bits_of device.ir device.opcode);
        rest = InIdle;
        ir = after_scan a.ir x;
        scans = suc a.scans;
      }) in
      ap (λ t. need t Length (need (not (compares (played a.ir x))) Compare next)) (eq-eqb x.len device.ir e)
      ∙ ap (λ t. need (not t) Compare next) c

  pub load_goes : (linked : Bool) (ir : LastScan) (scans : ℕ)
      → x.len ≡ device.ir → compares (played a.ir x) ≡ false
      → linked ≡ bits_eq (played a.ir x).tdi (bits_of device.ir device.opcode)
      → ir ≡ after_scan a.ir x → scans ≡ suc a.scans
      → load_instruction net device a x ≡ ok (record a {
        linked = linked;
        rest = InIdle;
        ir = ir;
        scans =
            scans;
      })
  load_goes linked ir scans e c l k s =
      let next = ok (record a {
        linked = bits_eq (played a.ir x).tdi (bits_of device.ir device.opcode);
        rest = InIdle;
        ir = after_scan a.ir x;
        scans = suc a.scans;
      }) in
      ap (λ t. need t Length (need (not (compares (played a.ir x))) Compare next)) (eq-eqb x.len device.ir e)
      ∙ ap (λ t. need (not t) Compare next) c
      ∙ ap (λ t. ok (record a { linked = t; rest = InIdle; ir = after_scan a.ir x; scans = suc a.scans }))
      (sym l)
      ∙ ap (λ t. ok (record a { linked = linked; rest = InIdle; ir = t; scans = suc a.scans })) (sym k)
      ∙ ap (λ t. ok (record a { linked = linked; rest = InIdle; ir = ir; scans = t })) (sym s)

  -- ---- a data scan under another instruction

  pub pass_compares : compares (played a.dr x) ≡ true → pass net device a x ≡ Err Compare
  pass_compares c = ap (λ t. need (not t) Compare (ok (scanned net device a x a.holds a.readings a.left))) c

  pub pass_goes : compares (played a.dr x) ≡ false
      → pass net device a x ≡ ok (scanned net device a x a.holds a.readings a.left)
  pass_goes c = ap (λ t. need (not t) Compare (ok (scanned net device a x a.holds a.readings a.left))) c

  -- ---- a data scan of the network

  abbrev path : List ℕ
  path = route_of net a.holds

  abbrev after : Holds
  after = put_chain path (played a.dr x).tdi a.holds

  pub scan_length : (x.len ≡ length (chain path a.holds) → ⊥) → scan net device a x ≡ Err Length
  scan_length h =
      ap (λ t. need t Length (need (list_all (has_row after) net.muxes.items) Select
      (do_scan_work net device a x after))) (ne_eqb x.len (length (chain path a.holds)) h)

  pub scan_select : x.len ≡ length (chain path a.holds)
      → list_all (has_row after) net.muxes.items ≡ false → scan net device a x ≡ Err Select
  scan_select e r =
      ap (λ t. need t Length (need (list_all (has_row after) net.muxes.items) Select
      (do_scan_work net device a x after))) (eq-eqb x.len (length (chain path a.holds)) e)
      ∙ ap (λ t. need t Select (do_scan_work net device a x after)) r

  pub scan_acts : x.len ≡ length (chain path a.holds) → list_all (has_row after) net.muxes.items ≡ true
      → scan net device a x ≡ do_scan_work net device a x after
  scan_acts e r =
      ap (λ t. need t Length (need (list_all (has_row after) net.muxes.items) Select
      (do_scan_work net device a x after))) (eq-eqb x.len (length (chain path a.holds)) e)
      ∙ ap (λ t. need t Select (do_scan_work net device a x after)) r

-- ---- groups

module _ (net : Net) (device : Device) (a : State) (x : SeenScan) (now : Holds) where
  abbrev way : List ℕ
  way = route_of net a.holds

  pub group_goes : (g : SeenGroup) (ws : List Work) → group_first (due a.holds a.left) ≡ Some (g, ws)
      → do_group net device a x now ≡ need (does_writes g (changed net way a.holds now) now) Write (need
      (does_reads g way a.holds (played a.dr x).expects) Read (ok (scanned net device a x now (note a g) ws)))
  group_goes g ws e =
      ap (λ o. need_some o Step (λ next. need (does_writes next.0 (changed net way a.holds now) now) Write
      (need (does_reads next.0 way a.holds (played a.dr x).expects) Read
      (ok (scanned net device a x now (note a next.0) next.1))))) e

  pub group_fails : group_first (due a.holds a.left) ≡ None → do_group net device a x now ≡ Err Step
  group_fails e =
      ap (λ o. need_some o Step (λ next. need (does_writes next.0 (changed net way a.holds now) now) Write
      (need (does_reads next.0 way a.holds (played a.dr x).expects) Read
      (ok (scanned net device a x now (note a next.0) next.1))))) e

-- ---- resets and runs

module _ (net : Net) (device : Device) (a : State) where
  pub reset_goes : (left : List Work) → after_reset (due a.holds a.left) ≡ Some left
      → reset net device InIdle a ≡ ok (was_reset net device a left)
  reset_goes left e = ap (λ o. need_some o Reset (λ l. ok (was_reset net device a l))) e

  pub reset_fails : after_reset (due a.holds a.left) ≡ None → reset net device InIdle a ≡ Err Reset
  reset_fails e = ap (λ o. need_some o Reset (λ l. ok (was_reset net device a l))) e

  pub run_goes : (n : ℕ) (left : List Work) → after_cycles a.holds n a.left ≡ Some left
      → need_some (after_cycles a.holds n a.left) Run (λ l. ok (record a { rest = InIdle; left = l }))
      ≡ ok (record a { rest = InIdle; left = left })
  run_goes n left e = ap (λ o. need_some o Run (λ l. ok (record a { rest = InIdle; left = l }))) e

  pub run_fails : (n : ℕ) → after_cycles a.holds n a.left ≡ None → need_some
      (after_cycles a.holds n a.left) Run (λ l. ok (record a { rest = InIdle; left = l })) ≡ Err Run
  run_fails n e = ap (λ o. need_some o Run (λ l. ok (record a { rest = InIdle; left = l }))) e

-- ---- what is first

pub group_is : (ws : List Work) (g : SeenGroup)
    → Some g ≡ option_map (λ x. x.0) (group_first ws) → group_first ws ≡ Some (g, drop 1 ws)
group_is [] g e = absurd (cc)
group_is (Group h ∷ ws) g e = ap (λ o. option_map (λ y. (y, ws)) o) (sym e)
group_is (Cycle ∷ ws) g e = absurd (cc)
group_is (ResetWork ∷ ws) g e = absurd (cc)

pub no_group : (ws : List Work) → None ≡ option_map (λ x. x.0) (group_first ws) → group_first ws ≡ None
no_group [] e = refl
no_group (Group h ∷ ws) e = absurd (cc)
no_group (Cycle ∷ ws) e = refl
no_group (ResetWork ∷ ws) e = refl

-- a group with reads is noted
pub noted_as : (a : State) (g : SeenGroup) (old new : List ℕ) (scan : ℕ) → old ≡ map (λ r. r.scan) a.readings
    → scan ≡ suc a.scans → new ≡ elim (is_empty g.reads) [ true ↦ old | false ↦ old ++ scan ∷ [] ]
    → new ≡ map (λ r. r.scan) (note a g)
noted_as a g old new scan o s n =
    n ∙ by (is_empty g.reads) refl (record { scan = suc a.scans; holds = a.holds; group = g }) refl
  where
    by : (t : Bool) → is_empty g.reads ≡ t → (here : Reading)
        → here ≡ record { scan = suc a.scans; holds = a.holds; group = g }
        → elim (is_empty g.reads) [ true ↦ old | false ↦ old ++ scan ∷ [] ] ≡ map (λ r. r.scan) (note a g)
    by true e here is =
        ap (λ t. elim t [ true ↦ old | false ↦ old ++ scan ∷ [] ]) e
        ∙ o
        ∙ ap (λ t. map (λ (r : Reading). r.scan) (elim t [
          | true ↦ a.readings
          | false ↦ a.readings ++ record { scan = suc a.scans; holds = a.holds; group = g } ∷ []
        ])) (sym e)
    by false e here is =
        ap (λ t. elim t [ true ↦ old | false ↦ old ++ scan ∷ [] ]) e
        ∙ ap (λ k. old ++ k ∷ []) (s ∙ sym (ap (λ r. r.scan) is))
        ∙ ap (λ xs. xs ++ here.scan ∷ []) o
        ∙ sym (map-append (λ (r : Reading). r.scan) a.readings (here ∷ []))
        ∙ ap (λ r. map (λ (y : Reading). y.scan) (a.readings ++ r ∷ [])) is
        ∙ ap (λ t. map (λ (r : Reading). r.scan) (elim t [
          | true ↦ a.readings
          | false ↦ a.readings ++ record { scan = suc a.scans; holds = a.holds; group = g } ∷ []
        ])) (sym e)
