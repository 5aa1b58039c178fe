-- No commands of which an audit says yes take fewer clocks, command by command.
use Rattle.std.proofs.Common.{◌≡◌, ⊎_elim, ℕ, suc, ◌+◌, ◌≤◌, Bool, true, false, List, [], ◌∷◌, ◌++◌, length}
use Rattle.std.proofs.Common.{Option, Some, None, refl, sym, ap, ◌∙◌, subst, arith}
use Rattle.std.specs.Prelude.{All, Contains, cond, filter, not, ◌&&◌, ◌==◌, Result, Ok, Err, unwrap_or}
use Rattle.std.specs.Option.{is_some}
use Rattle.std.specs.List.{list_all, list_any}
use Rattle.std.proofs.lemmas.Bool.{true≢false, and_parts, eqb-true, not-true}
use Rattle.std.proofs.lemmas.List.Elements.{All-head, All-tail}
use Rattle.std.proofs.lemmas.Option.{none-some}
use Rattle.ij_bits.specs.BitLists.{bit, bits_eq, bits_of, same_bit}
use Rattle.ij_bits.proofs.Tests.{not_both}
use Rattle.net_graph.specs.declared.device.Device.{Device}
use Rattle.net_graph.specs.declared.net.Net.{Net}
use Rattle.net_graph.specs.declared.step.ReadBit.{ReadBit}
use Rattle.net_graph.specs.declared.step.WriteBit.{WriteBit}
use Rattle.net_graph.specs.Chain.{NotIn, chain, put_chain}
use Rattle.net_graph.specs.Path.{active, route_of, is_in}
use Rattle.net_graph.specs.Resets.{reset_holds, start_holds, zero_holds}
use Rattle.net_graph.specs.SeenSteps.{SeenGroup, SeenStep}
use Rattle.net_graph.specs.Signals.{Holds, bits_at}
use Rattle.net_graph.specs.Steps.{IsStep}
use Rattle.net_graph.specs.Writes.{write_all}
use Rattle.net_graph.proofs.Chains.{put_chain_off}
use Rattle.net_graph.proofs.Resetting.{reset_twice}
use Rattle.net_graph.proofs.Shapes.{shape, widths, total, length-chain, put_chain-shape, reset-shape}
use Rattle.net_graph.proofs.Widths.{started_held}
use Rattle.net_graph.proofs.Writing.{write_all-shape}
use Rattle.net_tree.specs.Form.{Items, Describes}
use Rattle.path_planner.proofs.Among.{Among, all_true, among-cases, among_contains, among_map_back}
use Rattle.path_planner.proofs.Among.{contains_among, in_or_not, on_true, true_all, true_on}
use Rattle.svf_writer.specs.Clocks.{clocks_from, with_leave}
use Rattle.svf_writer.specs.Fits.{FitsAfter, AreFitAfter}
use Rattle.svf_writer.specs.SeenCommands.{SeenCommand, SeenScan, SIR, SDR, Reset as StateReset}
use Rattle.svf_writer.specs.SeenCommands.{Idle as StateIdle, Run as RunTest}
use Rattle.tap_machine.specs.declared.Stable.{Stable}
use Rattle.tap_machine.specs.declared.Stable.TheVariants.{Reset as InReset, Idle as InIdle}
use Rattle.tap_machine.specs.Clocks.{is_reset}
use Rattle.tap_machine.specs.Play.{after_scan, played, is_empty, scans_in}
use Rattle.tap_machine.proofs.Clocks.{pins_are_clocks}
use Rattle.svf_audit.specs.declared.answer.Cause.{Cause}
use Rattle.svf_audit.specs.declared.answer.Cause.TheVariants.{End}
use Rattle.svf_audit.specs.Audit.{State as AuditState, Reading, Yes, No, audit_from, changed as changed_on}
use Rattle.svf_audit.specs.Audit.{does_writes, does_reads, is_written, note, scanned}
use Rattle.svf_audit.specs.Audit.{was_reset as audit_reset, reset, step, has_row, load_instruction, pass}
use Rattle.svf_audit.specs.Audit.{scan, do_group}
use Rattle.svf_audit.specs.Audit.{start as audit_start}
use Rattle.svf_audit.specs.Auditing.{FitsNext, last_dr, last_ir}
use Rattle.svf_audit.specs.Work.{Work, Group, Cycle, Reset, due, group_first, after_reset, after_cycles}
use Rattle.svf_audit.specs.Work.{has_value}
use Rattle.svf_audit.proofs.Changing.{none_changed, writes_done}
use Rattle.svf_audit.proofs.Following.{KeptAs, kept_as, played_long, needed, needed_some, ok, same_answer}
use Rattle.svf_audit.proofs.Looping.{fits_next}
use Rattle.svf_audit.proofs.Telling.{passed_in}
use Rattle.svf_audit.proofs.Working.{IsWork, empty_is, steps_work}
use Rattle.least_clocks.specs.Inside.{bits_within_rows}
use Rattle.least_clocks.specs.Law.{NoneTakesFewer}
use Rattle.least_clocks.specs.Least.{clocks_to_idle, clocks_to_link, changed, first_path, first_scan, read}
use Rattle.least_clocks.specs.Least.{is_on_first, is_passed, least_from, own_scan, round_scan_clocks}
use Rattle.least_clocks.proofs.Moving.{state, same_clocks, takes, leave, link, linked_least, unlinked_most}
use Rattle.least_clocks.proofs.Moving.{scanned_once, due_clocks, due_work, due_first, cycles_clocks}
use Rattle.least_clocks.proofs.Moving.{cycles_work}
use Rattle.least_clocks.proofs.Passing.{along_is, path_least, both_open}

leaves : (r : Stable) (n : ℕ) → with_leave (is_reset r) n ≡ clocks_to_idle r + n
leaves InReset n = omega arith
leaves InIdle n = omega arith

not_reset : InIdle ≡ InReset → ⊥
not_reset e = true≢false (sym (ap (λ r. elim r [ InReset ↦ true | InIdle ↦ false ]) e))

first_group : (w : List Work) (x : SeenGroup × List Work) → Some x ≡ group_first w → Group x.0 ∷ x.1 ≡ w
first_group [] x e = absurd (none-some x (sym e))
first_group (Group g ∷ ws) x e = ap (λ o. let y = unwrap_or o (g, ws) in Group y.0 ∷ y.1) e
first_group (Cycle ∷ ws) x e = absurd (none-some x (sym e))
first_group (Reset ∷ ws) x e = absurd (none-some x (sym e))

first_reset : (w : List Work) (x : List Work) → Some x ≡ after_reset w → Reset ∷ x ≡ w
first_reset [] x e = absurd (none-some x (sym e))
first_reset (Group g ∷ ws) x e = absurd (none-some x (sym e))
first_reset (Cycle ∷ ws) x e = absurd (none-some x (sym e))
first_reset (Reset ∷ ws) x e = ap (λ o. Reset ∷ unwrap_or o ws) e

yes_or_no : (n : ℕ) (cause : Cause) (readings : List Reading) → Yes readings ≡ No n cause → ⊥
yes_or_no n cause readings e = true≢false (ap (λ z. elim z [ Yes rs ↦ true | No k c ↦ false ]) e)

yes_empty : (t : Bool) (n : ℕ) (before readings : List Reading)
    → elim t [ true ↦ Yes before | false ↦ No n End ] ≡ Yes readings → t ≡ true
yes_empty true n before readings e = refl
yes_empty false n before readings e = absurd (yes_or_no n End readings (sym e))

-- ---- the scan of a round has on its path what the round asks for

module _ (before : Holds) (path : List ℕ) (tdi : List Bool) (g : SeenGroup) where
  abbrev now : Holds
  now = put_chain path tdi before

  changed_on_path : list_all (has_value now) g.writes ≡ true → (r : ℕ)
      → Among r (changed before g) → Among r path
  changed_on_path all r a =
      let test : WriteBit → Bool = λ w. not (has_value before w) in
      let (w, i, q) = among_map_back (λ (w : WriteBit). w.bit.reg) r (filter test g.writes) a in
      let (c, t) = passed_in test g.writes w (among_contains w (filter test g.writes) i) in
      ⊎_elim
      (λ on. subst (λ k. Among k path) q on)
      (λ off. absurd (not_both (has_value before w)
      (ap (λ bs. same_bit (bit bs w.bit.pos) w.value) (sym (put_chain_off path tdi before w.bit.reg off))
      ∙ written w c all) (not-true (has_value before w) t)))
      (in_or_not w.bit.reg path)
    where
      written : (w : WriteBit) → Contains g.writes w
          → list_all (has_value now) g.writes ≡ true → has_value now w ≡ true
      written w c all = true_all (has_value now) g.writes all w (contains_among w g.writes c)

  read_on_path : (es : List (Option Bool)) → does_reads g path before es ≡ true
      → (r : ℕ) → Among r (read g) → Among r path
  read_on_path es t r a =
      let (x, i, q) = among_map_back (λ (x : ReadBit). x.bit.reg) r g.reads a in
      let parts = and_parts _ (list_all (λ (x : ReadBit). is_in path x.bit.reg) g.reads) t in
      subst (λ k. Among k path) q
      (true_on x.bit.reg path (true_all (λ (x : ReadBit). is_in path x.bit.reg) g.reads parts.1 x i))

module _ (net : Net) (form : Items) (device : Device) (d : Describes net form) where
  -- what the clocks from a state of the audit on rest on
  record Keeps (a : AuditState) (f : Bool) : Type 0 where
    fits : shape a.holds ≡ widths net
    work : All (IsWork net) a.left
    stays : a.rest ≡ InReset → reset_holds net a.holds ≡ a.holds
    first : f ≡ true → a.holds ≡ start_holds net

  abbrev least : AuditState → Bool → ℕ
  least a f = least_from net form device (state f a.linked a.rest a.holds) a.left

  -- one command that has no cause
  record Steps (a : AuditState) (f : Bool) (c : SeenCommand)
      (ir dr : Option ℕ) (b : AuditState) : Type 0 where
    fresh : Bool
    keeps : Keeps b fresh
    kept_ir : KeptAs b.ir (last_ir ir c)
    kept_dr : KeptAs b.dr (last_dr dr c)
    clocks : (cs : List SeenCommand) → least b fresh ≤ clocks_from (is_reset b.rest) cs
        → least a f ≤ clocks_from (is_reset a.rest) (c ∷ cs)

  module _ (a : AuditState) (f : Bool) (k : Keeps a f) (ir dr : Option ℕ)
      (ki : KeptAs a.ir ir) (kd : KeptAs a.dr dr) where
    load_steps : (x : SeenScan) (b : AuditState) → FitsAfter ir x
        → load_instruction net device a x ≡ ok b → Steps a f (SIR x) ir dr b
    load_steps x b fit e =
        let linked = bits_eq (played a.ir x).tdi (bits_of device.ir device.opcode) in
        let b0 : AuditState =
        record a { linked = linked; rest = InIdle; ir = after_scan a.ir x; scans = suc a.scans } in
        let (long, e1) = needed (x.len == device.ir) _ _ b e in
        let (quiet, e2) = needed (not (list_any is_some (played a.ir x).expects)) _ _ b e1 in
        let as_long = eqb-true x.len device.ir long in
        let out = leave net form device f a.linked a.rest a.holds a.left in
        let loaded = link net form device f a.linked InIdle a.holds a.left in
        let most = linked_least net form device f linked InIdle a.holds a.left in
        subst (Steps a f (SIR x) ir dr) (same_answer b0 b e2) (record {
          fresh = f;
          keeps = record { fits = k.fits; work = k.work; stays = λ z. absurd (not_reset z); first = k.first };
          kept_ir = kept_as a.ir ir x ki fit;
          kept_dr = kd;
          clocks = λ cs i. omega (arith, i, as_long, out, loaded, most, leaves a.rest (x.len + 6));
        })

    pass_steps : (x : SeenScan) (b : AuditState) → FitsAfter dr x
        → pass net device a x ≡ ok b → Steps a f (SDR x) ir dr b
    pass_steps x b fit e =
        let b0 = scanned net device a x a.holds a.readings a.left in
        let (quiet, e1) = needed (not (list_any is_some (played a.dr x).expects)) _ _ b e in
        let out = leave net form device f a.linked a.rest a.holds a.left in
        subst (Steps a f (SDR x) ir dr) (same_answer b0 b e1) (record {
          fresh = f;
          keeps = record { fits = k.fits; work = k.work; stays = λ z. absurd (not_reset z); first = k.first };
          kept_ir = ki;
          kept_dr = kept_as a.dr dr x kd fit;
          clocks = λ cs i. omega (arith, i, out, leaves a.rest (x.len + 5));
        })

    idle_steps : (b : AuditState) → step net device a StateIdle ≡ ok b → Steps a f StateIdle ir dr b
    idle_steps b e =
        let b0 : AuditState = record a { rest = InIdle } in
        let out = leave net form device f a.linked a.rest a.holds a.left in
        subst (Steps a f StateIdle ir dr) (same_answer b0 b e) (record {
          fresh = f;
          keeps = record { fits = k.fits; work = k.work; stays = λ z. absurd (not_reset z); first = k.first };
          kept_ir = ki;
          kept_dr = kd;
          clocks = λ cs i. omega (arith, i, out, leaves a.rest 0);
        })

    run_steps : (n : ℕ) (b : AuditState)
        → step net device a (RunTest n) ≡ ok b → Steps a f (RunTest n) ir dr b
    run_steps n b e =
        let (left, q, e1) = needed_some (after_cycles a.holds n a.left) _ _ b e in
        let b0 : AuditState = record a { rest = InIdle; left = left } in
        let out = leave net form device f a.linked a.rest a.holds a.left in
        let ran = cycles_clocks net form device f a.linked a.holds n a.left left q in
        subst (Steps a f (RunTest n) ir dr) (same_answer b0 b e1) (record {
          fresh = f;
          keeps = record {
            fits = k.fits;
            work = cycles_work net a.holds n a.left left q k.work;
            stays = λ z. absurd (not_reset z);
            first = k.first;
          };
          kept_ir = ki;
          kept_dr = kd;
          clocks = λ cs i. omega (arith, i, out, ran, leaves a.rest n);
        })

    -- ---- a reset

    still_first : f ≡ true → reset_holds net a.holds ≡ start_holds net
    still_first z = ap (reset_holds net) (k.first z) ∙ reset_twice net (zero_holds net)

    again_steps : (b : AuditState) → a.rest ≡ InReset
        → ok (audit_reset net device a a.left) ≡ ok b → Steps a f StateReset ir dr b
    again_steps b r e =
        let b0 = audit_reset net device a a.left in
        let most = unlinked_most net form device f a.linked InReset a.holds a.left in
        let there = ap (λ s. least_from net form device (state f a.linked s a.holds) a.left) r in
        let same = ap (λ h. least_from net form device (state f false InReset h) a.left) (k.stays r) in
        subst (Steps a f StateReset ir dr) (same_answer b0 b e) (record {
          fresh = f;
          keeps = record {
            fits = reset-shape net a.holds ∙ k.fits;
            work = k.work;
            stays = λ z. reset_twice net a.holds;
            first = still_first;
          };
          kept_ir = ki;
          kept_dr = kd;
          clocks = λ cs i. omega (arith, i, most, there, same);
        })

    reset_steps : (b : AuditState) → a.rest ≡ InIdle
        → reset net device InIdle a ≡ ok b → Steps a f StateReset ir dr b
    reset_steps b r e =
        let (left, q, e1) = needed_some (after_reset (due a.holds a.left)) _ _ b e in
        let b0 = audit_reset net device a left in
        let is = sym (first_reset (due a.holds a.left) left (sym q)) in
        let there = ap (λ s. least_from net form device (state f a.linked s a.holds) a.left) r in
        let first = sym (due_clocks net form device f a.linked InIdle a.holds a.left)
        ∙ ap (least_from net form device (state f a.linked InIdle a.holds)) is in
        let valid = All-tail (IsWork net) Reset left
        (subst (All (IsWork net)) is (due_work net a.holds a.left k.work)) in
        subst (Steps a f StateReset ir dr) (same_answer b0 b e1) (record {
          fresh = f;
          keeps = record {
            fits = reset-shape net a.holds ∙ k.fits;
            work = valid;
            stays = λ z. reset_twice net a.holds;
            first = still_first;
          };
          kept_ir = ki;
          kept_dr = kd;
          clocks = λ cs i. omega (arith, i, there, first);
        })

    any_reset_steps : (r : Stable) (b : AuditState) → a.rest ≡ r
        → reset net device r a ≡ ok b → Steps a f StateReset ir dr b
    any_reset_steps InReset b r e = again_steps b r e
    any_reset_steps InIdle b r e = reset_steps b r e

    -- ---- a data scan of the network

    module _ (x : SeenScan) (fit : FitsAfter dr x) (on : a.linked ≡ true)
        (long : (x.len == length (chain (route_of net a.holds) a.holds)) ≡ true) where
      abbrev path : List ℕ
      path = route_of net a.holds

      abbrev tdi : List Bool
      tdi = (played a.dr x).tdi

      abbrev after : Holds
      after = put_chain path tdi a.holds

      path_long : x.len ≡ length (chain path a.holds)
      path_long = eqb-true x.len (length (chain path a.holds)) long

      fits_path : length tdi ≡ length (chain path a.holds)
      fits_path = played_long a.dr dr x kd fit ∙ path_long

      same_shape : shape after ≡ shape a.holds
      same_shape = put_chain-shape path tdi a.holds fits_path

      off : (r : ℕ) → NotIn r path → bits_at after r ≡ bits_at a.holds r
      off = put_chain_off path tdi a.holds

      -- the first scan goes along the path at power-up
      first_long : f ≡ true → first_scan net ≡ x.len + 5
      first_long z =
          let same = ap (λ h. length (chain (route_of net h) h)) (k.first z) in
          let start = k.first z in
          let along = along_is net (first_path net) in
          let fits_start : shape (start_holds net) ≡ widths net = ap shape (sym start) ∙ k.fits in
          let as_total = length-chain (first_path net) (start_holds net)
          ∙ ap (total (first_path net)) fits_start in
          omega (arith, same, along, as_total, path_long)

      some_scan : (t : Bool) → f ≡ t → (ws : List Work)
          → least_from net form device (state f a.linked InIdle a.holds) ws
          ≤ x.len + 5 + least_from net form device (state false a.linked InIdle a.holds) ws
      some_scan true z ws =
          let here = ap (λ t. least_from net form device (state t a.linked InIdle a.holds) ws) z in
          omega (arith, here, scanned_once net form device a.linked InIdle a.holds ws, first_long z)
      some_scan false z ws =
          let here = ap (λ t. least_from net form device (state t a.linked InIdle a.holds) ws) z in
          omega (arith, here)

      quiet_steps : (b : AuditState) → is_empty (changed_on net path a.holds after) ≡ true
          → scanned net device a x after a.readings a.left ≡ b → Steps a f (SDR x) ir dr b
      quiet_steps b q is =
          let same = none_changed net path a.holds after same_shape off q in
          let out = leave net form device f a.linked a.rest a.holds a.left in
          let once = some_scan f refl a.left in
          let clocks = same_clocks net form device false a.linked InIdle after a.holds a.left
          (same_shape ∙ k.fits) k.fits k.work same in
          subst (Steps a f (SDR x) ir dr) is (record {
            fresh = false;
            keeps = record {
              fits = same_shape ∙ k.fits;
              work = k.work;
              stays = λ z. absurd (not_reset z);
              first = λ z. absurd (true≢false (sym z));
            };
            kept_ir = ki;
            kept_dr = kept_as a.dr dr x kd fit;
            clocks = λ cs i. omega (arith, i, out, once, clocks, leaves a.rest (x.len + 5));
          })

      -- the path has all bits that the round passes
      asked_short : (g : SeenGroup) → list_all (has_value after) g.writes ≡ true
          → does_reads g path a.holds (played a.dr x).expects ≡ true → (o : Option (List ℕ))
          → active net a.holds ≡ o → bits_within_rows net form (is_passed form a.holds g) ≤ x.len
      asked_short g writes reads None e =
          let none = ap (λ (o : Option (List ℕ)). length (chain (unwrap_or o []) a.holds)) e in
          absurd (omega (arith, none, path_long, fit.some))
      asked_short g writes reads (Some p) e =
          let same : path ≡ p = ap (λ (o : Option (List ℕ)). unwrap_or o []) e in
          let opened = both_open net form d a.holds p e (changed a.holds g) (read g)
          (λ r i. subst (Among r) same (changed_on_path a.holds path tdi g writes r i)) (λ r i. subst
          (Among r) same (read_on_path a.holds path tdi g (played a.dr x).expects reads r i)) in
          let least = path_least net form d a.holds p e (is_passed form a.holds g) opened in
          let chain_is = length-chain p a.holds ∙ ap (total p) k.fits in
          let long_as = ap (λ q. length (chain q a.holds)) same in
          omega (arith, least, chain_is, long_as, path_long)

      all_on_first : (g : SeenGroup) → list_all (has_value after) g.writes ≡ true
          → does_reads g path a.holds (played a.dr x).expects ≡ true
          → f ≡ true → is_on_first net a.holds g ≡ true
      all_on_first g writes reads z =
          let same : path ≡ first_path net = ap (route_of net) (k.first z) in
          all_true (is_in (first_path net)) (changed a.holds g ++ read g)
          (λ r i. ap (λ p. is_in p r) (sym same) ∙ on_true r path
          (⊎_elim (λ j. changed_on_path a.holds path tdi g writes r j) (λ j. read_on_path a.holds path tdi
          g (played a.dr x).expects reads r j) (among-cases r (changed a.holds g) (read g) i)))

      -- the scan has all clocks that the round's take
      scan_short : (g : SeenGroup) → list_all (has_value after) g.writes ≡ true
          → does_reads g path a.holds (played a.dr x).expects ≡ true → (t : Bool) → f ≡ t
          → round_scan_clocks net form f a.holds g ≤ x.len + 5
      scan_short g writes reads true z =
          let here = ap (λ t. round_scan_clocks net form t a.holds g) z in
          let none = ap (λ t. cond t 0 (own_scan net form a.holds g)) (all_on_first g writes reads z) in
          omega (arith, here, none, first_long z)
      scan_short g writes reads false z =
          let here = ap (λ t. round_scan_clocks net form t a.holds g) z in
          omega (arith, here, asked_short g writes reads (active net a.holds) refl)

      group_steps : (b : AuditState) (next : SeenGroup × List Work)
          → group_first (due a.holds a.left) ≡ Some next
          → does_writes next.0 (changed_on net path a.holds after) after ≡ true
          → does_reads next.0 path a.holds (played a.dr x).expects ≡ true
          → scanned net device a x after (note a next.0) next.1 ≡ b → Steps a f (SDR x) ir dr b
      group_steps b next q writes reads is =
          let g = next.0 in
          let ws = next.1 in
          let is_due = sym (first_group (due a.holds a.left) next (sym q)) in
          let some_bit = due_first a.holds a.left (Group g) ws is_due in
          let valid = subst (All (IsWork net)) is_due (due_work net a.holds a.left k.work) in
          let rest = All-tail (IsWork net) (Group g) ws valid in
          let parts = and_parts (list_all (is_written g.writes) (changed_on net path a.holds after))
          (list_all (has_value after) g.writes) writes in
          let mine = writes_done net path a.holds after same_shape off g
          (All-head (IsWork net) (Group g) ws valid) k.fits writes in
          let later = same_clocks net form device false true InIdle after (write_all a.holds g.writes) ws
          (same_shape ∙ k.fits) (write_all-shape g.writes a.holds ∙ k.fits) rest mine in
          let first = sym (due_clocks net form device f a.linked a.rest a.holds a.left)
          ∙ ap (least_from net form device (state f a.linked a.rest a.holds)) is_due in
          let taken = takes net form device f a.linked a.rest a.holds g ws some_bit in
          let linked = ap (clocks_to_link device) on in
          let still = ap (λ l. least_from net form device (state false l InIdle after) ws) on in
          let short = scan_short g parts.1 reads f refl in
          subst (Steps a f (SDR x) ir dr) is (record {
            fresh = false;
            keeps = record {
              fits = same_shape ∙ k.fits;
              work = rest;
              stays = λ z. absurd (not_reset z);
              first = λ z. absurd (true≢false (sym z));
            };
            kept_ir = ki;
            kept_dr = kept_as a.dr dr x kd fit;
            clocks = λ cs i. omega (
              arith,
              i,
              first,
              taken,
              linked,
              still,
              later,
              short,
              leaves a.rest (x.len + 5),
            );
          })

      outcome : (b : AuditState) (t : Bool)
          → (is_empty (changed_on net path a.holds after) && not (list_any is_some (played a.dr x).expects))
          ≡ t → elim t [
            | true ↦ ok (scanned net device a x after a.readings a.left)
            | false ↦ do_group net device a x after
          ] ≡ ok b → Steps a f (SDR x) ir dr b
      outcome b true q e =
          let parts = and_parts (is_empty (changed_on net path a.holds after))
          (not (list_any is_some (played a.dr x).expects)) q in
          quiet_steps b parts.0 (same_answer (scanned net device a x after a.readings a.left) b e)
      outcome b false q e =
          let (next, w, e1) = needed_some (group_first (due a.holds a.left)) _ _ b e in
          let (writes, e2) = needed (does_writes next.0 (changed_on net path a.holds after) after) _ _ b e1 in
          let (reads, e3) = needed (does_reads next.0 path a.holds (played a.dr x).expects) _ _ b e2 in
          group_steps b next w writes reads
          (same_answer (scanned net device a x after (note a next.0) next.1) b e3)

    scan_steps : (x : SeenScan) (b : AuditState) → FitsAfter dr x → a.linked ≡ true
        → scan net device a x ≡ ok b → Steps a f (SDR x) ir dr b
    scan_steps x b fit on e =
        let after = put_chain (route_of net a.holds) (played a.dr x).tdi a.holds in
        let (long, e1) = needed (x.len == length (chain (route_of net a.holds) a.holds)) _ _ b e in
        let (rows, e2) = needed (list_all (has_row after) net.muxes.items) _ _ b e1 in
        outcome x fit on long b (is_empty (changed_on net (route_of net a.holds) a.holds after) && not
        (list_any is_some (played a.dr x).expects)) refl e2

    data_steps : (x : SeenScan) (b : AuditState) (on : Bool) → FitsAfter dr x → a.linked ≡ on
        → elim on [ true ↦ scan net device a x | false ↦ pass net device a x ] ≡ ok b
        → Steps a f (SDR x) ir dr b
    data_steps x b true fit on e = scan_steps x b fit on e
    data_steps x b false fit on e = pass_steps x b fit e

    steps : (c : SeenCommand) (b : AuditState) → FitsNext ir dr c
        → step net device a c ≡ ok b → Steps a f c ir dr b
    steps (SIR x) b fit e = load_steps x b fit e
    steps (SDR x) b fit e = data_steps x b a.linked fit refl e
    steps StateReset b fit e = any_reset_steps a.rest b refl e
    steps StateIdle b fit e = idle_steps b e
    steps (RunTest n) b fit e = run_steps n b e

  -- ---- all commands

  answer : (r : Result AuditState Cause) (a : AuditState) (c : SeenCommand)
      (cs : List SeenCommand) (readings : List Reading)
      → elim r [ Ok b ↦ audit_from net device b cs | Err cause ↦ No (a.scans + scans_in (c ∷ [])) cause ]
      ≡ Yes readings → (b : AuditState) × (r ≡ ok b) × (audit_from net device b cs ≡ Yes readings)
  answer (Ok b) a c cs readings e = (b, refl, e)
  answer (Err cause) a c cs readings e =
      absurd (yes_or_no (a.scans + scans_in (c ∷ [])) cause readings (sym e))

  bounded : (cs : List SeenCommand) (a : AuditState) (f : Bool) (ir dr : Option ℕ) (readings : List Reading)
      → Keeps a f → KeptAs a.ir ir → KeptAs a.dr dr → AreFitAfter ir dr cs
      → audit_from net device a cs ≡ Yes readings → least a f ≤ clocks_from (is_reset a.rest) cs
  bounded [] a f ir dr readings k ki kd fit e =
      let none = empty_is (due a.holds a.left)
      (yes_empty (is_empty (due a.holds a.left)) a.scans a.readings readings e) in
      let nothing = sym (due_clocks net form device f a.linked a.rest a.holds a.left)
      ∙ ap (least_from net form device (state f a.linked a.rest a.holds)) none in
      omega (arith, nothing)
  bounded (c ∷ cs) a f ir dr readings k ki kd fit e =
      let (b, q, e1) = answer (step net device a c) a c cs readings e in
      let (here, later) = fits_next c ir dr cs fit in
      let s = steps a f k ir dr ki kd c b here q in
      s.clocks cs
      (bounded cs b s.fresh (last_ir ir c) (last_dr dr c) readings s.keeps s.kept_ir s.kept_dr later e1)

  pub from_start : (steps : List SeenStep) (cs : List SeenCommand) (readings : List Reading)
      → All (IsStep net) steps → AreFitAfter None None cs
      → audit_from net device (audit_start net device steps) cs ≡ Yes readings
      → least (audit_start net device steps) true ≤ clocks_from true cs
  from_start steps cs readings valid fit e =
      bounded cs (audit_start net device steps) true None None readings
      (record {
        fits = started_held net (start_holds net) refl;
        work = steps_work net steps valid;
        stays = λ r. reset_twice net (zero_holds net);
        first = λ z. refl;
      }) (λ m q. absurd
      (true≢false (sym (ap is_some q)))) (λ m q. absurd (true≢false (sym (ap is_some q)))) fit e

pub none_takes_fewer : NoneTakesFewer
none_takes_fewer net form device steps commands readings d valid fit e =
    omega (
      arith,
      from_start net form device d steps commands readings valid fit e,
      pins_are_clocks commands InReset 0 fit,
    )
