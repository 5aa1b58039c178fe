-- The bench follows an audit: after each command that has no cause it is where the audit has it, and agrees
-- with the direct meaning of the work that is done.
use Rattle.std.proofs.Common.{◌≡◌, ◌↔◌, ℕ, zero, suc, ◌+◌, ◌<◌, Bool, true, false, List, [], ◌∷◌, ◌++◌}
use Rattle.std.proofs.Common.{length, Option, Some, None, refl, sym, ap, ◌∙◌, subst, arith, append_assoc}
use Rattle.std.specs.Prelude.{All, Contains, map, replicate, not, ◌&&◌, ◌==◌, Result, Ok, Err, unwrap_or}
use Rattle.std.specs.Option.{is_some}
use Rattle.std.specs.List.{list_all, list_any}
use Rattle.std.proofs.lemmas.Bool.{true≢false, and_parts, not-true, eqb-true}
use Rattle.std.proofs.lemmas.List.{append-nil, length-map, map-append}
use Rattle.std.proofs.lemmas.List.Elements.{All-head, All-tail, All-weaker}
use Rattle.ij_bits.specs.BitLists.{bits_eq, bits_of}
use Rattle.net_graph.specs.declared.device.Device.{Device}
use Rattle.net_graph.specs.declared.net.Net.{Net}
use Rattle.net_graph.specs.declared.step.ReadBit.{ReadBit}
use Rattle.net_graph.specs.declared.step.WriteBit.{WriteBit}
use Rattle.net_graph.specs.Chain.{IsRoute, NotIn, chain, put_chain}
use Rattle.net_graph.specs.Devices.{IsDevice}
use Rattle.net_graph.specs.Path.{active, route_of}
use Rattle.net_graph.specs.Resets.{reset_holds}
use Rattle.net_graph.specs.Selects.{SelectsDriveNothing}
use Rattle.net_graph.specs.SeenSteps.{SeenGroup, Reset as ResetStep}
use Rattle.net_graph.specs.Signals.{Holds, bits_at, hold_at}
use Rattle.net_graph.specs.Steps.{IsDataBit}
use Rattle.net_graph.specs.Writes.{write_all}
use Rattle.net_graph.proofs.Chains.{put_chain_off}
use Rattle.net_graph.proofs.DataBits.{SameData, write_same, reset_same}
use Rattle.net_graph.proofs.Resetting.{reset_twice}
use Rattle.net_graph.proofs.Shapes.{shape, put_chain-shape, reset-shape, length-chain_same}
use Rattle.net_graph.proofs.Writing.{IsHeld, write_all-shape}
use Rattle.instruments.specs.Machine.{Log, Machine, Run as RunEvent, Reset as ResetEvent}
use Rattle.instruments.specs.OnNetwork.{changes, all_have}
use Rattle.instruments.proofs.Changing.{changes_none}
use Rattle.instruments.proofs.Seeing.{all_have_same, changes_same, inputs_same}
use Rattle.svf_writer.specs.Fits.{HasLength, TakesTdi, FitsAfter, AreFitAfter}
use Rattle.svf_writer.specs.SeenCommands.{SeenCommand, SeenScan, SIR, SDR, Reset as StateReset}
use Rattle.svf_writer.specs.SeenCommands.{Idle as StateIdle, Run as RunTest}
use Rattle.tap_machine.specs.declared.Pins.{Pins}
use Rattle.tap_machine.specs.declared.Stable.{Stable}
use Rattle.tap_machine.specs.declared.Stable.TheVariants.{Reset as InReset, Idle as InIdle}
use Rattle.tap_machine.specs.declared.TapState.TheVariants.{TestLogicReset, RunTestIdle}
use Rattle.tap_machine.specs.Play.{LastScan, after_scan, played, no_shift, sdr_pins, sir_pins, to_idle}
use Rattle.tap_machine.specs.Play.{pins_with, is_empty, scans_in}
use Rattle.net_bench.specs.Laws.{IsShaped, Ready, captured, exchanged, loaded, ran, tap_of}
use Rattle.net_bench.specs.Laws.{was_reset as bench_reset}
use Rattle.net_bench.specs.Bench.{Chip, State as Bench, fault_free, select_of}
use Rattle.net_bench.specs.Instruction.{Selected, Network, Identity, Bypass, reset_instruction}
use Rattle.net_bench.specs.Instruction.{selects_identity}
use Rattle.net_bench.specs.Playing.{Compare, after_pins, compares, scan_compares}
use Rattle.net_bench.proofs.PublicLaws.{pins_split, resets_reset, shaped_is_ready}
use Rattle.pdl_meaning.specs.Direct.{Direct, do_group, do_step, found}
use Rattle.headline.specs.Agreement.{Agrees, read_compare}
use Rattle.headline.proofs.Comparing.{both}
use Rattle.headline.proofs.Scanning.{HasRoutes}
use Rattle.svf_audit.specs.declared.answer.Cause.{Cause}
use Rattle.svf_audit.specs.declared.answer.Cause.TheVariants.{End}
use Rattle.svf_audit.specs.Audit.{State, Reading, Yes, No, at_end, audit_from, changed, does_writes}
use Rattle.svf_audit.specs.Audit.{does_reads, need, need_some, note, scanned, was_reset, reset, step, has_row}
use Rattle.svf_audit.specs.Audit.{load_instruction, pass, scan, do_group as do_due}
use Rattle.svf_audit.specs.Work.{Work, Group, Cycle, Reset, due, group_first, after_reset, after_cycles}
use Rattle.svf_audit.specs.Law.{reads_of, read_compares}
use Rattle.svf_audit.proofs.Changing.{none_changed, writes_done}
use Rattle.svf_audit.proofs.Clocking.{idle_plays, idle_quiet, clocks_quiet, sdr_quiet, sir_quiet, sir_loads}
use Rattle.svf_audit.proofs.Clocking.{sdr_shifts, run_waits, passing, sdr_passes, reset_again}
use Rattle.svf_audit.proofs.Finding.{reads_stand, reads_expected, group_compared}
use Rattle.svf_audit.proofs.Noting.{note_reads, note_compares}
use Rattle.svf_audit.proofs.Opcodes.{reset_unlinked}
use Rattle.svf_audit.proofs.Working.{IsWork, Along, due_along, cycles_along}
use Rattle.std.proofs.lemmas.Option.{none-some}
use Rattle.ij_bits.proofs.Lists.{map_twice}
use Rattle.svf_audit.proofs.Looping.{fits_next}

-- ---- what an answer without a cause tells

abbrev pub ok : {A : Type 0} → A → Result A Cause
ok x = Ok x

abbrev answered : {A : Type 0} → Result A Cause → Bool
answered (Ok x) = true
answered (Err e) = false

no_answer : {A : Type 0} (cause : Cause) (x : A) → Err cause ≡ Ok x → ⊥
no_answer cause x e = true≢false (sym (ap answered e))

pub same_answer : {A : Type 0} (x y : A) → ok x ≡ ok y → x ≡ y
same_answer x y e = ap (λ r. elim r [ Ok z ↦ z | Err c ↦ x ]) e

pub needed : {A : Type 0} (t : Bool) (cause : Cause) (next : Result A Cause) (b : A)
    → need t cause next ≡ Ok b → (t ≡ true) × (next ≡ Ok b)
needed true cause next b e = (refl, e)
needed false cause next b e = absurd (no_answer cause b e)

pub needed_some : {A B : Type 0} (o : Option A) (cause : Cause) (next : A → Result B Cause) (b : B)
    → need_some o cause next ≡ Ok b → (x : A) × (o ≡ Some x) × (next x ≡ Ok b)
needed_some None cause next b e = absurd (no_answer cause b e)
needed_some (Some x) cause next b e = (x, refl, e)

same_group : (w : List Work) (x : SeenGroup × List Work) → group_first w ≡ Some x → w ≡ Group x.0 ∷ x.1
same_group [] x e = absurd (none-some x e)
same_group (Group g ∷ ws) x e = ap (λ o. let y = unwrap_or o (g, ws) in Group y.0 ∷ y.1) e
same_group (Cycle ∷ ws) x e = absurd (none-some x e)
same_group (Reset ∷ ws) x e = absurd (none-some x e)

same_reset : (w : List Work) (x : List Work) → after_reset w ≡ Some x → w ≡ Reset ∷ x
same_reset [] x e = absurd (none-some x e)
same_reset (Group g ∷ ws) x e = absurd (none-some x e)
same_reset (Cycle ∷ ws) x e = absurd (none-some x e)
same_reset (Reset ∷ ws) x e = ap (λ o. Reset ∷ unwrap_or o ws) e

no_yes : (n : ℕ) (cause : Cause) (readings : List Reading) → No n cause ≡ Yes readings → ⊥
no_yes n cause readings e = true≢false (sym (ap (λ z. elim z [ Yes rs ↦ true | No k c ↦ false ]) e))

-- ---- commands that fit, one by one

-- the lengths of the last scans of each kind, after a command
abbrev pub last_ir : Option ℕ → SeenCommand → Option ℕ
last_ir ir (SIR x) = Some x.len
last_ir ir _ = ir

abbrev pub last_dr : Option ℕ → SeenCommand → Option ℕ
last_dr dr (SDR x) = Some x.len
last_dr dr _ = dr

abbrev pub FitsNext : Option ℕ → Option ℕ → SeenCommand → Type 0
FitsNext ir dr (SIR x) = FitsAfter ir x
FitsNext ir dr (SDR x) = FitsAfter dr x
FitsNext ir dr StateReset = Unit {0}
FitsNext ir dr StateIdle = Unit {0}
FitsNext ir dr (RunTest k) = Unit {0}

-- ---- TDI that is kept

abbrev pub KeptAs : LastScan → Option ℕ → Type 0
KeptAs k last = (n : ℕ) → last ≡ Some n → length k.tdi ≡ n

taken_long : (o : Option (List Bool)) (kept : List Bool) (n : ℕ) (last : Option ℕ) → HasLength n o
    → TakesTdi last o n → ((m : ℕ) → last ≡ Some m → length kept ≡ m) → length (unwrap_or o kept) ≡ n
taken_long None kept n last h t k = k n t
taken_long (Some bits) kept n last h t k = h

pub played_long : (k : LastScan) (last : Option ℕ) (x : SeenScan) → KeptAs k last
    → FitsAfter last x → length (played k x).tdi ≡ x.len
played_long k last x a f = taken_long x.tdi k.tdi x.len last f.tdi f.taken a

pub kept_as : (k : LastScan) (last : Option ℕ) (x : SeenScan) → KeptAs k last
    → FitsAfter last x → KeptAs (after_scan k x) (Some x.len)
kept_as k last x a f n e = played_long k last x a f ∙ ap (λ o. unwrap_or o 0) e

first_again : {X Y : Type 0} (g : X → X × Y) → ((x : X) → (g x).0 ≡ x) → (xs : List X)
    → map (λ (r : X × Y). r.0) (map g xs) ≡ xs
first_again g h [] = refl
first_again g h (x ∷ xs) = ap (λ y. y ∷ map (λ r. r.0) (map g xs)) (h x)
    ∙ ap (λ l. x ∷ l) (first_again g h xs)

module _ {L : Type 0} (log : Log L) (net : Net) (device : Device) (machines : List Machine)
    (n : HasRoutes net) (u : SelectsDriveNothing net) (v : IsDevice device) (goal : Direct L) where
  abbrev pub chip : Chip L
  chip = fault_free log net device machines

  abbrev opcode : List Bool
  opcode = bits_of device.ir device.opcode

  abbrev Beside : List (ReadBit × Bool) → Bench L → List Work → Direct L → Type 0
  Beside known s left d = Along log net device machines u goal known s left d

  -- where the bench is at a state of the audit, and what was compared so far
  pub record Follows (a : State) (s : Bench L) (past : List Compare) : Type 0 where
    pub tap : s.tap ≡ tap_of a.rest
    pub shaped : IsShaped chip s
    pub linked : bits_eq s.ir_hold opcode ≡ a.linked
    pub holds : s.holds ≡ a.holds
    pub stays : a.rest ≡ InReset → reset_holds net s.holds ≡ s.holds
    pub known : List (ReadBit × Bool)
    pub meaning : Direct L
    pub along : Along log net device machines u goal known s a.left meaning
    pub reads : map (λ r. r.0) known ≡ reads_of a.readings
    pub compared : (c : Compare) → Contains past c ↔ Contains (read_compares net a.readings known) c

  not_reset : InIdle ≡ InReset → ⊥
  not_reset e = true≢false (sym (ap (λ r. elim r [ InReset ↦ true | InIdle ↦ false ]) e))

  -- the pins of one command
  abbrev pub command_pins : State → SeenCommand → List Pins
  command_pins a (SIR x) = to_idle a.rest ++ sir_pins (suc a.scans) (played a.ir x)
  command_pins a (SDR x) = to_idle a.rest ++ sdr_pins (suc a.scans) (played a.dr x)
  command_pins a StateReset = replicate 5 (no_shift true)
  command_pins a StateIdle = to_idle a.rest
  command_pins a (RunTest k) = to_idle a.rest ++ replicate k (no_shift false)

  -- what a command keeps for SIR and for SDR
  abbrev pub next_ir : State → SeenCommand → LastScan
  next_ir a (SIR x) = after_scan a.ir x
  next_ir a _ = a.ir

  abbrev pub next_dr : State → SeenCommand → LastScan
  next_dr a (SDR x) = after_scan a.dr x
  next_dr a _ = a.dr

  pub record Goes (a : State) (c : SeenCommand) (s : Bench L) (past : List Compare) (b : State) : Type 0 where
    pub ir : b.ir ≡ next_ir a c
    pub dr : b.dr ≡ next_dr a c
    pub pins : (cs : List SeenCommand) → pins_with a.ir a.dr a.rest a.scans (c ∷ cs)
        ≡ command_pins a c ++ pins_with b.ir b.dr b.rest b.scans cs
    pub follows : Follows b (after_pins chip (command_pins a c) s)
        (past ++ compares chip (command_pins a c) s)

  arrives : (b : State) (s t : Bench L) (ps : List Pins) (past found : List Compare)
      → after_pins chip ps s ≡ t → compares chip ps s ≡ found → Follows b t (past ++ found)
      → Follows b (after_pins chip ps s) (past ++ compares chip ps s)
  arrives b s t ps past found e q f =
      subst (λ z. Follows b z (past ++ compares chip ps s)) (sym e)
      (subst (λ l. Follows b t (past ++ l)) (sym q) f)

  -- the bench in Run-Test/Idle
  abbrev idle : Bench L → Bench L
  idle s = record s { tap = RunTestIdle }

  via_idle : (from : Stable) (ps : List Pins) (s : Bench L) → s.tap ≡ tap_of from
      → after_pins chip (to_idle from ++ ps) s ≡ after_pins chip ps (idle s)
  via_idle from ps s e =
      (pins_split chip (to_idle from) ps s).0 ∙ ap (after_pins chip ps) (idle_plays chip from s e)

  found_idle : (from : Stable) (ps : List Pins) (s : Bench L) → s.tap ≡ tap_of from
      → compares chip (to_idle from ++ ps) s ≡ compares chip ps (idle s)
  found_idle from ps s e =
      (pins_split chip (to_idle from) ps s).1
      ∙ ap (λ l. l ++ compares chip ps (after_pins chip (to_idle from) s)) (idle_quiet chip from s)
      ∙ ap (compares chip ps) (idle_plays chip from s e)

  -- the same past, where nothing was compared
  more_of_nothing : (past : List Compare) (b : State) (t : Bench L)
      → Follows b t past → Follows b t (past ++ [])
  more_of_nothing past b t f = subst (Follows b t) (sym (append-nil past)) f

  -- run cycles change the instruments alone
  record RunKeeps (s t : Bench L) : Type 0 where
    tap : t.tap ≡ s.tap
    stages : t.stages ≡ s.stages
    holds : t.holds ≡ s.holds
    ir_stage : t.ir_stage ≡ s.ir_stage
    ir_hold : t.ir_hold ≡ s.ir_hold

  ran_keeps : (k : ℕ) (s : Bench L) → RunKeeps s (ran chip k s)
  ran_keeps zero s = record { tap = refl; stages = refl; holds = refl; ir_stage = refl; ir_hold = refl }
  ran_keeps (suc k) s =
      let r = ran_keeps k (record s { insts = all_have log net machines RunEvent s.holds s.insts }) in
      record { tap = r.tap; stages = r.stages; holds = r.holds; ir_stage = r.ir_stage; ir_hold = r.ir_hold }

  -- ---- an instruction scan

  module _ (a : State) (s : Bench L) (past : List Compare) (f : Follows a s past) where
    load_goes : (x : SeenScan) (last : Option ℕ) (b : State) → KeptAs a.ir last → FitsAfter last x
        → load_instruction net device a x ≡ Ok b → Goes a (SIR x) s past b
    load_goes x last b k fit e =
        let p = played a.ir x in
        let b0 : State = record a {
          linked = bits_eq p.tdi opcode;
          rest = InIdle;
          ir = after_scan a.ir x;
          scans = suc a.scans;
        } in
        let (long, e1) = needed (x.len == device.ir) _ _ b e in
        let (none, e2) = needed (not (list_any is_some p.expects)) _ _ b e1 in
        let is : b0 ≡ b = same_answer b0 b e2 in
        let wide : length p.tdi ≡ x.len = played_long a.ir last x k fit in
        let fits : length p.tdi ≡ length s.ir_stage =
        wide ∙ eqb-true x.len device.ir long ∙ sym f.shaped.ir in
        let ps = sir_pins (suc a.scans) p in
        let t = loaded chip (idle s) p.tdi in
        let there : after_pins chip (to_idle a.rest ++ ps) s ≡ t = via_idle a.rest ps s f.tap
        ∙ sir_loads chip a.scans a.ir x (idle s) refl (omega (arith, wide, fit.some)) fits in
        let quiet_all : compares chip (to_idle a.rest ++ ps) s
        ≡ [] = found_idle a.rest ps s f.tap ∙ sir_quiet chip (suc a.scans) p (idle s) (not-true _ none) in
        let g = f.along in
        let here : Follows b0 t past = record {
          tap = refl;
          shaped = record {
            stages = f.shaped.stages;
            holds = f.shaped.holds;
            ir = wide ∙ eqb-true x.len device.ir long;
          };
          linked = refl;
          holds = f.holds;
          stays = λ z. absurd (not_reset z);
          known = f.known;
          meaning = f.meaning;
          along =
              record {
                agrees = record { holds = g.agrees.holds; insts = g.agrees.insts };
                widths = g.widths;
                valid = g.valid;
                ends = g.ends;
                reads = g.reads;
              };
          reads = f.reads;
          compared = f.compared;
        } in
        subst (Goes a (SIR x) s past) is
        (record {
          ir = refl;
          dr = refl;
          pins = λ cs. sym (append_assoc (to_idle a.rest) ps _);
          follows =
              arrives b0 s t (to_idle a.rest ++ ps) past [] there quiet_all (more_of_nothing past b0 t here);
        })

    -- ---- a data scan without the link's instruction

    pass_goes : (x : SeenScan) (last : Option ℕ) (b : State) → KeptAs a.dr last → FitsAfter last x
        → a.linked ≡ false → pass net device a x ≡ Ok b → Goes a (SDR x) s past b
    pass_goes x last b k fit off e =
        let p = played a.dr x in
        let b0 : State = scanned net device a x a.holds a.readings a.left in
        let (none, e1) = needed (not (list_any is_some p.expects)) _ _ b e in
        let is : b0 ≡ b = same_answer b0 b e1 in
        let wide : length p.tdi ≡ x.len = played_long a.dr last x k fit in
        let ps = sdr_pins (suc a.scans) p in
        let (i, bypass, q) = sdr_passes chip (suc a.scans) p.tdi p.expects (idle s) refl
        (omega (arith, wide, fit.some)) (f.linked ∙ off) in
        let t = passing chip (idle s) RunTestIdle i bypass in
        let there : after_pins chip (to_idle a.rest ++ ps) s ≡ t = via_idle a.rest ps s f.tap ∙ q in
        let quiet_all : compares chip (to_idle a.rest ++ ps) s
        ≡ [] = found_idle a.rest ps s f.tap ∙ sdr_quiet chip (suc a.scans) p (idle s) (not-true _ none) in
        let g = f.along in
        let here : Follows b0 t past = record {
          tap = refl;
          shaped =
              record { stages = f.shaped.stages; holds = f.shaped.holds; ir = f.shaped.ir };
          linked = f.linked;
          holds = f.holds;
          stays = λ z. absurd (not_reset z);
          known = f.known;
          meaning = f.meaning;
          along =
              record {
                agrees = record { holds = g.agrees.holds; insts = g.agrees.insts };
                widths = g.widths;
                valid = g.valid;
                ends = g.ends;
                reads = g.reads;
              };
          reads = f.reads;
          compared = f.compared;
        } in
        subst (Goes a (SDR x) s past) is
        (record {
          ir = refl;
          dr = refl;
          pins = λ cs. sym (append_assoc (to_idle a.rest) ps _);
          follows =
              arrives b0 s t (to_idle a.rest ++ ps) past [] there quiet_all (more_of_nothing past b0 t here);
        })

    -- ---- STATE IDLE

    idle_goes : (b : State) → step net device a StateIdle ≡ Ok b → Goes a StateIdle s past b
    idle_goes b e =
        let b0 : State = record a { rest = InIdle } in
        let is : b0 ≡ b = same_answer b0 b e in
        let g = f.along in
        let here : Follows b0 (idle s) past = record {
          tap = refl;
          shaped =
              record { stages = f.shaped.stages; holds = f.shaped.holds; ir = f.shaped.ir };
          linked = f.linked;
          holds = f.holds;
          stays = λ z. absurd (not_reset z);
          known = f.known;
          meaning = f.meaning;
          along =
              record {
                agrees = record { holds = g.agrees.holds; insts = g.agrees.insts };
                widths = g.widths;
                valid = g.valid;
                ends = g.ends;
                reads = g.reads;
              };
          reads = f.reads;
          compared = f.compared;
        } in
        subst (Goes a StateIdle s past) is (record {
          ir = refl;
          dr = refl;
          pins = λ cs. refl;
          follows = arrives b0 s (idle s) (to_idle a.rest) past [] (idle_plays chip a.rest s f.tap)
              (idle_quiet chip a.rest s) (more_of_nothing past b0 (idle s) here);
        })

    -- ---- the rest, where the register bits of the audit are those of the bench

    abbrev A : State
    A = record a { holds = s.holds }

    -- a reset
    again_goes : (b : State) → a.rest ≡ InReset
        → was_reset net device A a.left ≡ b → Goes a StateReset s past b
    again_goes b r is =
        let b0 : State = was_reset net device A a.left in
        let t : Bench L = record s {
          tap = TestLogicReset;
          holds = reset_holds net s.holds;
          ir_hold = reset_instruction device;
        } in
        let there : after_pins chip (replicate 5 (no_shift true)) s
        ≡ t = reset_again chip s (f.tap ∙ ap tap_of r) in
        let g = f.along in
        let same : reset_holds net s.holds ≡ s.holds = f.stays r in
        let here : Follows b0 t past =
        record {
          tap = refl;
          shaped = record {
            stages = f.shaped.stages;
            holds =
                reset-shape net s.holds ∙ f.shaped.holds;
            ir = f.shaped.ir;
          };
          linked = reset_unlinked device v;
          holds = refl;
          stays = λ z. reset_twice net s.holds;
          known = f.known;
          meaning = f.meaning;
          along = record {
            agrees = record {
              holds = λ c z. ap (λ h. hold_at h c) same ∙ g.agrees.holds c z;
              insts = g.agrees.insts;
            };
            widths = g.widths;
            valid = g.valid;
            ends = g.ends;
            reads = g.reads;
          };
          reads = f.reads;
          compared = f.compared;
        } in
        subst (Goes a StateReset s past) is
        (record {
          ir = refl;
          dr = refl;
          pins = λ cs. refl;
          follows = arrives b0 s t (replicate 5
              (no_shift true)) past [] there (clocks_quiet chip 5 true s) (more_of_nothing past b0 t here);
        })

    work_reset_goes : (b : State) (left : List Work) → a.rest ≡ InIdle
        → after_reset (due s.holds a.left) ≡ Some left
        → was_reset net device A left ≡ b → Goes a StateReset s past b
    work_reset_goes b left r q is =
        let b0 : State = was_reset net device A left in
        let t = bench_reset chip s in
        let there : after_pins chip (replicate 5 (no_shift true)) s ≡ t =
        (resets_reset chip 0).0 s (f.tap ∙ ap tap_of r) in
        let (d1, g1) =
        due_along log net device machines u goal f.known s f.shaped.holds a.left f.meaning f.along in
        let g = subst (λ l. Beside f.known s l d1) (same_reset (due s.holds a.left) left q) g1 in
        let d2 = do_step log net machines d1 ResetStep in
        let later : SameData net (reset_holds net s.holds) (reset_holds net d1.holds) =
        reset_same net s.holds d1.holds (f.shaped.holds ∙ sym g.widths) g.agrees.holds in
        let insts : all_have log net machines ResetEvent (reset_holds net s.holds) s.insts
        ≡ all_have log net machines ResetEvent (reset_holds net d1.holds) d1.insts =
        ap (all_have log net machines ResetEvent (reset_holds net s.holds)) g.agrees.insts
        ∙ all_have_same log net machines ResetEvent (reset_holds net s.holds) (reset_holds net d1.holds)
        d1.insts (inputs_same net (reset_holds net s.holds) (reset_holds net d1.holds) later u) in
        let here : Follows b0 t past = record {
          tap = refl;
          shaped = record {
            stages = f.shaped.stages;
            holds = reset-shape net s.holds ∙ f.shaped.holds;
            ir = f.shaped.ir;
          };
          linked = reset_unlinked device v;
          holds = refl;
          stays = λ z. reset_twice net s.holds;
          known = f.known;
          meaning = d2;
          along = record {
            agrees = record { holds = later; insts = insts };
            widths = reset-shape net d1.holds ∙ g.widths;
            valid = All-tail (IsWork net) Reset left g.valid;
            ends = g.ends;
            reads = g.reads;
          };
          reads = f.reads;
          compared = f.compared;
        } in
        subst (Goes a StateReset s past) is
        (record {
          ir = refl;
          dr = refl;
          pins = λ cs. refl;
          follows = arrives b0 s t (replicate 5
              (no_shift true)) past [] there (clocks_quiet chip 5 true s) (more_of_nothing past b0 t here);
        })

    reset_goes : (r : Stable) (b : State) → a.rest ≡ r
        → reset net device r A ≡ Ok b → Goes a StateReset s past b
    reset_goes InReset b r e = again_goes b r (same_answer (was_reset net device A a.left) b e)
    reset_goes InIdle b r e =
        let (left, q, e1) = needed_some (after_reset (due s.holds a.left)) _ _ b e in
        work_reset_goes b left r q (same_answer (was_reset net device A left) b e1)

    -- a run
    run_goes : (k : ℕ) (b : State) → step net device A (RunTest k) ≡ Ok b → Goes a (RunTest k) s past b
    run_goes k b e =
        let (left, q, e1) = needed_some (after_cycles s.holds k a.left) _ _ b e in
        let b0 : State = record A { rest = InIdle; left = left } in
        let is : b0 ≡ b = same_answer b0 b e1 in
        let ps = replicate k (no_shift false) in
        let t = ran chip k (idle s) in
        let there : after_pins chip (to_idle a.rest ++ ps) s
        ≡ t = via_idle a.rest ps s f.tap ∙ run_waits chip k (idle s) refl in
        let quiet_all : compares chip (to_idle a.rest ++ ps) s
        ≡ [] = found_idle a.rest ps s f.tap ∙ clocks_quiet chip k false (idle s) in
        let g0 = f.along in
        let start : Beside f.known (idle s) a.left f.meaning =
        record {
          agrees = record { holds = g0.agrees.holds; insts = g0.agrees.insts };
          widths = g0.widths;
          valid = g0.valid;
          ends = g0.ends;
          reads = g0.reads;
        } in
        let (d1, g) = cycles_along log net device machines u goal f.known k
        (idle s) a.left left f.meaning f.shaped.holds q start in
        let kept = ran_keeps k (idle s) in
        let here : Follows b0 t past =
        record {
          tap = kept.tap;
          shaped = record {
            stages = ap shape kept.stages ∙ f.shaped.stages;
            holds = ap shape kept.holds ∙ f.shaped.holds;
            ir = ap length kept.ir_stage ∙ f.shaped.ir;
          };
          linked = ap (λ i. bits_eq i opcode) kept.ir_hold ∙ f.linked;
          holds = kept.holds;
          stays = λ z. absurd (not_reset z);
          known = f.known;
          meaning = d1;
          along = g;
          reads = f.reads;
          compared = f.compared;
        } in
        subst (Goes a (RunTest k) s past) is
        (record {
          ir = refl;
          dr = refl;
          pins = λ cs. sym (append_assoc (to_idle a.rest) ps _);
          follows =
              arrives b0 s t (to_idle a.rest ++ ps) past [] there quiet_all (more_of_nothing past b0 t here);
        })

    -- ---- a data scan of the network

    module _ (x : SeenScan) (last : Option ℕ) (k : KeptAs a.dr last) (fit : FitsAfter last x)
        (on : a.linked ≡ true) (long : (x.len == length (chain (route_of net s.holds) s.holds)) ≡ true) where
      abbrev path : List ℕ
      path = route_of net s.holds

      abbrev tdi : List Bool
      tdi = (played a.dr x).tdi

      abbrev es : List (Option Bool)
      es = (played a.dr x).expects

      abbrev now : Holds
      now = put_chain path tdi s.holds

      abbrev all_pins : List Pins
      all_pins = to_idle a.rest ++ sdr_pins (suc a.scans) (played a.dr x)

      wide : length tdi ≡ x.len
      wide = played_long a.dr last x k fit

      at_least_one_bit : 0 < length tdi
      at_least_one_bit = omega (arith, wide, fit.some)

      fits_holds : length tdi ≡ length (chain path s.holds)
      fits_holds = wide ∙ eqb-true x.len (length (chain path s.holds)) long

      fits_stages : length tdi ≡ length (chain path s.stages)
      fits_stages = fits_holds ∙ length-chain_same path s.holds s.stages
          (f.shaped.holds ∙ sym f.shaped.stages)

      route_from : (o : Option (List ℕ)) → active net s.holds ≡ o
          → IsRoute (length net.regs.items) (unwrap_or o [])
      route_from None e = tt
      route_from (Some p) e = n.routes s.holds p e

      route : IsRoute (length net.regs.items) path
      route = route_from (active net s.holds) refl

      abbrev pick : Bool → Selected
      pick t = elim t [
        | true ↦ Network
        | false ↦ elim (selects_identity device s.ir_hold) [ true ↦ Identity | false ↦ Bypass ]
      ]

      network : select_of chip (idle s) ≡ Network
      network = ap pick (f.linked ∙ on)

      idle_shaped : IsShaped chip (idle s)
      idle_shaped = record { stages = f.shaped.stages; holds = f.shaped.holds; ir = f.shaped.ir }

      is_ready : Ready chip (idle s)
      is_ready = shaped_is_ready chip (idle s) n.wide idle_shaped refl network route

      fits : length tdi ≡ length (captured chip (idle s))
      fits = fits_stages ∙ sym is_ready.captured_fits

      abbrev t : Bench L
      t = exchanged chip (idle s) tdi

      there : after_pins chip all_pins s ≡ t
      there = via_idle a.rest (sdr_pins (suc a.scans) (played a.dr x)) s f.tap
          ∙ (sdr_shifts chip a.scans a.dr x (idle s) is_ready at_least_one_bit fits).0

      finds : compares chip all_pins s ≡ scan_compares (suc a.scans) 0 es (captured chip (idle s))
      finds = found_idle a.rest (sdr_pins (suc a.scans) (played a.dr x)) s f.tap
          ∙ (sdr_shifts chip a.scans a.dr x (idle s) is_ready at_least_one_bit fits).1

      same_shape : shape now ≡ shape s.holds
      same_shape = put_chain-shape path tdi s.holds fits_holds

      off : (r : ℕ) → NotIn r path → bits_at now r ≡ bits_at s.holds r
      off = put_chain_off path tdi s.holds

      t_shaped : IsShaped chip t
      t_shaped = record {
        stages = put_chain-shape path tdi s.stages fits_stages ∙ f.shaped.stages;
        holds = same_shape ∙ f.shaped.holds;
        ir = f.shaped.ir;
      }

      -- nothing that is seen changes
      quiet_goes : (b : State) → (is_empty (changed net path s.holds now) && not (list_any is_some es)) ≡ true
          → scanned net device A x now a.readings a.left ≡ b → Goes a (SDR x) s past b
      quiet_goes b q is =
          let b0 : State = scanned net device A x now a.readings a.left in
          let parts = and_parts (is_empty (changed net path s.holds now)) (not (list_any is_some es)) q in
          let same : SameData net now s.holds = none_changed net path s.holds now same_shape off parts.0 in
          let stay : changes log net machines s.holds now s.insts ≡ s.insts =
          changes_none log net machines s.holds now s.insts (inputs_same net now s.holds same u) in
          let quiet_all : compares chip all_pins s
          ≡ [] = found_idle a.rest (sdr_pins (suc a.scans) (played a.dr x)) s f.tap
          ∙ sdr_quiet chip (suc a.scans) (played a.dr x) (idle s) (not-true _ parts.1) in
          let g = f.along in
          let here : Follows b0 t past = record {
            tap = refl;
            shaped = t_shaped;
            linked = f.linked;
            holds = refl;
            stays = λ z. absurd (not_reset z);
            known = f.known;
            meaning = f.meaning;
            along = record {
              agrees = record {
                holds = λ c z. same c z ∙ g.agrees.holds c z;
                insts =
                    stay ∙ g.agrees.insts;
              };
              widths = g.widths;
              valid = g.valid;
              ends = g.ends;
              reads = g.reads;
            };
            reads = f.reads;
            compared = f.compared;
          } in
          subst (Goes a (SDR x) s past) is (record {
            ir = refl;
            dr = refl;
            pins = λ cs. sym (append_assoc (to_idle a.rest) (sdr_pins (suc a.scans) (played a.dr x)) _);
            follows = arrives b0 s t all_pins past [] there quiet_all (more_of_nothing past b0 t here);
          })

      -- the group that is due is done
      group_goes : (b : State) (next : SeenGroup × List Work) → group_first (due s.holds a.left) ≡ Some next
          → does_writes next.0 (changed net path s.holds now) now ≡ true
          → does_reads next.0 path s.holds es ≡ true
          → scanned net device A x now (note A next.0) next.1 ≡ b → Goes a (SDR x) s past b
      group_goes b next q writes reads is =
          let b0 : State = scanned net device A x now (note A next.0) next.1 in
          let g = next.0 in
          let (d1, l0) =
          due_along log net device machines u goal f.known s f.shaped.holds a.left f.meaning f.along in
          let l = subst (λ w. Beside f.known s w d1) (same_group (due s.holds a.left) next q) l0 in
          let valid = All-head (IsWork net) (Group g) next.1 l.valid in
          let d2 = do_group log net machines d1 g in
          let after = write_all s.holds g.writes in
          let then = write_all d1.holds g.writes in
          let held : All (λ w. IsHeld (shape s.holds) w.bit) g.writes = All-weaker
          (λ (w : WriteBit). IsDataBit net w.bit) (λ (w : WriteBit). IsHeld (shape s.holds) w.bit)
          (λ w i. subst (λ ns. IsHeld ns w.bit) (sym f.shaped.holds) i.there) g.writes valid.written in
          let mine : SameData net now after =
          writes_done net path s.holds now same_shape off g valid f.shaped.holds writes in
          let both_write : SameData net after then =
          write_same net g.writes s.holds d1.holds (f.shaped.holds ∙ sym l.widths) held l.agrees.holds in
          let same : SameData net now then = λ c z. mine c z ∙ both_write c z in
          let seen : changes log net machines s.holds now s.insts
          ≡ changes log net machines d1.holds then d1.insts = ap (changes log net machines s.holds now)
          l.agrees.insts ∙ changes_same log net machines s.holds now d1.holds then d1.insts
          (inputs_same net s.holds d1.holds l.agrees.holds u) (inputs_same net now then same u) in
          let found_here = map (found log net machines d1) g.reads in
          let known = f.known ++ found_here in
          let beside : Beside known t next.1 d2 = record {
            agrees = record { holds = same; insts = seen };
            widths = write_all-shape g.writes d1.holds ∙ l.widths;
            valid = All-tail (IsWork net)
                (Group g) next.1 l.valid;
            ends = l.ends;
            reads = ap (λ rs. rs ++ found_here) l.reads;
          } in
          let named : map (λ (r : ReadBit × Bool). r.0) known
          ≡ reads_of (note A g) = map-append (λ (r : ReadBit × Bool). r.0) f.known found_here
          ∙ ap (λ rs. rs ++ map (λ (r : ReadBit × Bool). r.0) found_here) f.reads
          ∙ ap (λ rs. reads_of a.readings ++ rs)
          (first_again (found log net machines d1) (λ r. refl) g.reads) ∙ sym (note_reads net A g) in
          let many : length f.known ≡ length (reads_of a.readings) =
          sym (length-map f.known (λ (r : ReadBit × Bool). r.0)) ∙ ap length f.reads in
          let stand : read_compares net (note A g) known ≡ read_compares net a.readings f.known
          ++ map (λ r. read_compare (suc a.scans) path s.holds (found log net machines d1 r)) g.reads =
          note_compares net A g f.known found_here many (length-map g.reads (found log net machines d1))
          ∙ ap (λ l. read_compares net a.readings f.known ++ l)
          (map_twice (read_compare (suc a.scans) path s.holds) (found log net machines d1) g.reads) in
          let expects =
          reads_expected net s.holds path g es valid f.shaped.holds reads (length net.regs.items) route in
          let compared : (c : Compare)
          → Contains (past ++ scan_compares (suc a.scans) 0 es (captured chip (idle s))) c ↔ Contains
          (read_compares net (note A g) known) c = λ c. subst (λ l. Contains
          (past ++ scan_compares (suc a.scans) 0 es (captured chip (idle s))) c ↔ Contains l c)
          (sym stand) (both past (scan_compares (suc a.scans) 0 es (captured chip (idle s)))
          (read_compares net a.readings f.known) (map (λ r. read_compare (suc a.scans) path s.holds
          (found log net machines d1 r)) g.reads) c (f.compared c)
          (group_compared log net device machines n.wide (suc a.scans) s d1 g es l.agrees f.shaped.holds
          valid expects (reads_stand net s.holds path g es valid f.shaped.holds reads) c)) in
          let here : Follows b0 t (past ++ scan_compares (suc a.scans) 0 es (captured chip (idle s))) =
          record {
            tap = refl;
            shaped = t_shaped;
            linked = f.linked;
            holds = refl;
            stays = λ z. absurd (not_reset z);
            known = known;
            meaning = d2;
            along = beside;
            reads = named;
            compared = compared;
          } in
          subst (Goes a (SDR x) s past) is (record {
            ir = refl;
            dr = refl;
            pins = λ cs. sym (append_assoc
                (to_idle a.rest) (sdr_pins (suc a.scans) (played a.dr x)) _);
            follows = arrives b0 s t all_pins
                past (scan_compares (suc a.scans) 0 es (captured chip (idle s))) there finds here;
          })

      outcome : (b : State) (no_shift : Bool)
          → (is_empty (changed net path s.holds now) && not (list_any is_some es)) ≡ no_shift
          → elim no_shift [
            | true ↦ ok (scanned net device A x now a.readings a.left)
            | false ↦ do_due net device A x now
          ] ≡ ok b → Goes a (SDR x) s past b
      outcome b true q e = quiet_goes b q (same_answer (scanned net device A x now a.readings a.left) b e)
      outcome b false q e =
          let (next, w, e1) = needed_some (group_first (due s.holds a.left)) _ _ b e in
          let (writes, e2) = needed (does_writes next.0 (changed net path s.holds now) now) _ _ b e1 in
          let (reads, e3) = needed (does_reads next.0 path s.holds es) _ _ b e2 in
          group_goes b next w writes reads
          (same_answer (scanned net device A x now (note A next.0) next.1) b e3)

    scan_goes : (x : SeenScan) (last : Option ℕ) (b : State) → KeptAs a.dr last → FitsAfter last x
        → a.linked ≡ true → scan net device A x ≡ Ok b → Goes a (SDR x) s past b
    scan_goes x last b k fit on e =
        let now = put_chain (route_of net s.holds) (played a.dr x).tdi s.holds in
        let (long, e1) = needed (x.len == length (chain (route_of net s.holds) s.holds)) _ _ b e in
        let (rows, e2) = needed (list_all (has_row now) net.muxes.items) _ _ b e1 in
        outcome x last k fit on long b (is_empty (changed net (route_of net s.holds) s.holds now) && not
        (list_any is_some (played a.dr x).expects)) refl e2

    -- the audit's own register bits in place of the bench's
    as_audited : (P : State → Type 0) → P A → P a
    as_audited P e = subst (λ h. P (record a { holds = h })) f.holds e

    as_bench : (P : State → Type 0) → P a → P A
    as_bench P e = subst (λ h. P (record a { holds = h })) (sym f.holds) e

    data_goes : (x : SeenScan) (last : Option ℕ) (b : State) (on : Bool) → KeptAs a.dr last → FitsAfter last x
        → a.linked ≡ on → elim on [ true ↦ scan net device A x | false ↦ pass net device A x ] ≡ ok b
        → Goes a (SDR x) s past b
    data_goes x last b true k fit on e = scan_goes x last b k fit on e
    data_goes x last b false k fit on e =
        pass_goes x last b k fit on (as_audited (λ z. pass net device z x ≡ ok b) e)

    -- any command
    goes : (c : SeenCommand) (ir dr : Option ℕ) (b : State) → KeptAs a.ir ir → KeptAs a.dr dr
        → FitsNext ir dr c → step net device a c ≡ ok b → Goes a c s past b
    goes (SIR x) ir dr b i d fit e = load_goes x ir b i fit e
    goes (SDR x) ir dr b i d fit e =
        data_goes x dr b a.linked d fit refl (as_bench (λ z. step net device z (SDR x) ≡ ok b) e)
    goes StateReset ir dr b i d fit e =
        reset_goes a.rest b refl (as_bench (λ z. step net device z StateReset ≡ ok b) e)
    goes StateIdle ir dr b i d fit e = idle_goes b e
    goes (RunTest k) ir dr b i d fit e = run_goes k b (as_bench (λ z. step net device z (RunTest k) ≡ ok b) e)

  -- ---- all commands

  ir_after : (a b : State) (c : SeenCommand) (ir dr : Option ℕ) → KeptAs a.ir ir → FitsNext ir dr c
      → b.ir ≡ next_ir a c → KeptAs b.ir (last_ir ir c)
  ir_after a b (SIR x) ir dr k f e = subst (λ z. KeptAs z (Some x.len)) (sym e) (kept_as a.ir ir x k f)
  ir_after a b (SDR x) ir dr k f e = subst (λ z. KeptAs z ir) (sym e) k
  ir_after a b StateReset ir dr k f e = subst (λ z. KeptAs z ir) (sym e) k
  ir_after a b StateIdle ir dr k f e = subst (λ z. KeptAs z ir) (sym e) k
  ir_after a b (RunTest m) ir dr k f e = subst (λ z. KeptAs z ir) (sym e) k

  dr_after : (a b : State) (c : SeenCommand) (ir dr : Option ℕ) → KeptAs a.dr dr → FitsNext ir dr c
      → b.dr ≡ next_dr a c → KeptAs b.dr (last_dr dr c)
  dr_after a b (SIR x) ir dr k f e = subst (λ z. KeptAs z dr) (sym e) k
  dr_after a b (SDR x) ir dr k f e = subst (λ z. KeptAs z (Some x.len)) (sym e) (kept_as a.dr dr x k f)
  dr_after a b StateReset ir dr k f e = subst (λ z. KeptAs z dr) (sym e) k
  dr_after a b StateIdle ir dr k f e = subst (λ z. KeptAs z dr) (sym e) k
  dr_after a b (RunTest m) ir dr k f e = subst (λ z. KeptAs z dr) (sym e) k

  -- what the bench has and has compared, where the audit says yes
  pub record Ends (s : Bench L) (compared : List Compare) (readings : List Reading) : Type 0 where
    pub agrees : Agrees net s goal
    pub reads : map (λ r. r.0) goal.reads ≡ reads_of readings
    pub compares : (c : Compare) → Contains compared c ↔ Contains (read_compares net readings goal.reads) c

  yes_empty : (t : Bool) (a : State) (readings : List Reading)
      → elim t [ true ↦ Yes a.readings | false ↦ No a.scans End ] ≡ Yes readings
      → (t ≡ true) × (a.readings ≡ readings)
  yes_empty true a readings e = (refl, ap (λ z. elim z [ Yes rs ↦ rs | No k c ↦ a.readings ]) e)
  yes_empty false a readings e = absurd (no_yes a.scans End readings e)

  empty_is : (ws : List Work) → is_empty ws ≡ true → ws ≡ []
  empty_is [] e = refl
  empty_is (w ∷ ws) e = absurd (true≢false (sym e))

  at_the_end : (a : State) (s : Bench L) (past : List Compare) (readings : List Reading) → Follows a s past
      → at_end net device a ≡ Yes readings → Ends s past readings
  at_the_end a s past readings f e =
      let (none, same) = yes_empty (is_empty (due a.holds a.left)) a readings e in
      let (d1, l0) =
      due_along log net device machines u goal f.known s f.shaped.holds a.left f.meaning f.along in
      let gone : due s.holds a.left ≡ [] =
      ap (λ h. due h a.left) f.holds ∙ empty_is (due a.holds a.left) none in
      let l = subst (λ w. Beside f.known s w d1) gone l0 in
      let known : goal.reads ≡ f.known = ap (λ (d : Direct L). d.reads) (sym l.ends) ∙ l.reads in
      record {
        agrees = subst (Agrees net s) l.ends l.agrees;
        reads = ap (map (λ (r : ReadBit × Bool). r.0)) known ∙ f.reads ∙ ap reads_of same;
        compares =
            λ c. subst (λ rs. Contains past c ↔ Contains (read_compares net rs goal.reads) c) same (subst
            (λ k. Contains past c ↔ Contains (read_compares net a.readings k) c) (sym known) (f.compared c));
      }

  answer : (r : Result State Cause) (a : State) (c : SeenCommand)
      (cs : List SeenCommand) (readings : List Reading)
      → elim r [ Ok b ↦ audit_from net device b cs | Err cause ↦ No (a.scans + scans_in (c ∷ [])) cause ]
      ≡ Yes readings → (b : State) × (r ≡ ok b) × (audit_from net device b cs ≡ Yes readings)
  answer (Ok b) a c cs readings e = (b, refl, e)
  answer (Err cause) a c cs readings e = absurd (no_yes (a.scans + scans_in (c ∷ [])) cause readings e)

  pub all_follow : (cs : List SeenCommand) (a : State) (s : Bench L) (past : List Compare) (ir dr : Option ℕ)
      (readings : List Reading) → KeptAs a.ir ir → KeptAs a.dr dr → AreFitAfter ir dr cs → Follows a s past
      → audit_from net device a cs ≡ Yes readings
      → Ends (after_pins chip (pins_with a.ir a.dr a.rest a.scans cs) s)
      (past ++ compares chip (pins_with a.ir a.dr a.rest a.scans cs) s) readings
  all_follow [] a s past ir dr readings i d fit f e =
      subst (λ l. Ends s l readings) (sym (append-nil past)) (at_the_end a s past readings f e)
  all_follow (c ∷ cs) a s past ir dr readings i d fit f e =
      let (b, q, e1) = answer (step net device a c) a c cs readings e in
      let (here, later) = fits_next c ir dr cs fit in
      let g = goes a s past f c ir dr b i d here q in
      let ps = command_pins a c in
      let s1 = after_pins chip ps s in
      let past1 = past ++ compares chip ps s in
      let rest = pins_with b.ir b.dr b.rest b.scans cs in
      let ends = all_follow cs b s1 past1 (last_ir ir c) (last_dr dr c) readings
      (ir_after a b c ir dr i here g.ir) (dr_after a b c ir dr d here g.dr) later g.follows e1 in
      let goes_to : after_pins chip (pins_with a.ir a.dr a.rest a.scans (c ∷ cs)) s ≡ after_pins chip rest
      s1 = ap (λ p. after_pins chip p s) (g.pins cs) ∙ (pins_split chip ps rest s).0 in
      let finds : past ++ compares chip (pins_with a.ir a.dr a.rest a.scans (c ∷ cs)) s
      ≡ past1 ++ compares chip rest s1 =
      ap (λ p. past ++ compares chip p s) (g.pins cs) ∙ ap (λ l. past ++ l) (pins_split chip ps rest s).1
      ∙ sym (append_assoc past (compares chip ps s) (compares chip rest s1)) in
      subst (λ z. Ends z (past ++ compares chip (pins_with a.ir a.dr a.rest a.scans (c ∷ cs)) s) readings)
      (sym goes_to) (subst (λ l. Ends (after_pins chip rest s1) l readings) (sym finds) ends)
