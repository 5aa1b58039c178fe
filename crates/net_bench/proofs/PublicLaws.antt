-- The laws of any bench as values: what other crates' proofs cite of plays. Each has the type that
-- `specs/Laws` gives it.
use Rattle.std.proofs.Common.{◌≡◌, ℕ, zero, suc, ◌+◌, ◌<◌, Bool, true, false, List, [], ◌∷◌, ◌++◌, length}
use Rattle.std.proofs.Common.{Option, Some, None, refl, sym, ap, ◌∙◌, subst}
use Rattle.std.specs.Prelude.{replicate, map}
use Rattle.std.proofs.lemmas.List.{append-nil, length-replicate}
use Rattle.ij_bits.specs.BitLists.{bits_of}
use Rattle.ij_bits.proofs.Lists.{none_below}
use Rattle.ij_bits.proofs.WordBits.{length-bits_of}
use Rattle.svf_writer.specs.SeenCommands.{SDR, SIR, SeenCommand, SeenScan, Reset as StateReset}
use Rattle.svf_writer.specs.SeenCommands.{Idle as StateIdle, Run as RunTest}
use Rattle.svf_writer.specs.Written.{load_link}
use Rattle.tap_machine.specs.declared.Pins.{Pins}
use Rattle.tap_machine.specs.declared.Stable.{Stable}
use Rattle.tap_machine.specs.declared.Stable.TheVariants.{Reset as InReset, Idle as InIdle}
use Rattle.tap_machine.specs.declared.TapState.TheVariants.{RunTestIdle, TestLogicReset}
use Rattle.tap_machine.specs.Play.{AreWhole, LastScan, Played, after_scan, expected, mask_now, no_scan}
use Rattle.tap_machine.specs.Play.{no_shift, pins, pins_with, played, rests_after, sdr_pins, shifts, sir_pins}
use Rattle.tap_machine.specs.Play.{to_idle}
use Rattle.net_bench.specs.Bench.{Chip, State, is_reset, power_up}
use Rattle.net_bench.specs.Laws.{AnyInstructionLoads, AnyLongScanShifts, AnyPlaySplits, AnyResetResets}
use Rattle.net_bench.specs.Laws.{AnyRunWaits, AnyScanShifts, AreGiven, ExpectNothing, IdlesRest, IsShaped}
use Rattle.net_bench.specs.Laws.{IsShapedFirst, NothingIsCompared, PinsSplit, PlaysRest, PrefacesLink}
use Rattle.net_bench.specs.Laws.{ShapedIsReady, StaysShaped, loaded, ran, tap_of, was_reset}
use Rattle.net_bench.specs.Playing.{after_pins, compares, play_from, resting}
use Rattle.net_bench.proofs.Commanding.{bits_given}
use Rattle.net_bench.proofs.Commands.{leaves_reset, reset_at_power_up, reset_resets, run_runs, scan_loads}
use Rattle.net_bench.proofs.LongScans.{long_compares, long_plays}
use Rattle.net_bench.proofs.Scans.{after_pins-append, compares-append, scan_exchanges_bits, scan_finds_bits}
use Rattle.net_bench.proofs.Shaped.{pins_shaped, power_up_shaped, ready_shaped, IsShaped as HasWidths}
use Rattle.net_bench.proofs.Splitting.{compares_from-append, play-append, shifts_compare_nothing}
use Rattle.net_bench.proofs.Stepping.{play_rests, AreGiven as GiveBits, tap_of as rests_in}

-- ---- commands and states, whatever the events

bits_given_by : (commands : List SeenCommand) → AreGiven commands → GiveBits commands
bits_given_by [] g = tt
bits_given_by (SIR x ∷ cs) g = (g.0, bits_given_by cs g.1)
bits_given_by (SDR x ∷ cs) g = (g.0, bits_given_by cs g.1)
bits_given_by (StateReset ∷ cs) g = bits_given_by cs g
bits_given_by (StateIdle ∷ cs) g = bits_given_by cs g
bits_given_by (RunTest n ∷ cs) g = bits_given_by cs g

same_tap : (from : Stable) → tap_of from ≡ rests_in from
same_tap InReset = refl
same_tap InIdle = refl

module _ {L : Type 0} where
  -- where a state rests
  pub rests_as : (from : Stable) (s : State L) → s.tap ≡ tap_of from → resting s ≡ from
  rests_as InReset s e = ap (λ t. elim (is_reset t) [ true ↦ InReset | false ↦ InIdle ]) e
  rests_as InIdle s e = ap (λ t. elim (is_reset t) [ true ↦ InReset | false ↦ InIdle ]) e

  -- ---- one command

  pub scans_shift : AnyScanShifts L
  scans_shift chip scans scan bits s ready given some fits =
      let es = (played no_scan scan).expects in
      let ps : pins (resting s) scans (SDR scan ∷ [])
      ≡ sdr_pins (suc scans) (record { tdi = bits; expects = es }) =
      ap (λ r. pins r scans (SDR scan ∷ [])) (rests_as InIdle s ready.idle)
      ∙ append-nil (sdr_pins (suc scans) (played no_scan scan))
      ∙ ap (sdr_pins (suc scans)) (bits_given scan bits given) in (
        ap (λ q. after_pins chip q s) ps ∙ scan_exchanges_bits chip (suc scans) bits es s ready some fits,
        ap (λ q. compares chip q s) ps ∙ scan_finds_bits chip (suc scans) bits es s ready some fits,
      )

  pub scans_of_any_length : AnyLongScanShifts L
  scans_of_any_length chip scans scan bits s ready given some = (
    long_plays chip scans scan bits s ready given some,
    long_compares chip scans scan bits s ready given some,
  )

  load_bits : (chip : Chip L) (scan : ℕ) (bits : List Bool) (es : List (Option Bool)) (s : State L)
      → s.tap ≡ RunTestIdle → 0 < length bits → length bits ≡ length s.ir_stage
      → after_pins chip (sir_pins scan (record { tdi = bits; expects = es })) s ≡ loaded chip s bits
  load_bits chip scan [] es s idle some fits = absurd (none_below some)
  load_bits chip scan (t ∷ ts) es s idle some fits = scan_loads chip scan t ts es s idle fits

  pub instructions_load : AnyInstructionLoads L
  instructions_load chip scans scan bits s idle given some fits =
      let es = (played no_scan scan).expects in
      ap (λ r. after_pins chip (pins r scans (SIR scan ∷ [])) s) (rests_as InIdle s idle)
      ∙ ap (λ q. after_pins chip q s) (append-nil (sir_pins (suc scans) (played no_scan scan))
      ∙ ap (sir_pins (suc scans)) (bits_given scan bits given))
      ∙ load_bits chip (suc scans) bits es s idle some fits

  pub runs_wait : AnyRunWaits L
  runs_wait chip scans n s idle =
      ap (λ r. after_pins chip (pins r scans (RunTest n ∷ [])) s) (rests_as InIdle s idle)
      ∙ ap (λ q. after_pins chip q s) (append-nil (replicate n (no_shift false)))
      ∙ run_runs chip n s idle

  pub resets_reset : AnyResetResets L
  resets_reset chip scans = (λ s idle. reset_resets chip s idle, reset_at_power_up chip)

  pub idles_rest : IdlesRest L
  idles_rest chip scans InReset s e =
      ap (λ r. after_pins chip (pins r scans (StateIdle ∷ [])) s)
      (rests_as InReset s e) ∙ leaves_reset chip s e
  idles_rest chip scans InIdle s e =
      ap (λ r. after_pins chip (pins r scans (StateIdle ∷ [])) s) (rests_as InIdle s e)
      ∙ ap (λ t. record s { tap = t }) e

  -- ---- several

  pub pins_split : PinsSplit L
  pins_split chip first rest s = (after_pins-append chip first rest s, compares-append chip first rest s)

  pub plays_split : AnyPlaySplits L
  plays_split chip scans first rest s whole rests = (
    play-append chip first rest scans s whole rests,
    compares_from-append chip first rest scans s whole rests,
  )

  -- the link's instruction, after a reset
  linked : (chip : Chip L) (scans : ℕ) (s after : State L) → 0 < chip.device.ir → after.tap ≡ TestLogicReset
      → length after.ir_stage ≡ chip.device.ir → play_from chip scans (StateReset ∷ []) s ≡ after
      → play_from chip scans (StateReset ∷ StateIdle ∷ load_link chip.device ∷ []) s
      ≡ loaded chip after (bits_of chip.device.ir chip.device.opcode)
  linked chip scans s after some tap long reset =
      let opcode = bits_of chip.device.ir chip.device.opcode in
      let link : SeenScan =
      record { len = chip.device.ir; tdi = Some opcode; tdo = None; mask = None; smask = None } in
      let load = SIR link ∷ [] in
      let idle : State L = record after { tap = RunTestIdle } in
      let whole : AreWhole load = (((opcode, refl), tt), tt) in
      let wide : length opcode ≡ chip.device.ir = length-bits_of chip.device.ir chip.device.opcode in
      let idles = idles_rest chip (scans + 0) InReset after tap in
      let in_reset : resting (play_from chip scans (StateReset ∷ []) s)
      ≡ InReset = ap resting reset ∙ rests_as InReset after tap in
      let in_idle : resting (play_from chip (scans + 0) (StateIdle ∷ []) after) ≡ InIdle = ap resting idles in
      (plays_split chip scans (StateReset ∷ []) (StateIdle ∷ load) s (tt, whole) in_reset).0
      ∙ ap (play_from chip (scans + 0) (StateIdle ∷ load)) reset
      ∙ (plays_split chip (scans + 0) (StateIdle ∷ []) load after whole in_idle).0
      ∙ ap (play_from chip ((scans + 0) + 0) load) idles
      ∙ instructions_load chip ((scans + 0) + 0) link opcode idle refl refl
      (subst (λ k. 0 < k) (sym wide) some) (wide ∙ sym long)

  pub prefaces_link : PrefacesLink L
  prefaces_link chip scans some = (
    λ s idle long. linked chip scans s (was_reset chip s) some refl long ((resets_reset chip scans).0 s idle),
    linked chip scans (power_up chip) (power_up chip) some refl
        (length-replicate chip.device.ir false) (resets_reset chip scans).1,
  )

  pub plays_rest : PlaysRest L
  plays_rest chip scans commands from s e g =
      play_rests chip commands from scans s (e ∙ same_tap from) (bits_given_by commands g)

  -- ---- compares

  module _ (chip : Chip L) where
    none_then : (ps qs : List Pins) (s : State L) → compares chip ps s ≡ []
        → compares chip qs (after_pins chip ps s) ≡ [] → compares chip (ps ++ qs) s ≡ []
    none_then ps qs s e f =
        compares-append chip ps qs s ∙ ap (λ l. l ++ compares chip qs (after_pins chip ps s)) e ∙ f

    clocks_none : (bs : List Bool) (s : State L) → compares chip (map no_shift bs) s ≡ []
    clocks_none [] s = refl
    clocks_none (b ∷ bs) s = clocks_none bs _

    run_none : (n : ℕ) (b : Bool) (s : State L) → compares chip (replicate n (no_shift b)) s ≡ []
    run_none zero b s = refl
    run_none (suc n) b s = run_none n b _

    idle_none : (from : Stable) (s : State L) → compares chip (to_idle from) s ≡ []
    idle_none InReset s = refl
    idle_none InIdle s = refl

    -- a scan between clocks that shift nothing
    scan_none : (scan : ℕ) (before : List Bool) (kept : LastScan) (x : SeenScan) (s : State L) → x.tdo ≡ None
        → compares chip (map no_shift before ++ (shifts scan 0 (played kept x).tdi (played kept x).expects
        ++ map no_shift (true ∷ false ∷ []))) s ≡ []
    scan_none scan before kept x s e =
        let ts = (played kept x).tdi in
        let s1 = after_pins chip (map no_shift before) s in
        let shifted : compares chip (shifts scan 0 ts (played kept x).expects) s1
        ≡ [] = ap (λ o. compares chip (shifts scan 0 ts (expected x.len o (mask_now kept x))) s1) e
        ∙ shifts_compare_nothing chip ts x.len scan 0 s1 in
        none_then (map no_shift before) _ s (clocks_none before s) (none_then
        (shifts scan 0 ts (played kept x).expects) (map no_shift (true ∷ false ∷ [])) s1 shifted
        (clocks_none (true ∷ false ∷ []) (after_pins chip (shifts scan 0 ts (played kept x).expects) s1)))

    all_none : (ir dr : LastScan) (from : Stable) (scans : ℕ) (commands : List SeenCommand) (s : State L)
        → ExpectNothing commands → compares chip (pins_with ir dr from scans commands) s ≡ []
    all_none ir dr from scans [] s n = refl
    all_none ir dr from scans (SIR x ∷ cs) s n =
        let s1 = after_pins chip (to_idle from) s in
        none_then (to_idle from) _ s (idle_none from s) (none_then (sir_pins (suc scans) (played ir x)) _ s1
        (scan_none (suc scans) (true ∷ true ∷ false ∷ false ∷ []) ir x s1 n.0)
        (all_none (after_scan ir x) dr InIdle (suc scans) cs _ n.1))
    all_none ir dr from scans (SDR x ∷ cs) s n =
        let s1 = after_pins chip (to_idle from) s in
        none_then (to_idle from) _ s (idle_none from s) (none_then (sdr_pins (suc scans) (played dr x)) _ s1
        (scan_none (suc scans) (true ∷ false ∷ false ∷ []) dr x s1 n.0)
        (all_none ir (after_scan dr x) InIdle (suc scans) cs _ n.1))
    all_none ir dr from scans (StateReset ∷ cs) s n =
        none_then (replicate 5 (no_shift true)) (pins_with ir dr InReset scans cs) s (run_none 5 true s)
        (all_none ir dr InReset scans cs (after_pins chip (replicate 5 (no_shift true)) s) n)
    all_none ir dr from scans (StateIdle ∷ cs) s n =
        none_then (to_idle from) _ s (idle_none from s) (all_none ir dr InIdle scans cs _ n)
    all_none ir dr from scans (RunTest k ∷ cs) s n =
        let s1 = after_pins chip (to_idle from) s in
        none_then (to_idle from) _ s (idle_none from s) (none_then (replicate k (no_shift false)) _ s1
        (run_none k false s1) (all_none ir dr InIdle scans cs _ n))

  pub nothing_is_compared : NothingIsCompared L
  nothing_is_compared chip scans commands s n = all_none chip no_scan no_scan (resting s) scans commands s n

  -- ---- the bits of each register

  pub is_shaped_first : IsShapedFirst L
  is_shaped_first chip =
      let h = power_up_shaped chip in
      record { stages = h.stages; holds = h.holds; ir = h.ir }

  widths_of : (chip : Chip L) (s : State L) → IsShaped chip s → HasWidths chip s
  widths_of chip s h = record { stages = h.stages; holds = h.holds; ir = h.ir }

  pub stays_shaped : StaysShaped L
  stays_shaped chip pins s all h =
      let k = pins_shaped chip all pins s (widths_of chip s h) in
      record { stages = k.stages; holds = k.holds; ir = k.ir }

  pub shaped_is_ready : ShapedIsReady L
  shaped_is_ready chip s all h idle network route =
      ready_shaped chip all s (widths_of chip s h) idle network route
