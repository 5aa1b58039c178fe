-- Each scan of a play begins in the state that the commands before it leave.
use Rattle.std.proofs.Common.{◌≡◌, ◌<◌, ◌≤◌, ℕ, zero, suc, ◌+◌, Bool, true, false, Option, None, Some, List}
use Rattle.std.proofs.Common.{[], ◌∷◌, ◌++◌, length, drop, map, refl, ap, sym, ◌∙◌, subst, arith}
use Rattle.std.proofs.Common.{append_assoc}
use Rattle.std.specs.Prelude.{replicate, slice_get}
use Rattle.instruments.specs.declared.Counts.{Counts}
use Rattle.std.proofs.lemmas.List.{length-replicate}
use Rattle.svf_writer.specs.Fits.{AreFitAfter, FitsAfter, HasLength}
use Rattle.svf_writer.specs.SeenCommands.{SIR, SDR, Reset, Idle, Run, SeenCommand, SeenScan}
use Rattle.tap_machine.specs.declared.Pins.{Pins}
use Rattle.tap_machine.specs.declared.Stable.{Stable}
use Rattle.tap_machine.specs.declared.Stable.TheVariants.{Reset as InReset, Idle as InIdle}
use Rattle.tap_machine.specs.declared.TapState.{TapState}
use Rattle.tap_machine.specs.declared.TapState.TheVariants.{TestLogicReset, RunTestIdle, ShiftDr, ShiftIr}
use Rattle.tap_machine.specs.declared.TapState.TheVariants.{Exit1Dr, Exit1Ir}
use Rattle.tap_machine.specs.Tap.{next}
use Rattle.tap_machine.specs.Play.{LastScan, Played, after_scan, expected, is_empty, mask_now, masked}
use Rattle.tap_machine.specs.Play.{no_shift, pins_with, played, scans_in, sdr_pins, shifts, sir_pins, to_idle}
use Rattle.net_bench.specs.Bench.{Chip, State, clock}
use Rattle.net_bench.specs.Playing.{after_pins}
use Rattle.net_bench.proofs.PublicLaws.{pins_split}
use Rattle.net_bench.proofs.Shaped.{clock_tap}
use Rattle.net_bench.proofs.Stepping.{pins_tap, tap_of, taps}
use Rattle.svf_notes.specs.Noted.{IsScanFrom, before_scan, played_at}
use Rattle.svf_notes.specs.Scans.{Scan, scans_of}
use Rattle.svf_notes.proofs.Compared.{AreQuiet, quiet_idle, quiet_many, quiet_map, quiet_scans, shifted_bits}
use Rattle.svf_notes.proofs.Compared.{shifts_scan}
use Rattle.svf_notes.proofs.HaveBits.{Keeps, as_many, keeps_now}
use Rattle.svf_notes.proofs.Kept.{Moved, moved_on, moves, shift_on, shift_off, shift_on_ir, shift_off_ir}
use Rattle.svf_notes.proofs.Kept.{shifts_move, to_dr, to_ir}

-- a scan at a place in a play
pub record AtScan (xs : List (Scan Counts)) (k number : ℕ) (p : Played) (s : State Counts) : Type 0 where
  pub scan : Scan Counts
  pub is : slice_get xs k ≡ Some scan
  pub from : IsScanFrom s number p scan
  pub some : 1 ≤ length scan.bits

module _ (chip : Chip Counts) where
  shifted_in : (ts : List Bool) (es : List (Option Bool)) (s : State Counts)
      → map (λ b. b.tdi) (shifted_bits chip ts es s) ≡ ts
  shifted_in [] es s = refl
  shifted_in (t ∷ ts) es s =
      ap (λ (l : List Bool). t ∷ l) (shifted_in ts (drop 1 es) (clock chip (is_empty ts) t s))

  expected_of : (ts : List Bool) (es : List (Option Bool)) (s : State Counts) → length es ≡ length ts
      → map (λ b. b.expect) (shifted_bits chip ts es s) ≡ es
  expected_of [] [] s h = refl
  expected_of [] (e ∷ es) s h = absurd (omega (arith, h))
  expected_of (t ∷ ts) [] s h = absurd (omega (arith, h))
  expected_of (t ∷ ts) (e ∷ es) s h =
      ap (λ (l : List (Option Bool)). e ∷ l)
      (expected_of ts es (clock chip (is_empty ts) t s) (omega (arith, h)))

  -- ---- the pins of one scan

  record Begins (ps rest : List Pins) (s : State Counts) (number : ℕ) (p : Played) : Type 0 where
    scan : Scan Counts
    is : scans_of chip (ps ++ rest) s ≡ scan ∷ scans_of chip rest (after_pins chip ps s)
    from : IsScanFrom s number p scan
    some : 1 ≤ length scan.bits
    rests : (after_pins chip ps s).tap ≡ RunTestIdle

  begins_at : (in_shift out : TapState) (front : List Bool) (n : ℕ) (tdi : List Bool)
      (es : List (Option Bool)) (rest : List Pins) (s : State Counts)
      → ((t : Bool) (u : State Counts) → u.tap ≡ in_shift → Moved u (clock chip false t u) in_shift)
      → ((t : Bool) (u : State Counts) → u.tap ≡ in_shift → Moved u (clock chip true t u) out)
      → next (next out true) false ≡ RunTestIdle → 0 < length tdi → length es ≡ length tdi
      → Moved s (after_pins chip (map no_shift front) s) in_shift
      → Begins (map no_shift front ++ (shifts (suc n) 0 tdi es ++ map no_shift (true ∷ false ∷ []))) rest s
      (suc n) (record { tdi = tdi; expects = es })
  begins_at in_shift out front n [] es rest s on off home some as_long begun = absurd (omega (arith, some))
  begins_at in_shift out front n (t ∷ ts) es rest s on off home some as_long begun =
      let first = map no_shift front in
      let scan = shifts (suc n) 0 (t ∷ ts) es in
      let back = map no_shift (true ∷ false ∷ []) in
      let b = after_pins chip first s in
      let d = after_pins chip scan b in
      let x : Scan Counts = record { number = suc n; bits = shifted_bits chip (t ∷ ts) es b; state = d } in
      let kept = moved_on s b d in_shift out begun
      (shifts_move chip in_shift out on off (suc n) 0 t ts es b begun.tap_is) in
      let order : (first ++ (scan ++ back)) ++ rest ≡ first ++ (scan ++ (back ++ rest)) = append_assoc first
      (scan ++ back) rest ∙ ap (λ (l : List Pins). first ++ l) (append_assoc scan back rest) in
      let end : after_pins chip (first ++ (scan ++ back)) s ≡ after_pins chip back d =
      (pins_split chip first (scan ++ back) s).0 ∙ (pins_split chip scan back b).0 in
      let updated = clock chip true false d in
      record {
        scan = x;
        is =
            ap (λ (l : List Pins). scans_of chip l s) order
            ∙ quiet_scans chip first (scan ++ (back ++ rest)) s (quiet_map front)
            ∙ shifts_scan chip n 0 t ts es (back ++ rest) b
            ∙ ap (λ (l : List (Scan Counts)). x ∷ l)
            (quiet_scans chip back rest d (quiet_map (true ∷ false ∷ [])))
            ∙ ap (λ (u : State Counts). x ∷ scans_of chip rest u) (sym end);
        from =
            record {
              numbered = refl;
              holds = kept.holds;
              instruction = kept.instruction;
              written = shifted_in (t ∷ ts) es b;
              expected = expected_of (t ∷ ts) es b as_long;
            };
        some = omega arith;
        rests =
            ap (λ (u : State Counts). u.tap) end
            ∙ clock_tap chip false false updated
            ∙ ap (λ (p : TapState). next p false)
            (clock_tap chip true false d ∙ ap (λ (p : TapState). next p true) kept.tap_is)
            ∙ home;
      }

  sir_begins : (n : ℕ) (p : Played) (rest : List Pins) (s : State Counts) → s.tap ≡ RunTestIdle
      → 0 < length p.tdi → length p.expects ≡ length p.tdi → Begins (sir_pins (suc n) p) rest s (suc n) p
  sir_begins n p rest s e some as_long =
      begins_at ShiftIr Exit1Ir (true ∷ true ∷ false ∷ false ∷ []) n p.tdi p.expects rest s (shift_on_ir chip)
      (shift_off_ir chip) refl some as_long (to_ir chip s e)

  sdr_begins : (n : ℕ) (p : Played) (rest : List Pins) (s : State Counts) → s.tap ≡ RunTestIdle
      → 0 < length p.tdi → length p.expects ≡ length p.tdi → Begins (sdr_pins (suc n) p) rest s (suc n) p
  sdr_begins n p rest s e some as_long =
      begins_at ShiftDr Exit1Dr (true ∷ false ∷ false ∷ []) n p.tdi p.expects rest s (shift_on chip)
      (shift_off chip) refl some as_long (to_dr chip s e)

  -- ---- pins that shift nothing

  idle_moved : (from : Stable) (s : State Counts) → s.tap ≡ tap_of from
      → Moved s (after_pins chip (to_idle from) s) RunTestIdle
  idle_moved InReset s e = moves chip TestLogicReset false false s RunTestIdle e
      (record { tap_is = refl; holds = refl; instruction = refl })
  idle_moved InIdle s e = record { tap_is = e; holds = refl; instruction = refl }

  reset_rests : (from : Stable) (s : State Counts) → s.tap ≡ tap_of from
      → (after_pins chip (replicate 5 (no_shift true)) s).tap ≡ TestLogicReset
  reset_rests from s e = pins_tap chip (replicate 5 (no_shift true)) s
      ∙ ap (taps (replicate 5 (no_shift true))) e ∙ cases from
    where
      cases : (f : Stable) → taps (replicate 5 (no_shift true)) (tap_of f) ≡ TestLogicReset
      cases InReset = refl
      cases InIdle = refl

  run_rests : (m : ℕ) (s : State Counts) → s.tap ≡ RunTestIdle
      → (after_pins chip (replicate m (no_shift false)) s).tap ≡ RunTestIdle
  run_rests m s e = pins_tap chip (replicate m (no_shift false)) s
      ∙ ap (taps (replicate m (no_shift false))) e ∙ many m
    where
      many : (n : ℕ) → taps (replicate n (no_shift false)) RunTestIdle ≡ RunTestIdle
      many zero = refl
      many (suc n) = many n

  -- ---- a scan after other pins

  after_quiet : (qs ps early : List Pins) (k number : ℕ) (p : Played) (s : State Counts) → AreQuiet qs
      → AtScan (scans_of chip ps (after_pins chip qs s)) k number p
      (after_pins chip early (after_pins chip qs s))
      → AtScan (scans_of chip (qs ++ ps) s) k number p (after_pins chip (qs ++ early) s)
  after_quiet qs ps early k number p s quiet h =
      record {
        scan = h.scan;
        is = ap (λ (l : List (Scan Counts)). slice_get l k) (quiet_scans chip qs ps s quiet) ∙ h.is;
        from = subst (λ (u : State Counts). IsScanFrom u number p h.scan)
            (sym (pins_split chip qs early s).0) h.from;
        some = h.some;
      }

  -- this scan
  first_scan : (from : Stable) (ps rest : List Pins) (n : ℕ) (p : Played) (s : State Counts)
      → s.tap ≡ tap_of from → Begins ps rest (after_pins chip (to_idle from) s) (suc n) p
      → AtScan (scans_of chip (to_idle from ++ (ps ++ rest)) s) 0 (n + 1) p s
  first_scan from ps rest n p s e b =
      let idle = idle_moved from s e in
      record {
        scan = b.scan;
        is = ap (λ (l : List (Scan Counts)). slice_get l 0)
            (quiet_scans chip (to_idle from) (ps ++ rest) s (quiet_idle from) ∙ b.is);
        from =
            record {
              numbered = omega (arith, b.from.numbered);
              holds = b.from.holds ∙ idle.holds;
              instruction = b.from.instruction ∙ idle.instruction;
              written = b.from.written;
              expected = b.from.expected;
            };
        some = b.some;
      }

  -- a scan after this one
  later_scan : (from : Stable) (ps rest early : List Pins) (n k : ℕ) (p q : Played) (s : State Counts)
      → Begins ps rest (after_pins chip (to_idle from) s) (suc n) p
      → AtScan (scans_of chip rest (after_pins chip ps (after_pins chip (to_idle from) s))) k
      (suc n + suc k) q (after_pins chip early (after_pins chip ps (after_pins chip (to_idle from) s)))
      → AtScan (scans_of chip (to_idle from ++ (ps ++ rest)) s) (suc k) (n + suc (suc k)) q
      (after_pins chip (to_idle from ++ (ps ++ early)) s)
  later_scan from ps rest early n k p q s b h =
      let a = after_pins chip (to_idle from) s in
      let same : suc n + suc k ≡ n + suc (suc k) = omega arith in
      record {
        scan = h.scan;
        is = ap (λ (l : List (Scan Counts)). slice_get l (suc k))
            (quiet_scans chip (to_idle from) (ps ++ rest) s (quiet_idle from) ∙ b.is) ∙ h.is;
        from =
            subst (λ (u : State Counts). IsScanFrom u (n + suc (suc k)) q h.scan)
            (sym ((pins_split chip (to_idle from) (ps ++ early) s).0 ∙ (pins_split chip ps early a).0))
            (subst (λ (m : ℕ). IsScanFrom (after_pins chip early (after_pins chip ps a)) m q h.scan)
            same h.from);
        some = h.some;
      }

  -- ---- all commands

  -- as much is expected as is shifted in
  masked_length : (ts ms : List Bool) → length (masked ts ms) ≡ length ts
  masked_length [] ms = refl
  masked_length (t ∷ ts) [] = ap suc (masked_length ts [])
  masked_length (t ∷ ts) (m ∷ ms) = ap suc (masked_length ts ms)

  expected_length : (len : ℕ) (tdo : Option (List Bool)) (mask : List Bool)
      → HasLength len tdo → length (expected len tdo mask) ≡ len
  expected_length len None mask has = length-replicate len None
  expected_length len (Some tdo) mask has = masked_length tdo mask ∙ has

  as_expected : (last : Option ℕ) (k : LastScan) (s : SeenScan) → Keeps last k → FitsAfter last s
      → length (played k s).expects ≡ length (played k s).tdi
  as_expected last k s keeps fits =
      expected_length s.len s.tdo (mask_now k s) fits.tdo ∙ sym (as_many last k s keeps fits)

  some_bits : (last : Option ℕ) (k : LastScan) (s : SeenScan) → Keeps last k
      → FitsAfter last s → 0 < length (played k s).tdi
  some_bits last k s keeps fits = omega (arith, as_many last k s keeps fits, fits.some)

  abbrev Begun : LastScan → LastScan → Stable → ℕ → List SeenCommand → ℕ → State Counts → Type 0
  Begun ir dr from n cs k s =
      AtScan (scans_of chip (pins_with ir dr from n cs) s) k (n + suc k) (played_at ir dr k cs)
      (after_pins chip (pins_with ir dr from n (before_scan k cs)) s)

  pub begun : (cs : List SeenCommand) (i d : Option ℕ) (ir dr : LastScan) (from : Stable) (n k : ℕ)
      (s : State Counts) → Keeps i ir → Keeps d dr → AreFitAfter i d cs → s.tap ≡ tap_of from
      → k < scans_in cs → Begun ir dr from n cs k s
  begun [] i d ir dr from n k s ki kd fit e there =
      let none : k < 0 = there in
      absurd (omega (arith, none))
  begun (SIR x ∷ cs) i d ir dr from n zero s ki kd fit e there =
      let p = played ir x in
      let rest = pins_with (after_scan ir x) dr InIdle (suc n) cs in
      first_scan from (sir_pins (suc n) p) rest n p s e
      (sir_begins n p rest (after_pins chip (to_idle from) s) (idle_moved from s e).tap_is
      (some_bits i ir x ki fit.0) (as_expected i ir x ki fit.0))
  begun (SIR x ∷ cs) i d ir dr from n (suc k) s ki kd fit e there =
      let later : suc k < suc (scans_in cs) = there in
      let p = played ir x in
      let rest = pins_with (after_scan ir x) dr InIdle (suc n) cs in
      let ps = sir_pins (suc n) p in
      let a = after_pins chip (to_idle from) s in
      let b = sir_begins n p rest a (idle_moved from s e).tap_is
      (some_bits i ir x ki fit.0) (as_expected i ir x ki fit.0) in
      later_scan from ps rest (pins_with (after_scan ir x) dr InIdle (suc n) (before_scan k cs)) n k p
      (played_at (after_scan ir x) dr k cs) s b
      (begun cs (Some x.len) d (after_scan ir x) dr InIdle (suc n) k (after_pins chip ps a)
      (keeps_now i ir x ki fit.0) kd fit.1 b.rests (omega (arith, later)))
  begun (SDR x ∷ cs) i d ir dr from n zero s ki kd fit e there =
      let p = played dr x in
      let rest = pins_with ir (after_scan dr x) InIdle (suc n) cs in
      first_scan from (sdr_pins (suc n) p) rest n p s e
      (sdr_begins n p rest (after_pins chip (to_idle from) s) (idle_moved from s e).tap_is
      (some_bits d dr x kd fit.0) (as_expected d dr x kd fit.0))
  begun (SDR x ∷ cs) i d ir dr from n (suc k) s ki kd fit e there =
      let later : suc k < suc (scans_in cs) = there in
      let p = played dr x in
      let rest = pins_with ir (after_scan dr x) InIdle (suc n) cs in
      let ps = sdr_pins (suc n) p in
      let a = after_pins chip (to_idle from) s in
      let b = sdr_begins n p rest a (idle_moved from s e).tap_is
      (some_bits d dr x kd fit.0) (as_expected d dr x kd fit.0) in
      later_scan from ps rest (pins_with ir (after_scan dr x) InIdle (suc n) (before_scan k cs)) n k p
      (played_at ir (after_scan dr x) k cs) s b
      (begun cs i (Some x.len) ir (after_scan dr x) InIdle (suc n) k (after_pins chip ps a) ki
      (keeps_now d dr x kd fit.0) fit.1 b.rests (omega (arith, later)))
  begun (Reset ∷ cs) i d ir dr from n k s ki kd fit e there =
      let qs = replicate 5 (no_shift true) in
      after_quiet qs (pins_with ir dr InReset n cs) (pins_with ir dr InReset n (before_scan k cs)) k
      (n + suc k) (played_at ir dr k cs) s (quiet_many 5 true)
      (begun cs i d ir dr InReset n k (after_pins chip qs s) ki kd fit (reset_rests from s e) there)
  begun (Idle ∷ cs) i d ir dr from n k s ki kd fit e there =
      after_quiet (to_idle from) (pins_with ir dr InIdle n cs) (pins_with ir dr InIdle n (before_scan k cs)) k
      (n + suc k) (played_at ir dr k cs) s (quiet_idle from)
      (begun cs i d ir dr InIdle n k (after_pins chip (to_idle from) s) ki kd fit
      (idle_moved from s e).tap_is there)
  begun (Run m ∷ cs) i d ir dr from n k s ki kd fit e there =
      let qs = replicate m (no_shift false) in
      let a = after_pins chip (to_idle from) s in
      let p = played_at ir dr k cs in
      after_quiet (to_idle from) (qs ++ pins_with ir dr InIdle n cs)
      (qs ++ pins_with ir dr InIdle n (before_scan k cs)) k (n + suc k) p s (quiet_idle from)
      (after_quiet qs (pins_with ir dr InIdle n cs)
      (pins_with ir dr InIdle n (before_scan k cs)) k (n + suc k) p a (quiet_many m false)
      (begun cs i d ir dr InIdle n k (after_pins chip qs a) ki kd fit
      (run_rests m a (idle_moved from s e).tap_is) there))
