-- What a play compares, scan by scan; and what stays while a scan is shifted.
use Rattle.std.proofs.Common.{◌≡◌, ℕ, zero, suc, Bool, true, false, cond, Option, None, List, [], ◌∷◌, ◌++◌}
use Rattle.std.proofs.Common.{drop, map, get_or, refl, ap, sym, ◌∙◌, subst, arith, append_assoc}
use Rattle.std.specs.Prelude.{◌==◌, replicate}
use Rattle.std.proofs.lemmas.Bool.Decides.{nat_tests}
use Rattle.std.specs.List.{flat_map}
use Rattle.instruments.specs.declared.Counts.{Counts}
use Rattle.svf_writer.specs.SeenCommands.{SeenCommand, SIR, SDR, Reset, Idle, Run}
use Rattle.tap_machine.specs.declared.Pins.{Pins}
use Rattle.tap_machine.specs.declared.Stable.{Stable}
use Rattle.tap_machine.specs.declared.Stable.TheVariants.{Reset as InReset, Idle as InIdle}
use Rattle.tap_machine.specs.Play.{LastScan, Played, after_scan, is_empty, no_shift, no_scan, pins_with}
use Rattle.tap_machine.specs.Play.{played, sdr_pins, shifts, sir_pins, to_idle}
use Rattle.net_bench.specs.Bench.{Chip, State, clock, tdo}
use Rattle.net_bench.specs.Playing.{after_pins, compare_of, compares, resting}
use Rattle.svf_notes.specs.declared.scan.Shifted.{Shifted}
use Rattle.svf_notes.specs.Scans.{Scan, led_by, scans_of}
use Rattle.svf_notes.specs.Laws.{bit_compares, compares_in, ScansCompare}

-- pins that shift nothing
abbrev pub AreQuiet : List Pins → Type 0
AreQuiet [] = Unit {0}
AreQuiet (p ∷ ps) = (p.scan ≡ 0) × (p.expect ≡ None) × AreQuiet ps

pub quiet_map : (tms : List Bool) → AreQuiet (map no_shift tms)
quiet_map [] = tt
quiet_map (t ∷ ts) = (refl, refl, quiet_map ts)

pub quiet_many : (n : ℕ) (tms : Bool) → AreQuiet (replicate n (no_shift tms))
quiet_many zero tms = tt
quiet_many (suc n) tms = (refl, refl, quiet_many n tms)

pub quiet_idle : (from : Stable) → AreQuiet (to_idle from)
quiet_idle InReset = (refl, refl, tt)
quiet_idle InIdle = tt

module _ (chip : Chip Counts) where
  pub quiet_scans : (qs ps : List Pins) (s : State Counts) → AreQuiet qs
      → scans_of chip (qs ++ ps) s ≡ scans_of chip ps (after_pins chip qs s)
  quiet_scans [] ps s quiet = refl
  quiet_scans (q ∷ qs) ps s quiet = rw quiet.0 (quiet_scans qs ps (clock chip q.tms q.tdi s) quiet.2)

  quiet_compares : (qs ps : List Pins) (s : State Counts) → AreQuiet qs
      → compares chip (qs ++ ps) s ≡ compares chip ps (after_pins chip qs s)
  quiet_compares [] ps s quiet = refl
  quiet_compares (q ∷ qs) ps s quiet = rw quiet.1 (quiet_compares qs ps (clock chip q.tms q.tdi s) quiet.2)

  not_none : (n : ℕ) → (suc n == 0) ≡ false
  not_none n = grind (arith, nat_tests)

  -- the bits of the shift clocks
  abbrev pub shifted_bits : List Bool → List (Option Bool) → State Counts → List Shifted
  shifted_bits [] es s = []
  shifted_bits (t ∷ ts) es s =
      record { tdi = t; expect = get_or es 0 None; found = tdo chip s }
      ∷ shifted_bits ts (drop 1 es) (clock chip (is_empty ts) t s)

  pub shifts_scan : (n k : ℕ) (t : Bool) (ts : List Bool)
      (es : List (Option Bool)) (ps : List Pins) (s : State Counts)
      → scans_of chip (shifts (suc n) k (t ∷ ts) es ++ ps) s ≡ record {
        number = suc n;
        bits = shifted_bits (t ∷ ts) es s;
        state = after_pins chip (shifts (suc n) k (t ∷ ts) es) s;
      }
      ∷ scans_of chip ps (after_pins chip (shifts (suc n) k (t ∷ ts) es) s)
  shifts_scan n k t [] es ps s =
      let after = clock chip true t s in
      let b : Shifted = record { tdi = t; expect = get_or es 0 None; found = tdo chip s } in
      ap (λ (i : Bool). cond i (scans_of chip ps after) (let x : Scan Counts =
      record { number = suc n; bits = b ∷ []; state = after } in x ∷ scans_of chip ps after)) (not_none n)
  shifts_scan n k t (u ∷ us) es ps s =
      let after = clock chip false t s in
      let b : Shifted = record { tdi = t; expect = get_or es 0 None; found = tdo chip s } in
      let later = scans_of chip (shifts (suc n) (suc k) (u ∷ us) (drop 1 es) ++ ps) after in
      ap (λ (i : Bool). cond i later (led_by b later)) (not_none n)
      ∙ ap (led_by b) (shifts_scan n (suc k) u us (drop 1 es) ps after)

  shifts_compare : (n k : ℕ) (ts : List Bool) (es : List (Option Bool)) (ps : List Pins) (s : State Counts)
      → compares chip (shifts n k ts es ++ ps) s
      ≡ bit_compares n k (shifted_bits ts es s) ++ compares chip ps (after_pins chip (shifts n k ts es) s)
  shifts_compare n k [] es ps s = refl
  shifts_compare n k (t ∷ ts) es ps s =
      let after = clock chip (is_empty ts) t s in
      let here = compare_of (get_or es 0 None) n k (tdo chip s) in
      let bits = bit_compares n (suc k) (shifted_bits ts (drop 1 es) after) in
      let rest = compares chip ps (after_pins chip (shifts n (suc k) ts (drop 1 es)) after) in
      ap (λ l. here ++ l) (shifts_compare n (suc k) ts (drop 1 es) ps after)
      ∙ sym (append_assoc here bits rest)

  -- the scans of some pins compare what these compare
  abbrev Compared : List Pins → Type 0
  Compared ps = (s : State Counts) → compares chip ps s ≡ flat_map compares_in (scans_of chip ps s)

  after_quiet : (qs ps : List Pins) → AreQuiet qs → Compared ps → Compared (qs ++ ps)
  after_quiet qs ps quiet is s =
      quiet_compares qs ps s quiet ∙ is (after_pins chip qs s)
      ∙ ap (flat_map compares_in) (sym (quiet_scans qs ps s quiet))

  after_shifts : (n : ℕ) (ts : List Bool) (es : List (Option Bool)) (ps : List Pins) → Compared ps
      → Compared (shifts (suc n) 0 ts es ++ ps)
  after_shifts n [] es ps is s = is s
  after_shifts n (t ∷ ts) es ps is s =
      let end = after_pins chip (shifts (suc n) 0 (t ∷ ts) es) s in
      shifts_compare (suc n) 0 (t ∷ ts) es ps s
      ∙ ap (λ l. bit_compares (suc n) 0 (shifted_bits (t ∷ ts) es s) ++ l) (is end)
      ∙ ap (flat_map compares_in) (sym (shifts_scan n 0 t ts es ps s))

  after_scan_pins : (n : ℕ) (front : List Bool) (p : Played) (ps : List Pins) → Compared ps → Compared
      ((map no_shift front ++ (shifts (suc n) 0 p.tdi p.expects ++ map no_shift (true ∷ false ∷ []))) ++ ps)
  after_scan_pins n front p ps is =
      let last = map no_shift (true ∷ false ∷ []) in
      let middle = shifts (suc n) 0 p.tdi p.expects in
      subst Compared
      (sym (append_assoc (map no_shift front) (middle ++ last) ps
      ∙ ap (λ (l : List Pins). map no_shift front ++ l) (append_assoc middle last ps)))
      (after_quiet (map no_shift front) (middle ++ (last ++ ps)) (quiet_map front) (after_shifts n p.tdi
      p.expects (last ++ ps) (after_quiet last ps (quiet_map (true ∷ false ∷ [])) is)))

  commands_compare : (cs : List SeenCommand) (ir dr : LastScan) (from : Stable) (scans : ℕ)
      → Compared (pins_with ir dr from scans cs)
  commands_compare [] ir dr from scans = λ s. refl
  commands_compare (SIR x ∷ cs) ir dr from scans =
      let rest = pins_with (after_scan ir x) dr InIdle (suc scans) cs in
      after_quiet (to_idle from) (sir_pins (suc scans) (played ir x) ++ rest) (quiet_idle from)
      (after_scan_pins scans (true ∷ true ∷ false ∷ false ∷ []) (played ir x) rest
      (commands_compare cs (after_scan ir x) dr InIdle (suc scans)))
  commands_compare (SDR x ∷ cs) ir dr from scans =
      let rest = pins_with ir (after_scan dr x) InIdle (suc scans) cs in
      after_quiet (to_idle from) (sdr_pins (suc scans) (played dr x) ++ rest) (quiet_idle from)
      (after_scan_pins scans (true ∷ false ∷ false ∷ []) (played dr x) rest
      (commands_compare cs ir (after_scan dr x) InIdle (suc scans)))
  commands_compare (Reset ∷ cs) ir dr from scans =
      after_quiet (replicate 5 (no_shift true)) (pins_with ir dr InReset scans cs) (quiet_many 5 true)
      (commands_compare cs ir dr InReset scans)
  commands_compare (Idle ∷ cs) ir dr from scans =
      after_quiet (to_idle from) (pins_with ir dr InIdle scans cs) (quiet_idle from)
      (commands_compare cs ir dr InIdle scans)
  commands_compare (Run n ∷ cs) ir dr from scans =
      let rest = pins_with ir dr InIdle scans cs in
      after_quiet (to_idle from) (replicate n (no_shift false) ++ rest) (quiet_idle from) (after_quiet
      (replicate n (no_shift false)) rest (quiet_many n false) (commands_compare cs ir dr InIdle scans))

pub scans_compare : ScansCompare
scans_compare chip commands s = commands_compare chip commands no_scan no_scan (resting s) 0 s
