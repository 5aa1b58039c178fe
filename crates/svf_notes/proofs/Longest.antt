-- How long a text with notes becomes.
use Rattle.std.proofs.Common.{◌≡◌, ℕ, zero, suc, ◌+◌, ◌-◌, ◌*◌, ◌<◌, ◌≤◌, ◌^◌, Bool, true, false, Option}
use Rattle.std.proofs.Common.{Some, None, List, [], ◌∷◌, ◌++◌, length, take, drop, map, refl, ap, sym, ◌∙◌}
use Rattle.std.proofs.Common.{subst, arith, append_assoc, length-append}
use Rattle.std.specs.Prelude.{◌==◌, cond, min, nat_lt, replicate}
use Rattle.std.proofs.Math.Nat.{suc-mul}
use Rattle.std.proofs.lemmas.Bool.Decides.{nat_tests}
use Rattle.std.proofs.lemmas.List.{take-append-drop}
use Rattle.bench_report.specs.Report.{chip}
use Rattle.instruments.specs.declared.Counts.{Counts}
use Rattle.instruments.specs.Seen.{SeenModel}
use Rattle.net_bench.specs.Bench.{Chip, State, clock, power_up}
use Rattle.net_bench.specs.Playing.{after_pins}
use Rattle.net_bench.specs.Laws.{IsShaped}
use Rattle.net_bench.proofs.PublicLaws.{is_shaped_first, stays_shaped}
use Rattle.net_bench.proofs.Wide.{captures_wide}
use Rattle.net_graph.specs.declared.device.Device.{Device}
use Rattle.net_graph.specs.declared.net.Net.{Net}
use Rattle.net_graph.specs.Nets.{IsNet}
use Rattle.net_graph.proofs.Shapes.{capture_widths, widths}
use Rattle.svf_reader.specs.Commands.{is_scan}
use Rattle.svf_reader.specs.Texts.{first, plain, texts, words}
use Rattle.svf_writer.specs.Fits.{AreFit, AreFitAfter}
use Rattle.svf_writer.specs.SeenCommands.{SIR, SDR, Reset, Idle, Run, SeenCommand}
use Rattle.tap_machine.specs.declared.Pins.{Pins}
use Rattle.tap_machine.specs.declared.Stable.{Stable}
use Rattle.tap_machine.specs.declared.Stable.TheVariants.{Reset as InReset, Idle as InIdle}
use Rattle.tap_machine.specs.Play.{LastScan, Played, after_scan, is_empty, no_scan, no_shift, pins_with}
use Rattle.tap_machine.specs.Play.{played, scans_in, shifts, to_idle}
use Rattle.svf_notes.specs.Explained.{closing_line_feed, explained, explained_text, note_at, notes_left}
use Rattle.svf_notes.specs.Explained.{with_notes}
use Rattle.svf_notes.specs.Most.{AreNamedWithin, most_of, most_of_scan}
use Rattle.svf_notes.specs.Notes.{note_of, note_text, played_scans}
use Rattle.svf_notes.specs.Scans.{Scan, scans_of}
use Rattle.svf_notes.proofs.Compared.{AreQuiet, quiet_idle, quiet_many, quiet_map, quiet_scans, shifted_bits}
use Rattle.svf_notes.proofs.Compared.{shifts_scan}
use Rattle.svf_notes.proofs.HaveBits.{Keeps, as_many, keeps_now, no_length}
use Rattle.svf_notes.proofs.Lengths.{note_short}

-- ---- the text is as long as it was, and its notes, each with a line feed

abbrev pub total : List (List ℕ) → ℕ
total [] = 0
total (n ∷ ns) = suc (length n) + total ns

closing_short : (rest : List ℕ) → length (closing_line_feed rest) ≤ 1
closing_short rest = cases (first rest == 10)
  where
    cases : (k : Bool) → length {A = ℕ} (cond k [] (10 ∷ [])) ≤ 1
    cases true =
        let none : length {A = ℕ} (cond true [] (10 ∷ [])) ≡ 0 = refl in
        omega (arith, none)
    cases false =
        let one : length {A = ℕ} (cond false [] (10 ∷ [])) ≡ 1 = refl in
        omega (arith, one)

note_total : (scans : Bool) (notes : List (List ℕ)) (rest : List ℕ)
    → length (note_at scans notes rest) + total (notes_left scans notes) ≤ total notes
note_total false notes rest =
    let none : length (note_at false notes rest) ≡ 0 = refl in
    let same : total (notes_left false notes) ≡ total notes = refl in
    omega (arith, none, same)
note_total true [] rest =
    let none : length (note_at true [] rest) ≡ 0 = refl in
    let left : total (notes_left true []) ≡ 0 = refl in
    omega (arith, none, left)
note_total true (n ∷ ns) rest =
    let one : length (note_at true (n ∷ ns) rest)
    ≡ length n + length (closing_line_feed rest) = length-append n (closing_line_feed rest) in
    let left : total (notes_left true (n ∷ ns)) ≡ total ns = refl in
    let all : total (n ∷ ns) ≡ suc (length n) + total ns = refl in
    omega (arith, one, left, all, closing_short rest)

noted_short : (ts notes : List (List ℕ)) (src : List ℕ)
    → length (with_notes ts notes src) ≤ length src + total notes
noted_short [] notes src =
    let same : length (with_notes [] notes src) ≡ length src = refl in
    omega (arith, same)
noted_short (t ∷ []) notes src =
    let same : length (with_notes (t ∷ []) notes src) ≡ length src = refl in
    omega (arith, same)
noted_short (t ∷ (u ∷ us)) notes src =
    let n = suc (length t) in
    let scans = is_scan (words t) in
    let rest = drop n src in
    let here = note_at scans notes rest in
    let later = with_notes (u ∷ us) (notes_left scans notes) rest in
    let cut : length (take n src) + length rest
    ≡ length src = sym (length-append (take n src) rest) ∙ ap length (take-append-drop n src) in
    let whole : length (with_notes (t ∷ (u ∷ us)) notes src)
    ≡ length (take n src) + length (here ++ later) = length-append (take n src) (here ++ later) in
    omega (
      arith,
      cut,
      whole,
      length-append here later,
      note_total scans notes rest,
      noted_short (u ∷ us) (notes_left scans notes) rest,
    )

-- ---- one scan

module _ (c : Chip Counts) (wide : capture_widths c.net ≡ widths c.net) where
  bits_length : (ts : List Bool) (es : List (Option Bool)) (s : State Counts)
      → length (shifted_bits c ts es s) ≡ length ts
  bits_length [] es s = refl
  bits_length (t ∷ ts) es s = ap suc (bits_length ts (drop 1 es) (clock c (is_empty ts) t s))

  -- what some pins shift: one scan, and the state after it
  record IsOneScan (ps rest : List Pins) (s : State Counts) (number bits : ℕ) : Type 0 where
    scan : Scan Counts
    after : State Counts
    is : scans_of c (ps ++ rest) s ≡ scan ∷ scans_of c rest after
    numbered : scan.number ≡ number
    sized : length scan.bits ≡ bits
    shaped : IsShaped c scan.state
    shaped_after : IsShaped c after

  one_scan : (from : Stable) (front : List Bool) (n : ℕ) (tdi : List Bool) (es : List (Option Bool))
      (rest : List Pins) (s : State Counts) → 0 < length tdi → IsShaped c s
      → IsOneScan (to_idle from ++ (map no_shift front
      ++ (shifts (suc n) 0 tdi es ++ map no_shift (true ∷ false ∷ [])))) rest s (suc n) (length tdi)
  one_scan from front n [] es rest s some h = absurd (omega (arith, some))
  one_scan from front n (t ∷ ts) es rest s some h =
      let idle = to_idle from in
      let first = map no_shift front in
      let scan = shifts (suc n) 0 (t ∷ ts) es in
      let back = map no_shift (true ∷ false ∷ []) in
      let a = after_pins c idle s in
      let b = after_pins c first a in
      let d = after_pins c scan b in
      let e = after_pins c back d in
      let ha = stays_shaped c idle s wide h in
      let hb = stays_shaped c first a wide ha in
      let hd = stays_shaped c scan b wide hb in
      let x : Scan Counts = record { number = suc n; bits = shifted_bits c (t ∷ ts) es b; state = d } in
      let order : (idle ++ (first ++ (scan ++ back))) ++ rest ≡ idle ++ (first ++ (scan ++ (back ++ rest))) =
      append_assoc idle (first ++ (scan ++ back)) rest
      ∙ ap (λ (l : List Pins). idle ++ l) (append_assoc first (scan ++ back) rest)
      ∙ ap (λ (l : List Pins). idle ++ (first ++ l)) (append_assoc scan back rest) in
      record {
        scan = x;
        after = e;
        is =
            ap (λ (l : List Pins). scans_of c l s) order
            ∙ quiet_scans c idle (first ++ (scan ++ (back ++ rest))) s (quiet_idle from)
            ∙ quiet_scans c first (scan ++ (back ++ rest)) a (quiet_map front)
            ∙ shifts_scan c n 0 t ts es (back ++ rest) b
            ∙ ap (λ (l : List (Scan Counts)). x ∷ l)
            (quiet_scans c back rest d (quiet_map (true ∷ false ∷ [])));
        numbered = refl;
        sized = bits_length (t ∷ ts) es b;
        shaped = hd;
        shaped_after = stays_shaped c back d wide hd;
      }

  -- ---- all scans

  module _ (is : IsNet c.net) (device : Device) (name : ℕ)
      (short : AreNamedWithin c.net (length c.net.regs.items) name) where
    abbrev note : Scan Counts → List ℕ
    note x = note_text (note_of c.net device x)

    abbrev most : List SeenCommand → ℕ
    most cs = most_of device (length c.net.regs.items) name cs

    abbrev Short : List SeenCommand → List (Scan Counts) → Type 0
    Short cs xs = total (map note xs) ≤ most cs

    scan_more : (from : Stable) (front : List Bool) (n len : ℕ) (p : Played) (rest : List Pins)
        (cs : List SeenCommand) (s : State Counts) → 0 < length p.tdi
        → length p.tdi ≡ len → suc n < 10000000000 → IsShaped c s
        → ((t : State Counts) → IsShaped c t → Short cs (scans_of c rest t))
        → total (map note (scans_of c (to_idle from ++ ((map no_shift front
        ++ (shifts (suc n) 0 p.tdi p.expects ++ map no_shift (true ∷ false ∷ []))) ++ rest)) s))
        ≤ most_of_scan device (length c.net.regs.items) name len + most cs
    scan_more from front n len p rest cs s some as_long few h later =
        let one = one_scan from front n p.tdi p.expects rest s some h in
        let x = one.scan in
        let pins = map no_shift front
        ++ (shifts (suc n) 0 p.tdi p.expects ++ map no_shift (true ∷ false ∷ [])) in
        let all : scans_of c (to_idle from ++ (pins ++ rest)) s ≡ x ∷ scans_of c rest one.after =
        ap (λ (l : List Pins). scans_of c l s) (sym (append_assoc (to_idle from) pins rest)) ∙ one.is in
        let here : suc (length (note x))
        ≤ most_of_scan device (length c.net.regs.items) name (length x.bits) = note_short c.net is name
        short x.state.holds one.shaped.holds device x refl (omega (arith, few, one.numbered)) in
        let sized : length x.bits ≡ len = one.sized ∙ as_long in
        let this : suc (length (note x)) ≤ most_of_scan device (length c.net.regs.items) name len =
        subst (λ (m : ℕ). suc (length (note x))
        ≤ most_of_scan device (length c.net.regs.items) name m) sized here in
        let sum : total (map note (scans_of c (to_idle from ++ (pins ++ rest)) s))
        ≡ suc (length (note x)) + total (map note (scans_of c rest one.after)) =
        ap (λ (l : List (Scan Counts)). total (map note l)) all in
        omega (arith, sum, this, later one.after one.shaped_after)

    quiet_more : (qs rest : List Pins) (cs : List SeenCommand) (s : State Counts) → AreQuiet qs → IsShaped c s
        → ((t : State Counts) → IsShaped c t → Short cs (scans_of c rest t))
        → Short cs (scans_of c (qs ++ rest) s)
    quiet_more qs rest cs s quiet h later =
        subst (λ (l : List (Scan Counts)). Short cs l) (sym (quiet_scans c qs rest s quiet))
        (later (after_pins c qs s) (stays_shaped c qs s wide h))

    scans_short : (cs : List SeenCommand) (i d : Option ℕ) (ir dr : LastScan) (from : Stable) (n : ℕ)
        (s : State Counts) → Keeps i ir → Keeps d dr → AreFitAfter i d cs
        → n + scans_in cs < 10000000000 → IsShaped c s
        → Short cs (scans_of c (pins_with ir dr from n cs) s)
    scans_short [] i d ir dr from n s ki kd fit few h =
        let none : total (map note (scans_of c (pins_with ir dr from n []) s)) ≡ 0 = refl in
        omega (arith, none)
    scans_short (SIR x ∷ cs) i d ir dr from n s ki kd fit few h =
        let long = as_many i ir x ki fit.0 in
        let count : n + suc (scans_in cs) < 10000000000 = few in
        scan_more from (true ∷ true ∷ false ∷ false ∷ []) n x.len (played ir x)
        (pins_with (after_scan ir x) dr InIdle (suc n) cs) cs s
        (omega (arith, long, fit.0.some)) long (omega (arith, count)) h
        (λ t ht. scans_short cs (Some x.len) d (after_scan ir x) dr InIdle (suc n) t
        (keeps_now i ir x ki fit.0) kd fit.1 (omega (arith, count)) ht)
    scans_short (SDR x ∷ cs) i d ir dr from n s ki kd fit few h =
        let long = as_many d dr x kd fit.0 in
        let count : n + suc (scans_in cs) < 10000000000 = few in
        scan_more from (true ∷ false ∷ false ∷ []) n x.len (played dr x)
        (pins_with ir (after_scan dr x) InIdle (suc n) cs) cs s
        (omega (arith, long, fit.0.some)) long (omega (arith, count)) h
        (λ t ht. scans_short cs i (Some x.len) ir (after_scan dr x) InIdle (suc n) t ki
        (keeps_now d dr x kd fit.0) fit.1 (omega (arith, count)) ht)
    scans_short (Reset ∷ cs) i d ir dr from n s ki kd fit few h =
        let this : Short cs (scans_of c (pins_with ir dr from n (Reset ∷ cs)) s) =
        quiet_more (replicate 5 (no_shift true)) (pins_with ir dr InReset n cs) cs s (quiet_many 5 true) h
        (λ t ht. scans_short cs i d ir dr InReset n t ki kd fit few ht) in
        let none : most (Reset ∷ cs) ≡ 0 + most cs = refl in
        omega (arith, this, none)
    scans_short (Idle ∷ cs) i d ir dr from n s ki kd fit few h =
        let this : Short cs (scans_of c (pins_with ir dr from n (Idle ∷ cs)) s) =
        quiet_more (to_idle from) (pins_with ir dr InIdle n cs) cs s (quiet_idle from) h
        (λ t ht. scans_short cs i d ir dr InIdle n t ki kd fit few ht) in
        let none : most (Idle ∷ cs) ≡ 0 + most cs = refl in
        omega (arith, this, none)
    scans_short (Run m ∷ cs) i d ir dr from n s ki kd fit few h =
        let this : Short cs (scans_of c (pins_with ir dr from n (Run m ∷ cs)) s) =
        quiet_more (to_idle from)
        (replicate m (no_shift false) ++ pins_with ir dr InIdle n cs) cs s (quiet_idle from) h
        (λ t ht. quiet_more (replicate m (no_shift false)) (pins_with ir dr InIdle n cs) cs t
        (quiet_many m false) ht (λ u hu. scans_short cs i d ir dr InIdle n u ki kd fit few hu)) in
        let none : most (Run m ∷ cs) ≡ 0 + most cs = refl in
        omega (arith, this, none)

-- ---- the whole text

pub explained_short : (net : Net) (device : Device) (models : List SeenModel) (commands : List SeenCommand)
    (src : List ℕ) (name : ℕ) → IsNet net → AreFit commands → scans_in commands ≤ 1000000000
    → AreNamedWithin net (length net.regs.items) name
    → length (explained_text net device models commands src)
    ≤ length src + most_of device (length net.regs.items) name commands
unfolding explained explained_text played_scans
explained_short net device models commands src name is fit few short =
    let c = chip net device models in
    let wide : capture_widths net ≡ widths net = captures_wide net net.regs.items is.regs in
    let notes = map (λ x. note_text (note_of net device x))
    (scans_of c (pins_with no_scan no_scan InReset 0 commands) (power_up c)) in
    let long : length (explained_text net device models commands src)
    ≤ length src + total notes = noted_short (texts (plain src)) notes src in
    let few_notes : total notes ≤ most_of device (length net.regs.items) name commands =
    scans_short c wide is device name short commands None None no_scan no_scan InReset 0
    (power_up c) no_length no_length fit (omega (arith, few)) (is_shaped_first c) in
    omega (arith, long, few_notes)

-- ---- what is counted

-- at most as much as 64 bits can hold is multiplied and added
pub scaled : (a b : ℕ) → min (a * b) (2 ^ 64 - 1) ≤ min (a * min b (2 ^ 64 - 1)) (2 ^ 64 - 1)
scaled zero b = omega arith
scaled (suc a) b = cases (nat_lt (2 ^ 64 - 1) b) refl
  where
    cases : (k : Bool) → nat_lt (2 ^ 64 - 1) b ≡ k
        → min (suc a * b) (2 ^ 64 - 1) ≤ min (suc a * min b (2 ^ 64 - 1)) (2 ^ 64 - 1)
    cases true e =
        let more : 2 ^ 64 - 1 < b = grind (arith, nat_tests) in
        omega (arith, more, suc-mul a (min b (2 ^ 64 - 1)))
    cases false e =
        let less : b ≤ 2 ^ 64 - 1 = grind (arith, nat_tests) in
        let same : min b (2 ^ 64 - 1) ≡ b = omega (arith, less) in
        omega (arith, ap (λ (m : ℕ). min (suc a * m) (2 ^ 64 - 1)) same)
