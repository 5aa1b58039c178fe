-- The scans of a play are those of its commands, in their order.
use Rattle.std.proofs.Common.{◌≡◌, ℕ, zero, suc, ◌<◌, Bool, true, false, cond, Option, List, [], ◌∷◌, ◌++◌}
use Rattle.std.proofs.Common.{length, drop, map, refl, ap, ◌∙◌, arith}
use Rattle.std.specs.Prelude.{◌==◌, replicate}
use Rattle.std.proofs.lemmas.Bool.Decides.{nat_tests}
use Rattle.instruments.specs.declared.Counts.{Counts}
use Rattle.svf_writer.specs.SeenCommands.{SIR, SDR, Reset, Idle, Run, SeenCommand}
use Rattle.tap_machine.specs.declared.Pins.{Pins}
use Rattle.tap_machine.specs.declared.Stable.{Stable}
use Rattle.tap_machine.specs.declared.Stable.TheVariants.{Reset as InReset, Idle as InIdle}
use Rattle.tap_machine.specs.Play.{LastScan, Played, after_scan, no_scan, no_shift, pins_with, played}
use Rattle.tap_machine.specs.Play.{scans_in, sdr_pins, shifts, sir_pins, to_idle}
use Rattle.net_bench.specs.Bench.{Chip, State, clock, tdo}
use Rattle.svf_notes.specs.declared.scan.Shifted.{Shifted}
use Rattle.svf_notes.specs.Laws.{HaveBits, ScansAreNumbered, counted}
use Rattle.svf_notes.specs.Scans.{Scan, last_bit, led_by, scans_of, shifted_at}
use Rattle.ij_bits.proofs.Tests.{next_not_zero}

-- the numbers of the scans that some pins end, whatever the chip does
abbrev numbers_at : Pins → List ℕ → List ℕ
numbers_at p ns = cond (p.scan == 0) ns (cond p.tms (p.scan ∷ ns) ns)

abbrev numbers_in : List Pins → List ℕ
numbers_in [] = []
numbers_in (p ∷ ps) = numbers_at p (numbers_in ps)

abbrev numbers : List (Scan Counts) → List ℕ
numbers xs = map (λ x. x.number) xs

led_same : (b : Shifted) (xs : List (Scan Counts)) → numbers (led_by b xs) ≡ numbers xs
led_same b [] = refl
led_same b (x ∷ xs) = refl

clock_numbers : (none last : Bool) (p : Pins) (found : Bool)
    (after : State Counts) (later : List (Scan Counts))
    → numbers
    (cond none later (cond last (last_bit p found after ∷ later) (led_by (shifted_at p found) later)))
    ≡ cond none (numbers later) (cond last (p.scan ∷ numbers later) (numbers later))
clock_numbers true last p found after later = refl
clock_numbers false true p found after later = refl
clock_numbers false false p found after later = led_same (shifted_at p found) later

numbers_are : (chip : Chip Counts) (ps : List Pins) (s : State Counts)
    → numbers (scans_of chip ps s) ≡ numbers_in ps
numbers_are chip [] s = refl
numbers_are chip (p ∷ ps) s =
    let after = clock chip p.tms p.tdi s in
    clock_numbers (p.scan == 0) p.tms p (tdo chip s) after (scans_of chip ps after)
    ∙ ap (numbers_at p) (numbers_are chip ps after)

-- ---- one list of pins after another

at_joined : (none last : Bool) (n : ℕ) (ns ms : List ℕ)
    → cond none (ns ++ ms) (cond last (n ∷ (ns ++ ms)) (ns ++ ms))
    ≡ cond none ns (cond last (n ∷ ns) ns) ++ ms
at_joined true last n ns ms = refl
at_joined false true n ns ms = refl
at_joined false false n ns ms = refl

joined : (ps qs : List Pins) → numbers_in (ps ++ qs) ≡ numbers_in ps ++ numbers_in qs
joined [] qs = refl
joined (p ∷ ps) qs =
    ap (numbers_at p) (joined ps qs) ∙ at_joined (p.scan == 0) p.tms p.scan (numbers_in ps) (numbers_in qs)

after_none : (ps qs : List Pins) → numbers_in ps ≡ [] → numbers_in (ps ++ qs) ≡ numbers_in qs
after_none ps qs none = joined ps qs ∙ ap (λ (l : List ℕ). l ++ numbers_in qs) none

quiet : (bs : List Bool) → numbers_in (map no_shift bs) ≡ []
quiet [] = refl
quiet (b ∷ bs) = quiet bs

quiet_run : (n : ℕ) (tms : Bool) → numbers_in (replicate n (no_shift tms)) ≡ []
quiet_run zero tms = refl
quiet_run (suc n) tms = quiet_run n tms

quiet_idle : (from : Stable) → numbers_in (to_idle from) ≡ []
quiet_idle InReset = refl
quiet_idle InIdle = refl

-- ---- one scan

shift_numbers : (n k : ℕ) (t : Bool) (ts : List Bool) (es : List (Option Bool))
    → numbers_in (shifts (suc n) k (t ∷ ts) es) ≡ suc n ∷ []
shift_numbers n k t [] es = ap (λ (z : Bool). cond z [] (suc n ∷ [])) (next_not_zero n)
shift_numbers n k t (u ∷ us) es =
    let later : List ℕ = numbers_in (shifts (suc n) (suc k) (u ∷ us) (drop 1 es)) in
    ap (λ (z : Bool). cond z later later) (next_not_zero n) ∙ shift_numbers n (suc k) u us (drop 1 es)

scan_numbers : (front back : List Bool) (n : ℕ) (ts : List Bool) (es : List (Option Bool)) → 0 < length ts
    → numbers_in (map no_shift front ++ (shifts (suc n) 0 ts es ++ map no_shift back)) ≡ suc n ∷ []
scan_numbers front back n [] es some = absurd (omega (arith, some))
scan_numbers front back n (t ∷ ts) es some =
    let scan = shifts (suc n) 0 (t ∷ ts) es in
    let last = map no_shift back in
    after_none (map no_shift front) (scan ++ last) (quiet front)
    ∙ joined scan last
    ∙ ap (λ (l : List ℕ). l ++ numbers_in last) (shift_numbers n 0 t ts es)
    ∙ ap (λ (l : List ℕ). suc n ∷ l) (quiet back)

-- ---- all commands

scan_then : (from : Stable) (ps rest : List Pins) (n : ℕ) (ns : List ℕ) → numbers_in ps ≡ suc n ∷ []
    → numbers_in rest ≡ ns → numbers_in (to_idle from ++ (ps ++ rest)) ≡ suc n ∷ ns
scan_then from ps rest n ns one later =
    after_none (to_idle from) (ps ++ rest) (quiet_idle from)
    ∙ joined ps rest
    ∙ ap (λ (l : List ℕ). l ++ numbers_in rest) one
    ∙ ap (λ (l : List ℕ). suc n ∷ l) later

all_numbers : (ir dr : LastScan) (from : Stable) (n : ℕ) (cs : List SeenCommand) → HaveBits ir dr cs
    → numbers_in (pins_with ir dr from n cs) ≡ counted n (scans_in cs)
all_numbers ir dr from n [] h = refl
all_numbers ir dr from n (SIR s ∷ cs) h =
    let p : Played = played ir s in
    scan_then from (sir_pins (suc n) p)
    (pins_with (after_scan ir s) dr InIdle (suc n) cs) n (counted (suc n) (scans_in cs))
    (scan_numbers (true ∷ true ∷ false ∷ false ∷ []) (true ∷ false ∷ []) n p.tdi p.expects h.0)
    (all_numbers (after_scan ir s) dr InIdle (suc n) cs h.1)
all_numbers ir dr from n (SDR s ∷ cs) h =
    let p : Played = played dr s in
    scan_then from (sdr_pins (suc n) p)
    (pins_with ir (after_scan dr s) InIdle (suc n) cs) n (counted (suc n) (scans_in cs))
    (scan_numbers (true ∷ false ∷ false ∷ []) (true ∷ false ∷ []) n p.tdi p.expects h.0)
    (all_numbers ir (after_scan dr s) InIdle (suc n) cs h.1)
all_numbers ir dr from n (Reset ∷ cs) h =
    after_none (replicate 5 (no_shift true)) (pins_with ir dr InReset n cs) (quiet_run 5 true)
    ∙ all_numbers ir dr InReset n cs h
all_numbers ir dr from n (Idle ∷ cs) h =
    after_none (to_idle from) (pins_with ir dr InIdle n cs) (quiet_idle from)
    ∙ all_numbers ir dr InIdle n cs h
all_numbers ir dr from n (Run m ∷ cs) h =
    after_none (to_idle from) (replicate m (no_shift false) ++ pins_with ir dr InIdle n cs) (quiet_idle from)
    ∙ after_none (replicate m (no_shift false)) (pins_with ir dr InIdle n cs) (quiet_run m false)
    ∙ all_numbers ir dr InIdle n cs h

pub scans_are_numbered : ScansAreNumbered
scans_are_numbered chip from commands s h =
    numbers_are chip (pins_with no_scan no_scan from 0 commands) s
    ∙ all_numbers no_scan no_scan from 0 commands h
