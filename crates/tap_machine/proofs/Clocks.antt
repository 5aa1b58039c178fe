-- As many pins as clocks.
use Rattle.std.proofs.Common.{◌≡◌, ℕ, suc, ◌+◌, Bool, true, false, List, [], ◌∷◌, ◌++◌, length, Option, Some}
use Rattle.std.proofs.Common.{None, refl, ap, sym, ◌∙◌, arith, length-append}
use Rattle.std.specs.Prelude.{map, replicate, unwrap_or}
use Rattle.std.proofs.lemmas.List.{length-replicate}
use Rattle.svf_writer.specs.SeenCommands.{SIR, SDR, Reset, Idle, Run, SeenCommand, SeenScan}
use Rattle.svf_writer.specs.Clocks.{with_leave, clocks_from}
use Rattle.svf_writer.specs.Fits.{HasLength, TakesTdi, FitsAfter, AreFitAfter}
use Rattle.tap_machine.specs.declared.Stable.{Stable}
use Rattle.tap_machine.specs.declared.Stable.TheVariants.{Reset as InReset, Idle as InIdle}
use Rattle.tap_machine.specs.Clocks.{is_reset, PinsAreClocks}
use Rattle.tap_machine.specs.Play.{LastScan, Played, no_shift, shifts, sdr_pins, sir_pins, to_idle, pins_with}
use Rattle.tap_machine.specs.Play.{played, after_scan, no_scan}
pub use Rattle.svf_writer.proofs.GivenScans.{at_least}

length-shifts : (scan k : ℕ) (ts : List Bool) (es : List (Option Bool))
    → length (shifts scan k ts es) ≡ length ts
length-shifts scan k [] es = refl
length-shifts scan k (t ∷ ts) es = ap suc (length-shifts scan (suc k) ts _)

pub length-sdr_pins : (scan : ℕ) (p : Played) → length (sdr_pins scan p) ≡ length p.tdi + 5
length-sdr_pins scan p =
    omega (
      arith,
      length-append (shifts scan 0 p.tdi p.expects) (map no_shift (true ∷ false ∷ [])),
      length-shifts scan 0 p.tdi p.expects,
    )

pub length-sir_pins : (scan : ℕ) (p : Played) → length (sir_pins scan p) ≡ length p.tdi + 6
length-sir_pins scan p =
    omega (
      arith,
      length-append (shifts scan 0 p.tdi p.expects) (map no_shift (true ∷ false ∷ [])),
      length-shifts scan 0 p.tdi p.expects,
    )

length-to_idle : (from : Stable) (n : ℕ) → length (to_idle from) + n ≡ with_leave (is_reset from) n
length-to_idle InReset n = omega arith
length-to_idle InIdle n = omega arith

-- what is held of the last scan of a kind has its length
abbrev IsKept : Option ℕ → LastScan → Type 0
IsKept last held = (n : ℕ) → last ≡ Some n → length held.tdi ≡ n

tdi_long : (last : Option ℕ) (held : LastScan) (o : Option (List Bool)) (n : ℕ) → IsKept last held
    → HasLength n o → TakesTdi last o n → length (unwrap_or o held.tdi) ≡ n
tdi_long last held None n is long taken = is n taken
tdi_long last held (Some bits) n is long taken = long

long_now : (last : Option ℕ) (held : LastScan) (s : SeenScan) → IsKept last held → FitsAfter last s
    → length (unwrap_or s.tdi held.tdi) ≡ s.len
long_now last held s is fits = tdi_long last held s.tdi s.len is fits.tdi fits.taken

number_or : Option ℕ → ℕ
number_or None = 0
number_or (Some n) = n

same_number : (m n : ℕ) → Some m ≡ Some n → m ≡ n
unfolding number_or
same_number m n e = ap number_or e

held_now : (last : Option ℕ) (held : LastScan) (s : SeenScan) → IsKept last held → FitsAfter last s
    → IsKept (Some s.len) (after_scan held s)
held_now last held s is fits = λ n e. long_now last held s is fits ∙ same_number s.len n e

clocks_are : (cs : List SeenCommand) (li ld : Option ℕ) (ir dr : LastScan) (from : Stable) (scans : ℕ)
    → AreFitAfter li ld cs → IsKept li ir → IsKept ld dr
    → clocks_from (is_reset from) cs ≡ length (pins_with ir dr from scans cs)
clocks_are [] li ld ir dr from scans fit hi hd = refl
clocks_are (SIR s ∷ cs) li ld ir dr from scans fit hi hd =
    let rest = pins_with (after_scan ir s) dr InIdle (suc scans) cs in
    let here = sir_pins (suc scans) (played ir s) in
    let later = clocks_are cs (Some s.len) ld (after_scan ir s) dr InIdle
    (suc scans) fit.1 (held_now li ir s hi fit.0) hd in
    omega (
      arith,
      length-append (to_idle from) (here ++ rest),
      length-append here rest,
      length-sir_pins
          (suc scans) (played ir s),
      long_now li ir s hi fit.0,
      length-to_idle from (s.len + 6),
      later,
    )
clocks_are (SDR s ∷ cs) li ld ir dr from scans fit hi hd =
    let rest = pins_with ir (after_scan dr s) InIdle (suc scans) cs in
    let here = sdr_pins (suc scans) (played dr s) in
    let later = clocks_are cs li (Some s.len) ir (after_scan dr s) InIdle
    (suc scans) fit.1 hi (held_now ld dr s hd fit.0) in
    omega (
      arith,
      length-append (to_idle from) (here ++ rest),
      length-append here rest,
      length-sdr_pins
          (suc scans) (played dr s),
      long_now ld dr s hd fit.0,
      length-to_idle from (s.len + 5),
      later,
    )
clocks_are (Reset ∷ cs) li ld ir dr from scans fit hi hd =
    omega (arith, clocks_are cs li ld ir dr InReset scans fit hi hd)
clocks_are (Idle ∷ cs) li ld ir dr from scans fit hi hd =
    omega (
      arith,
      length-append (to_idle from) (pins_with ir dr InIdle scans cs),
      length-to_idle from 0,
      clocks_are cs li ld ir dr InIdle scans fit hi hd,
    )
clocks_are (Run n ∷ cs) li ld ir dr from scans fit hi hd =
    let rest = pins_with ir dr InIdle scans cs in
    let here = replicate n (no_shift false) in
    omega (
      arith,
      length-append (to_idle from) (here ++ rest),
      length-append here rest,
      length-replicate n
          (no_shift false),
      length-to_idle from n,
      clocks_are cs li ld ir dr InIdle scans fit hi hd,
    )

nothing_held : IsKept None no_scan
nothing_held n e = absurd (let none : None ≡ Some n = e in cc)

pub pins_are_clocks : PinsAreClocks
pins_are_clocks cs from scans fit =
    sym (clocks_are cs None None no_scan no_scan from scans fit nothing_held nothing_held)
