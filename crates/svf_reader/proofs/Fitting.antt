-- What a command comes to can follow the commands before it.
use Rattle.std.proofs.Common.{◌≡◌, ℕ, ◌+◌, ◌≤◌, Bool, true, false, not, cond, List, [], ◌∷◌, ◌++◌, length}
use Rattle.std.proofs.Common.{replicate, refl, ap, subst, arith, Option, Some, None, Result, Ok, Err}
use Rattle.std.specs.Prelude.{◌==◌, ◌&&◌, ◌||◌, codes}
use Rattle.std.specs.Option.{option_map, is_some}
use Rattle.std.proofs.lemmas.Bool.Decides.{nat_tests}
use Rattle.std.proofs.lemmas.List.{length-take, length-append, length-replicate}
use Rattle.svf_writer.specs.SeenCommands.{SeenCommand, Reset, Idle, Run}
use Rattle.svf_writer.specs.Fits.{HasLength, TakesTdi, FitsAfter, AreFitAfter}
use Rattle.svf_reader.specs.declared.parsed.Register.{Register}
use Rattle.svf_reader.specs.declared.parsed.Register.TheVariants.{Instruction, Data}
use Rattle.svf_reader.specs.declared.so_far.ReadSoFar.{ReadSoFar}
use Rattle.svf_reader.specs.Texts.{words, after_word}
use Rattle.svf_reader.specs.Values.{fitted, hex_bits}
use Rattle.svf_reader.specs.Commands.{Parts, SeenParsed, Scans, ToReset, ToIdle, Runs, NoEffect}
use Rattle.svf_reader.specs.Commands.{eq_ignore_case}
use Rattle.svf_reader.specs.Commands.{is_one_of, words_are, number, parts, no_parts, scan_of, scan, state}
use Rattle.svf_reader.specs.Commands.{cycles, run_test, is_frequency, is_trst, no_effect_if, headers}
use Rattle.svf_reader.specs.Commands.{end_states, parsed_by, command_of_words, left_out}
use Rattle.svf_reader.specs.Meaning.{Cause, SvfSyntax, SvfLimit, HexWide, TdiMissing, Step, last_length}
use Rattle.svf_reader.specs.Meaning.{with_length, with_leaving_clock, scan_clocks, emit_within_clock_limit}
use Rattle.svf_reader.specs.Meaning.{part_of, scan_with, scan_command, other_length, tdi_missing, scanned}
use Rattle.svf_reader.specs.Meaning.{effect_of, if_parsed, unless_left_out, read_command, listed}

cond_ok : {X E : Type 0} (b : Bool) (e : E) (x : Result X E) (y : X)
    → cond b (Err e) x ≡ Ok y → (b ≡ false) × (x ≡ Ok y)
cond_ok true e x y h = absurd (cc)
cond_ok false e x y h = (refl, h)

cond_ok' : {X E : Type 0} (b : Bool) (e : E) (x : Result X E) (y : X)
    → cond b x (Err e) ≡ Ok y → (b ≡ true) × (x ≡ Ok y)
cond_ok' true e x y h = (refl, h)
cond_ok' false e x y h = absurd (cc)

-- ---- scans have at least one bit

abbrev IsSized : Option SeenParsed → Type 0
IsSized None = Unit {0}
IsSized (Some (Scans register len p)) = 1 ≤ len
IsSized (Some ToReset) = Unit {0}
IsSized (Some ToIdle) = Unit {0}
IsSized (Some (Runs n)) = Unit {0}
IsSized (Some NoEffect) = Unit {0}

either_sized : (b : Bool) (x y : Option SeenParsed) → IsSized x → IsSized y → IsSized (cond b x y)
either_sized true x y hx hy = hx
either_sized false x y hx hy = hy

so_sized : (b : Bool) → IsSized (no_effect_if b)
so_sized true = tt
so_sized false = tt

some_sized : (register : Register) (len : ℕ) (b : Bool) (p : Option Parts) → (len == 0) ≡ b
    → IsSized (cond b None (option_map (Scans register len) p))
some_sized register len true p e = tt
some_sized register len false None e = tt
some_sized register len false (Some p) e = grind (arith, nat_tests)

scan_of_sized : (register : Register) (n : Option ℕ) (p : Option Parts) → IsSized (scan_of register n p)
scan_of_sized register None p = tt
scan_of_sized register (Some len) p = some_sized register len (len == 0) p refl

scan_sized : (register : Register) (ws : List (List ℕ)) → IsSized (scan register ws)
unfolding scan
scan_sized register [] = tt
scan_sized register (n ∷ ws) = scan_of_sized register (number n) (parts 4 no_parts ws)

state_sized : (ws : List (List ℕ)) → IsSized (state ws)
unfolding state
state_sized ws =
    either_sized (words_are (codes "RESET" ∷ []) ws) (Some ToReset)
    (cond (words_are (codes "IDLE" ∷ []) ws) (Some ToIdle) None) tt
    (either_sized (words_are (codes "IDLE" ∷ []) ws) (Some ToIdle) None tt tt)

runs_sized : (n : Option ℕ) → IsSized (option_map Runs n)
runs_sized None = tt
runs_sized (Some n) = tt

cycles_sized : (ws : List (List ℕ)) → IsSized (cycles ws)
unfolding cycles
cycles_sized [] = tt
cycles_sized (n ∷ ws) = either_sized
    (words_are (codes "TCK" ∷ []) ws || words_are (codes "TCK" ∷ codes "ENDSTATE" ∷ codes "IDLE" ∷ []) ws)
    (option_map Runs (number n)) None (runs_sized (number n)) tt

run_test_sized : (ws : List (List ℕ)) → IsSized (run_test ws)
unfolding run_test
run_test_sized [] = tt
run_test_sized (w ∷ ws) = either_sized (eq_ignore_case (codes "IDLE") w) (cycles ws) (cycles (w ∷ ws))
    (cycles_sized ws) (cycles_sized (w ∷ ws))

parsed_by_sized : (w : List ℕ) (ws : List (List ℕ)) → IsSized (parsed_by w ws)
unfolding parsed_by
parsed_by_sized w ws =
    let x8 : Option SeenParsed = cond (eq_ignore_case (codes "TRST") w) (no_effect_if (is_trst ws)) None in
    let x7 : Option SeenParsed = cond (eq_ignore_case (codes "FREQUENCY") w) (no_effect_if (is_frequency ws)) x8 in
    let x6 : Option SeenParsed =
    cond (is_one_of end_states w) (no_effect_if (words_are (codes "IDLE" ∷ []) ws)) x7 in
    let x5 : Option SeenParsed = cond (eq_ignore_case (codes "RUNTEST") w) (run_test ws) x6 in
    let x4 : Option SeenParsed = cond (eq_ignore_case (codes "STATE") w) (state ws) x5 in
    let x3 : Option SeenParsed =
    cond (is_one_of headers w) (no_effect_if (words_are (codes "0" ∷ []) ws)) x4 in
    let x2 : Option SeenParsed = cond (eq_ignore_case (codes "SDR") w) (scan Data ws) x3 in
    let h8 : IsSized x8 =
    either_sized (eq_ignore_case (codes "TRST") w) (no_effect_if (is_trst ws)) None (so_sized (is_trst ws)) tt in
    let h7 : IsSized x7 = either_sized (eq_ignore_case (codes "FREQUENCY") w)
    (no_effect_if (is_frequency ws)) x8 (so_sized (is_frequency ws)) h8 in
    let h6 : IsSized x6 = either_sized (is_one_of end_states w) (no_effect_if
    (words_are (codes "IDLE" ∷ []) ws)) x7 (so_sized (words_are (codes "IDLE" ∷ []) ws)) h7 in
    let h5 : IsSized x5 =
    either_sized (eq_ignore_case (codes "RUNTEST") w) (run_test ws) x6 (run_test_sized ws) h6 in
    let h4 : IsSized x4 = either_sized (eq_ignore_case (codes "STATE") w) (state ws) x5 (state_sized ws) h5 in
    let h3 : IsSized x3 = either_sized (is_one_of headers w) (no_effect_if (words_are (codes "0" ∷ []) ws)) x4
    (so_sized (words_are (codes "0" ∷ []) ws)) h4 in
    let h2 : IsSized x2 = either_sized (eq_ignore_case (codes "SDR") w) (scan Data ws) x3 (scan_sized Data ws) h3 in
    either_sized (eq_ignore_case (codes "SIR") w) (scan Instruction ws) x2 (scan_sized Instruction ws) h2

parsed_sized : (ws : List (List ℕ)) → IsSized (command_of_words ws)
unfolding command_of_words
parsed_sized [] = tt
parsed_sized (w ∷ ws) = parsed_by_sized w ws

-- ---- scans fit

fitted_length : (len : ℕ) (bits : List Bool) → length (fitted len bits) ≡ len
unfolding fitted
fitted_length len bits = omega (
  arith,
  length-take len (bits ++ replicate len false),
  length-append bits (replicate len false),
  length-replicate len false,
)

part_length : (len : ℕ) (digits : Option (List ℕ)) → HasLength len (part_of len digits)
part_length len None = tt
part_length len (Some ds) = fitted_length len (hex_bits ds)

same_length : (last : Option ℕ) (len : ℕ) → other_length last len ≡ false → last ≡ Some len
same_length None len e = absurd (cc)
same_length (Some n) len e =
    let same : n ≡ len = grind (arith, nat_tests) in ap (λ k. let o : Option ℕ = Some k in o) same

takes : (last : Option ℕ) (len : ℕ) (digits : Option (List ℕ))
    → (not (is_some digits) && other_length last len) ≡ false → TakesTdi last (part_of len digits) len
takes last len None e = same_length last len e
takes last len (Some ds) e = tt

scan_fits : (last : Option ℕ) (len : ℕ) (p : Parts) → 1 ≤ len
    → tdi_missing last len p ≡ false → FitsAfter last (scan_with len p)
scan_fits last len p some there = record {
  some = some;
  tdi = part_length len p.tdi;
  tdo = part_length len p.tdo;
  mask = part_length len p.mask;
  smask = part_length len p.smask;
  taken = takes last len p.tdi there;
}

-- ---- a command fits

abbrev pub Follows : ReadSoFar → Step → Type 0
Follows kept step = (more : List SeenCommand) → AreFitAfter step.1.ir step.1.dr more
    → AreFitAfter kept.ir kept.dr (listed step.0 ++ more)

follows_at : (kept : ReadSoFar) (x y : Step) → Follows kept x
    → (let ok : Result Step Cause = Ok x in ok ≡ Ok y) → Follows kept y
follows_at kept x y h e = let same : x ≡ y = cc in subst (λ (s : Step). Follows kept s) same h

clocked_follows : (kept kept' : ReadSoFar) (in_reset : Bool) (n : ℕ) (command : SeenCommand) (step : Step)
    → Follows kept (Some command, kept')
    → emit_within_clock_limit kept' in_reset n command ≡ Ok step → Follows kept step
clocked_follows kept kept' in_reset n command step h e =
    follows_at kept (Some command, record kept' { in_reset = in_reset; clocks = kept'.clocks + n }) step h
    (cond_ok' _ SvfLimit _ step e).1

scan_follows : (kept : ReadSoFar) (register : Register) (len : ℕ) (p : Parts)
    → FitsAfter (last_length register kept) (scan_with len p)
    → Follows kept (Some (scan_command register (scan_with len p)), with_length register len kept)
scan_follows kept Instruction len p fits = λ more h. (fits, h)
scan_follows kept Data len p fits = λ more h. (fits, h)

scanned_follows : (kept : ReadSoFar) (register : Register) (len : ℕ) (p : Parts) (step : Step) → 1 ≤ len
    → scanned kept register len p ≡ Ok step → Follows kept step
unfolding scanned
scanned_follows kept register len p step some e =
    let e1 = (cond_ok _ SvfLimit _ step e).1 in
    let e2 = (cond_ok _ HexWide _ step e1).1 in
    let e3 = cond_ok _ TdiMissing _ step e2 in
    clocked_follows kept (with_length register len kept) false
    (with_leaving_clock kept (scan_clocks register len)) (scan_command register (scan_with len p)) step
    (scan_follows kept register len p (scan_fits (last_length register kept) len p some e3.0)) e3.1

done_follows : (kept : ReadSoFar) (s : SeenParsed) (step : Step) → IsSized (Some s)
    → effect_of kept s ≡ Ok step → Follows kept step
unfolding effect_of
done_follows kept (Scans register len p) step some e = scanned_follows kept register len p step some e
done_follows kept ToReset step some e = clocked_follows kept kept true 5 Reset step (λ more h. h) e
done_follows kept ToIdle step some e =
    clocked_follows kept kept false (with_leaving_clock kept 0) Idle step (λ more h. h) e
done_follows kept (Runs n) step some e =
    clocked_follows kept kept false (with_leaving_clock kept n) (Run n) step (λ more h. h) e
done_follows kept NoEffect step some e = follows_at kept (None, kept) step (λ more h. h) e

if_parsed_follows : (kept : ReadSoFar) (s : Option SeenParsed) (step : Step) → IsSized s
    → if_parsed kept s ≡ Ok step → Follows kept step
if_parsed_follows kept None step some e = absurd (cc)
if_parsed_follows kept (Some s) step some e = done_follows kept s step some e

unless_follows : (kept : ReadSoFar) (ended : Bool) (text : List ℕ) (word : Option (List ℕ)) (step : Step)
    → unless_left_out kept ended text word ≡ Ok step → Follows kept step
unless_follows kept ended text (Some word) step e = absurd (cc)
unless_follows kept ended text None step e =
    if_parsed_follows kept (command_of_words (words text)) step
    (parsed_sized (words text)) (cond_ok' ended SvfSyntax _ step e).1

pub comes_follows : (kept : ReadSoFar) (ended : Bool) (text : List ℕ) (step : Step)
    → read_command kept ended text ≡ Ok step → Follows kept step
unfolding read_command
comes_follows kept ended text step e =
    unless_follows kept ended text (left_out (words text) (after_word text)) step e
