-- What is read of a command is a scan exactly where its first word says so.
use Rattle.std.proofs.Common.{◌≡◌, ℕ, Bool, true, false, cond, Option, Some, None, Result, Ok, Err, List, []}
use Rattle.std.proofs.Common.{◌∷◌, refl, sym, subst}
use Rattle.std.specs.Prelude.{◌||◌, ◌==◌, codes}
use Rattle.std.specs.Option.{option_map}
use Rattle.svf_writer.specs.SeenCommands.{SIR, SDR, Reset, Idle, Run, SeenCommand, SeenScan}
use Rattle.svf_reader.specs.Texts.{after_word, words}
use Rattle.svf_reader.specs.Commands.{Parts, SeenParsed, Scans, ToReset, ToIdle, Runs, NoEffect}
use Rattle.svf_reader.specs.Commands.{command_of_words, cycles, end_states, headers, is_frequency, is_one_of}
use Rattle.svf_reader.specs.Commands.{is_scan, is_trst, eq_ignore_case, left_out, no_effect_if, no_parts}
use Rattle.svf_reader.specs.Commands.{number}
use Rattle.svf_reader.specs.Commands.{parsed_by, parts, run_test, scan, scan_of, state, words_are}
use Rattle.svf_reader.specs.Meaning.{Cause, SvfLimit, HexWide, TdiMissing, Step, effect_of, if_parsed}
use Rattle.svf_reader.specs.Meaning.{read_command, scan_command, scan_with, scanned, unless_left_out}

-- ---- what a command says

abbrev is_scan_command : SeenCommand → Bool
is_scan_command (SIR s) = true
is_scan_command (SDR s) = true
is_scan_command Reset = false
is_scan_command Idle = false
is_scan_command (Run n) = false

-- a scan, of whichever register, becomes a command that scans
abbrev Says : Bool → Option SeenParsed → Type 0
Says true None = Unit {0}
Says true (Some (Scans register len p)) = (s : SeenScan) → is_scan_command (scan_command register s) ≡ true
Says true (Some ToReset) = ⊥
Says true (Some ToIdle) = ⊥
Says true (Some (Runs n)) = ⊥
Says true (Some NoEffect) = ⊥
Says false None = Unit {0}
Says false (Some (Scans register len p)) = ⊥
Says false (Some ToReset) = Unit {0}
Says false (Some ToIdle) = Unit {0}
Says false (Some (Runs n)) = Unit {0}
Says false (Some NoEffect) = Unit {0}

either_says : (b : Bool) (x y : Option SeenParsed) → Says false x → Says false y → Says false (cond b x y)
either_says true x y hx hy = hx
either_says false x y hx hy = hy

effect_says : (b : Bool) → Says false (no_effect_if b)
effect_says true = tt
effect_says false = tt

-- the type of the register that a scan goes through has no name here
some_says : (b : Bool) (register : _) (len : ℕ) (p : Option Parts)
    → ((s : SeenScan) → is_scan_command (scan_command register s) ≡ true)
    → Says true (cond b None (option_map (Scans register len) p))
some_says true register len p h = tt
some_says false register len None h = tt
some_says false register len (Some p) h = h

number_says : (register : _) (n : Option ℕ) (p : Option Parts)
    → ((s : SeenScan) → is_scan_command (scan_command register s) ≡ true) → Says true (scan_of register n p)
number_says register None p h = tt
number_says register (Some len) p h = some_says (len == 0) register len p h

words_say : (register : _) (ws : List (List ℕ))
    → ((s : SeenScan) → is_scan_command (scan_command register s) ≡ true) → Says true (scan register ws)
unfolding scan
words_say register [] h = tt
words_say register (n ∷ ws) h = number_says register (number n) (parts 4 no_parts ws) h

state_says : (ws : List (List ℕ)) → Says false (state ws)
unfolding state
state_says ws =
    either_says (words_are (codes "RESET" ∷ []) ws) (Some ToReset)
    (cond (words_are (codes "IDLE" ∷ []) ws) (Some ToIdle) None) tt
    (either_says (words_are (codes "IDLE" ∷ []) ws) (Some ToIdle) None tt tt)

runs_say : (n : Option ℕ) → Says false (option_map Runs n)
runs_say None = tt
runs_say (Some n) = tt

cycles_say : (ws : List (List ℕ)) → Says false (cycles ws)
unfolding cycles
cycles_say [] = tt
cycles_say (n ∷ ws) =
    either_says (words_are (codes "TCK" ∷ []) ws || words_are (codes "TCK" ∷ codes "ENDSTATE" ∷ codes "IDLE"
    ∷ []) ws) (option_map Runs (number n)) None (runs_say (number n)) tt

run_says : (ws : List (List ℕ)) → Says false (run_test ws)
unfolding run_test
run_says [] = tt
run_says (w ∷ ws) = either_says (eq_ignore_case (codes "IDLE") w) (cycles ws)
    (cycles (w ∷ ws)) (cycles_say ws) (cycles_say (w ∷ ws))

first_says : (a b : Bool) (x y z : Option SeenParsed) → Says true x → Says true y
    → Says false z → Says (a || b) (cond a x (cond b y z))
first_says true b x y z hx hy hz = hx
first_says false true x y z hx hy hz = hy
first_says false false x y z hx hy hz = hz

word_says : (w : List ℕ) (ws : List (List ℕ)) → Says (is_scan (w ∷ ws)) (parsed_by w ws)
unfolding parsed_by
word_says w ws =
    let x8 : Option SeenParsed = cond (eq_ignore_case (codes "TRST") w) (no_effect_if (is_trst ws)) None in
    let x7 : Option SeenParsed = cond (eq_ignore_case (codes "FREQUENCY") w) (no_effect_if (is_frequency ws)) x8 in
    let x6 : Option SeenParsed =
    cond (is_one_of end_states w) (no_effect_if (words_are (codes "IDLE" ∷ []) ws)) x7 in
    let x5 : Option SeenParsed = cond (eq_ignore_case (codes "RUNTEST") w) (run_test ws) x6 in
    let x4 : Option SeenParsed = cond (eq_ignore_case (codes "STATE") w) (state ws) x5 in
    let x3 : Option SeenParsed =
    cond (is_one_of headers w) (no_effect_if (words_are (codes "0" ∷ []) ws)) x4 in
    let h8 : Says false x8 = either_says (eq_ignore_case (codes "TRST") w)
    (no_effect_if (is_trst ws)) None (effect_says (is_trst ws)) tt in
    let h7 : Says false x7 = either_says (eq_ignore_case (codes "FREQUENCY") w)
    (no_effect_if (is_frequency ws)) x8 (effect_says (is_frequency ws)) h8 in
    let h6 : Says false x6 = either_says (is_one_of end_states w) (no_effect_if
    (words_are (codes "IDLE" ∷ []) ws)) x7 (effect_says (words_are (codes "IDLE" ∷ []) ws)) h7 in
    let h5 : Says false x5 = either_says (eq_ignore_case (codes "RUNTEST") w) (run_test ws) x6 (run_says ws) h6 in
    let h4 : Says false x4 = either_says (eq_ignore_case (codes "STATE") w) (state ws) x5 (state_says ws) h5 in
    let h3 : Says false x3 = either_says (is_one_of headers w)
    (no_effect_if (words_are (codes "0" ∷ []) ws)) x4 (effect_says (words_are (codes "0" ∷ []) ws)) h4 in
    first_says (eq_ignore_case (codes "SIR") w) (eq_ignore_case (codes "SDR") w) _ _ x3
    (words_say _ ws (λ s. refl)) (words_say _ ws (λ s. refl)) h3

says : (ws : List (List ℕ)) → Says (is_scan ws) (command_of_words ws)
unfolding command_of_words
says [] = tt
says (w ∷ ws) = word_says w ws

-- ---- what it does

abbrev pub Effect : Bool → Option SeenCommand → Type 0
Effect true None = ⊥
Effect true (Some (SIR s)) = Unit {0}
Effect true (Some (SDR s)) = Unit {0}
Effect true (Some Reset) = ⊥
Effect true (Some Idle) = ⊥
Effect true (Some (Run n)) = ⊥
Effect false None = Unit {0}
Effect false (Some (SIR s)) = ⊥
Effect false (Some (SDR s)) = ⊥
Effect false (Some Reset) = Unit {0}
Effect false (Some Idle) = Unit {0}
Effect false (Some (Run n)) = Unit {0}

no_error : {E X : Type 0} (x : Result X E) (b : Bool) (e : E) (y : X) → cond b (Err e) x ≡ Ok y → x ≡ Ok y
no_error x true e y h = absurd (cc)
no_error x false e y h = h

clocked : (scans : Bool) (x step : Step) (b : Bool) → Effect scans x.0
    → cond b (let done : Result Step Cause = Ok x in done) (Err SvfLimit) ≡ Ok step → Effect scans step.0
clocked scans x step true h e =
    let same : step ≡ x = cc in
    subst (λ (s : Step). Effect scans s.0) (sym same) h
clocked scans x step false h e = absurd (cc)

by_test : (c : SeenCommand) → is_scan_command c ≡ true → Effect true (Some c)
by_test (SIR s) h = tt
by_test (SDR s) h = tt
by_test Reset h = absurd (cc)
by_test Idle h = absurd (cc)
by_test (Run n) h = absurd (cc)

has_effect : (k : Step) (scans : Bool) (s : SeenParsed) (step : Step) → Says scans (Some s)
    → effect_of k.1 s ≡ Ok step → Effect scans step.0
unfolding effect_of scanned
has_effect k true (Scans register len p) step h e =
    let narrow = no_error _ _ SvfLimit step e in
    let fits = no_error _ _ HexWide step narrow in
    let there = no_error _ _ TdiMissing step fits in
    clocked true _ step _ (by_test (scan_command register (scan_with len p)) (h (scan_with len p))) there
has_effect k true ToReset step h e = absurd h
has_effect k true ToIdle step h e = absurd h
has_effect k true (Runs n) step h e = absurd h
has_effect k true NoEffect step h e = absurd h
has_effect k false (Scans register len p) step h e = absurd h
has_effect k false ToReset step h e = clocked false _ step _ tt e
has_effect k false ToIdle step h e = clocked false _ step _ tt e
has_effect k false (Runs n) step h e = clocked false _ step _ tt e
has_effect k false NoEffect step h e =
    let same : step ≡ (None, k.1) = cc in
    subst (λ (s : Step). Effect false s.0) (sym same) tt

parsed_effect : (k : Step) (scans : Bool) (s : Option SeenParsed) (step : Step) → Says scans s
    → if_parsed k.1 s ≡ Ok step → Effect scans step.0
parsed_effect k scans None step h e = absurd (cc)
parsed_effect k scans (Some s) step h e = has_effect k scans s step h e

unless_effect : (k : Step) (text : List ℕ) (word : Option (List ℕ)) (step : Step)
    → unless_left_out k.1 true text word ≡ Ok step → Effect (is_scan (words text)) step.0
unless_effect k text (Some word) step e = absurd (cc)
unless_effect k text None step e =
    parsed_effect k (is_scan (words text)) (command_of_words (words text)) step (says (words text)) e

-- a command with its `;`, after what is kept of another one
pub read_effect : (k : Step) (text : List ℕ) (step : Step)
    → read_command k.1 true text ≡ Ok step → Effect (is_scan (words text)) step.0
unfolding read_command
read_effect k text step e = unless_effect k text (left_out (words text) (after_word text)) step e
