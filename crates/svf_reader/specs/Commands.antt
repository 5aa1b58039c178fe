-- The commands of SVF that are read here, as lists of words (Serial Vector Format, revision E). A word says a
-- name in either case.
use Rattle.std.specs.Prelude.{ℕ, zero, suc, ◌+◌, ◌-◌, ◌*◌, ◌==◌, nat_le, Bool, true, false, ◌&&◌, ◌||◌, cond}
use Rattle.std.specs.Prelude.{List, [], ◌∷◌, ◌++◌, length, Option, Some, None, codes}
use Rattle.std.specs.Option.{option_map}
use Rattle.std.specs.List.{list_all, list_any}
use Rattle.std.specs.Str.{bytes_eq, str_eq_ignore_ascii_case}
use Rattle.std.specs.Char.{is_ascii_digit, is_ascii_hexdigit}
use Rattle.svf_reader.specs.Texts.{words, runs}
use Rattle.svf_reader.specs.declared.parsed.Register.{Register}
use Rattle.svf_reader.specs.declared.parsed.Register.TheVariants.{Instruction, Data}

-- ---- words

abbrev pub eq_ignore_case : List ℕ → List ℕ → Bool
eq_ignore_case name w = str_eq_ignore_ascii_case w name

abbrev pub is_one_of : List (List ℕ) → List ℕ → Bool
is_one_of names w = list_any (λ name. eq_ignore_case name w) names

-- whether the words are exactly these
abbrev pub words_are : List (List ℕ) → List (List ℕ) → Bool
words_are [] [] = true
words_are [] (w ∷ ws) = false
words_are (name ∷ names) [] = false
words_are (name ∷ names) (w ∷ ws) = eq_ignore_case name w && words_are names ws

-- the number of decimal digits that come after those of n
abbrev pub number_from : ℕ → List ℕ → ℕ
number_from n [] = n
number_from n (b ∷ bs) = number_from (10 * n + (b - 48)) bs

-- the number of 1 to 10 digits
abbrev pub number : List ℕ → Option ℕ
number w = cond (nat_le 1 (length w) && (nat_le (length w) 10 && list_all is_ascii_digit w))
    (Some (number_from 0 w)) None

-- ---- scans

-- the hexadecimal digits of each part that is in a scan
pub record Parts : Type 0 where
  pub tdi : Option (List ℕ)
  pub tdo : Option (List ℕ)
  pub mask : Option (List ℕ)
  pub smask : Option (List ℕ)

abbrev pub no_parts : Parts
no_parts = record { tdi = None; tdo = None; mask = None; smask = None }

abbrev pub is_open : List ℕ → Bool
is_open w = bytes_eq w (codes "(")

abbrev pub is_close : List ℕ → Bool
is_close w = bytes_eq w (codes ")")

-- the words after those of a hexadecimal text and its `)`; `some`: whether a digit of the text comes before
abbrev pub after_hex : Bool → List (List ℕ) → Option (List (List ℕ))
after_hex some [] = None
after_hex some (w ∷ ws) = cond (is_close w) (cond some (Some ws) None)
    (cond (list_all is_ascii_hexdigit w) (after_hex true ws) None)

-- the digits before the `)`
abbrev pub hex_digits : List (List ℕ) → List ℕ
hex_digits [] = []
hex_digits (w ∷ ws) = cond (is_close w) [] (w ++ hex_digits ws)

-- a part, if it doesn't stand there yet
abbrev pub put_part_once : Option (List ℕ) → Parts → Option Parts
put_part_once None p = Some p
put_part_once (Some digits) p = None

abbrev pub with_part : List ℕ → List ℕ → Parts → Option Parts
with_part name digits p =
    cond (eq_ignore_case (codes "TDI") name) (put_part_once p.tdi (record p { tdi = Some digits }))
    (cond (eq_ignore_case (codes "TDO") name) (put_part_once p.tdo (record p { tdo = Some digits }))
    (cond (eq_ignore_case (codes "MASK") name) (put_part_once p.mask (record p { mask = Some digits }))
    (cond (eq_ignore_case (codes "SMASK") name) (put_part_once p.smask (record p { smask = Some digits })) None)))

abbrev pub both : Option Parts → Option (List (List ℕ)) → Option (Parts × List (List ℕ))
both None rest = None
both (Some p) None = None
both (Some p) (Some rest) = Some (p, rest)

-- after a part's name: `(`, one or more hexadecimal digits, and `)`
unfoldable pub one_part : Parts → List ℕ → List (List ℕ) → Option (Parts × List (List ℕ))
one_part p name [] = None
one_part p name (w ∷ ws) =
    cond (is_open w) (both (with_part name (hex_digits ws) p) (after_hex false ws)) None

abbrev pub then_parts : Option (Parts × List (List ℕ)) → (Parts → List (List ℕ) → Option Parts) → Option Parts
then_parts None next = None
then_parts (Some x) next = next x.0 x.1

-- at most n parts
abbrev pub parts : ℕ → Parts → List (List ℕ) → Option Parts
parts n p [] = Some p
parts zero p (name ∷ ws) = None
parts (suc n) p (name ∷ ws) = then_parts (one_part p name ws) (λ q rest. parts n q rest)

-- ---- commands

-- what a command says
pub data SeenParsed : Type 0 where
  Scans : (register : Register) → (len : ℕ) → (parts : Parts) → SeenParsed
  ToReset : SeenParsed
  ToIdle : SeenParsed
  Runs : (cycles : ℕ) → SeenParsed
  NoEffect : SeenParsed

-- N { ( "TDI" | "TDO" | "MASK" | "SMASK" ) "(" hex ")" }, N at least 1, each part at most once
abbrev pub scan_of : Register → Option ℕ → Option Parts → Option SeenParsed
scan_of register None p = None
scan_of register (Some len) p = cond (len == 0) None (option_map (Scans register len) p)

unfoldable pub scan : Register → List (List ℕ) → Option SeenParsed
scan register [] = None
scan register (n ∷ ws) = scan_of register (number n) (parts 4 no_parts ws)

-- "RESET" | "IDLE"
unfoldable pub state : List (List ℕ) → Option SeenParsed
state ws = cond (words_are (codes "RESET" ∷ []) ws) (Some ToReset)
    (cond (words_are (codes "IDLE" ∷ []) ws) (Some ToIdle) None)

-- [ "IDLE" ] N "TCK" [ "ENDSTATE" "IDLE" ]
unfoldable pub cycles : List (List ℕ) → Option SeenParsed
cycles [] = None
cycles (n ∷ ws) =
    cond (words_are (codes "TCK" ∷ []) ws || words_are
    (codes "TCK" ∷ codes "ENDSTATE" ∷ codes "IDLE" ∷ []) ws) (option_map Runs (number n)) None

unfoldable pub run_test : List (List ℕ) → Option SeenParsed
run_test [] = None
run_test (w ∷ ws) = cond (eq_ignore_case (codes "IDLE") w) (cycles ws) (cycles (w ∷ ws))

-- digits, `.`, `E`, `+` and `-`
abbrev pub in_real : ℕ → Bool
in_real b = is_ascii_digit b || (b == 46 || (b == 69 || (b == 101 || (b == 43 || b == 45))))

-- [ real "HZ" ]
unfoldable pub is_frequency : List (List ℕ) → Bool
is_frequency [] = true
is_frequency (r ∷ ws) = list_all in_real r && words_are (codes "HZ" ∷ []) ws

-- "OFF" | "ABSENT" | "Z"
unfoldable pub is_trst : List (List ℕ) → Bool
is_trst ws = words_are (codes "OFF" ∷ []) ws ||
    (words_are (codes "ABSENT" ∷ []) ws || words_are (codes "Z" ∷ []) ws)

abbrev pub no_effect_if : Bool → Option SeenParsed
no_effect_if b = cond b (Some NoEffect) None

abbrev pub headers : List (List ℕ)
headers = codes "HDR" ∷ codes "HIR" ∷ codes "TDR" ∷ codes "TIR" ∷ []

abbrev pub end_states : List (List ℕ)
end_states = codes "ENDDR" ∷ codes "ENDIR" ∷ []

-- a command, by its first word
unfoldable pub parsed_by : List ℕ → List (List ℕ) → Option SeenParsed
parsed_by w ws =
    cond (eq_ignore_case (codes "SIR") w) (scan Instruction ws)
    (cond (eq_ignore_case (codes "SDR") w) (scan Data ws)
    (cond (is_one_of headers w) (no_effect_if (words_are (codes "0" ∷ []) ws))
    (cond (eq_ignore_case (codes "STATE") w) (state ws)
    (cond (eq_ignore_case (codes "RUNTEST") w) (run_test ws)
    (cond (is_one_of end_states w) (no_effect_if (words_are (codes "IDLE" ∷ []) ws))
    (cond (eq_ignore_case (codes "FREQUENCY") w) (no_effect_if (is_frequency ws))
    (cond (eq_ignore_case (codes "TRST") w) (no_effect_if (is_trst ws)) None)))))))

unfoldable pub command_of_words : List (List ℕ) → Option SeenParsed
command_of_words [] = None
command_of_words (w ∷ ws) = parsed_by w ws

-- whether it is a scan, by its first word
abbrev pub is_scan : List (List ℕ) → Bool
is_scan [] = false
is_scan (w ∷ ws) = eq_ignore_case (codes "SIR") w || eq_ignore_case (codes "SDR") w

-- ---- what is left out

abbrev pub any_is_one_of : List (List ℕ) → List (List ℕ) → Bool
any_is_one_of names ws = list_any (is_one_of names) ws

-- pause states, and runs that are counted by another clock or by time
abbrev pub left_out_names : List (List ℕ)
left_out_names = codes "DRPAUSE" ∷ codes "IRPAUSE" ∷ codes "SCK" ∷ codes "SEC" ∷ codes "MAXIMUM" ∷ []

-- the next word is a length that isn't 0
abbrev pub is_length : Option ℕ → Bool
is_length None = false
is_length (Some zero) = false
is_length (Some (suc n)) = true

abbrev pub begins_with_length : List (List ℕ) → Bool
begins_with_length [] = false
begins_with_length (w ∷ ws) = is_length (number w)

abbrev pub begins_with_on : List (List ℕ) → Bool
begins_with_on [] = false
begins_with_on (w ∷ ws) = eq_ignore_case (codes "ON") w

-- the commands that are left out, by the first word and the text after it: HDR, HIR, TDR and TIR of a length,
-- PIO, PIOMAP, TRST ON, paths of states, and what names a pause state or another way to count; states and
-- ways to count are whole runs of bytes that aren't blank, parentheses and all
unfoldable pub is_left_out : List ℕ → List ℕ → Bool
is_left_out w rest =
    cond (is_one_of headers w) (begins_with_length (words rest))
    (cond (is_one_of (codes "PIO" ∷ codes "PIOMAP" ∷ []) w) true
    (cond (eq_ignore_case (codes "TRST") w) (begins_with_on (words rest))
    (cond (eq_ignore_case (codes "STATE") w)
    (nat_le 2 (length (runs rest)) || any_is_one_of left_out_names (runs rest))
    (cond (is_one_of (codes "RUNTEST" ∷ end_states) w)
    (any_is_one_of (codes "RESET" ∷ []) (runs rest) || any_is_one_of left_out_names (runs rest)) false))))

-- the first word of a command that is left out, as it is, by the words and the text after the first of
-- them
unfoldable pub left_out : List (List ℕ) → List ℕ → Option (List ℕ)
left_out [] rest = None
left_out (w ∷ ws) rest = cond (is_left_out w rest) (Some w) None
