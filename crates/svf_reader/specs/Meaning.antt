-- Which commands an SVF text has, or the first command at fault and why (Serial Vector Format, revision E, as
-- far as it is read here).
use Rattle.std.specs.Prelude.{ℕ, suc, ◌+◌, ◌==◌, nat_le, nat_lt, Bool, true, false, not, ◌&&◌, ◌||◌, cond}
use Rattle.std.specs.Prelude.{List, [], ◌∷◌, ◌++◌, length, Option, Some, None, Result, Ok, Err}
use Rattle.std.specs.Option.{option_map, is_some}
use Rattle.svf_writer.specs.SeenCommands.{SeenScan, SeenCommand, SIR, SDR, Reset, Idle, Run}
use Rattle.svf_reader.specs.declared.parsed.Register.{Register}
use Rattle.svf_reader.specs.declared.parsed.Register.TheVariants.{Instruction, Data}
use Rattle.svf_reader.specs.declared.so_far.ReadSoFar.{ReadSoFar}
use Rattle.svf_reader.specs.Texts.{texts, words, plain, after_word, blanks}
use Rattle.svf_reader.specs.Commands.{Parts, SeenParsed, Scans, ToReset, ToIdle, Runs, NoEffect}
use Rattle.svf_reader.specs.Commands.{command_of_words, left_out}
use Rattle.svf_reader.specs.Values.{hex_bits, fitted, is_wide}

-- why a command isn't read
pub data Cause : Type 0 where
  LeftOut : (word : List ℕ) → Cause
  SvfSyntax : Cause
  SvfLimit : Cause
  HexWide : Cause
  TdiMissing : Cause

-- ---- what is kept from command to command: the length of the last scan of each register, whether the play
-- rests in Test-Logic-Reset, and the clocks so far

abbrev pub at_first : ReadSoFar
at_first = record { ir = None; dr = None; in_reset = true; clocks = 0 }

abbrev pub last_length : Register → ReadSoFar → Option ℕ
last_length Instruction kept = kept.ir
last_length Data kept = kept.dr

abbrev pub with_length : Register → ℕ → ReadSoFar → ReadSoFar
with_length Instruction len kept = record kept { ir = Some len }
with_length Data len kept = record kept { dr = Some len }

-- the clocks of a scan: into the shift state, one a bit, and back to Run-Test/Idle
abbrev pub scan_clocks : Register → ℕ → ℕ
scan_clocks Instruction len = len + 6
scan_clocks Data len = len + 5

-- one clock more from Test-Logic-Reset
abbrev pub with_leaving_clock : ReadSoFar → ℕ → ℕ
with_leaving_clock kept n = cond kept.in_reset (suc n) n

-- a command, if it makes one, and what is kept after it
abbrev pub Step : Type 0
Step = Option SeenCommand × ReadSoFar

-- after this many clocks, if they aren't too many: 1,000,000,000 in all
abbrev pub emit_within_clock_limit : ReadSoFar → Bool → ℕ → SeenCommand → Result Step Cause
emit_within_clock_limit kept in_reset n command =
    cond (nat_le (kept.clocks + n) 1000000000)
    (Ok (Some command, record kept { in_reset = in_reset; clocks = kept.clocks + n })) (Err SvfLimit)

-- ---- scans

-- the bits of some digits, none of them wide
unfoldable pub hex_value : ℕ → List ℕ → Result (List Bool) Cause
hex_value len digits = cond (is_wide len (hex_bits digits)) (Err HexWide) (Ok (fitted len (hex_bits digits)))

abbrev pub part_wide : ℕ → Option (List ℕ) → Bool
part_wide len None = false
part_wide len (Some digits) = is_wide len (hex_bits digits)

abbrev pub any_wide : ℕ → Parts → Bool
any_wide len p = part_wide len p.tdi ||
    (part_wide len p.tdo || (part_wide len p.mask || part_wide len p.smask))

abbrev pub part_of : ℕ → Option (List ℕ) → Option (List Bool)
part_of len digits = option_map (λ ds. fitted len (hex_bits ds)) digits

abbrev pub scan_with : ℕ → Parts → SeenScan
scan_with len p = record {
  len = len;
  tdi = part_of len p.tdi;
  tdo = part_of len p.tdo;
  mask = part_of len p.mask;
  smask = part_of len p.smask;
}

abbrev pub scan_command : Register → SeenScan → SeenCommand
scan_command Instruction s = SIR s
scan_command Data s = SDR s

abbrev pub other_length : Option ℕ → ℕ → Bool
other_length None len = true
other_length (Some n) len = not (n == len)

-- no TDI, and the last scan of the register had another length, or there was none
abbrev pub tdi_missing : Option ℕ → ℕ → Parts → Bool
tdi_missing last len p = not (is_some p.tdi) && other_length last len

unfoldable pub scanned : ReadSoFar → Register → ℕ → Parts → Result Step Cause
scanned kept register len p =
    cond (nat_lt 65536 len) (Err SvfLimit)
    (cond (any_wide len p) (Err HexWide)
    (cond (tdi_missing (last_length register kept) len p) (Err TdiMissing)
    (emit_within_clock_limit (with_length register len kept) false
    (with_leaving_clock kept (scan_clocks register len)) (scan_command register (scan_with len p)))))

-- ---- one command

-- what a command of the grammar does
unfoldable pub effect_of : ReadSoFar → SeenParsed → Result Step Cause
effect_of kept (Scans register len p) = scanned kept register len p
effect_of kept ToReset = emit_within_clock_limit kept true 5 Reset
effect_of kept ToIdle = emit_within_clock_limit kept false (with_leaving_clock kept 0) Idle
effect_of kept (Runs n) = emit_within_clock_limit kept false (with_leaving_clock kept n) (Run n)
effect_of kept NoEffect = Ok (None, kept)

abbrev pub if_parsed : ReadSoFar → Option SeenParsed → Result Step Cause
if_parsed kept None = Err SvfSyntax
if_parsed kept (Some s) = effect_of kept s

-- what is left out comes before the grammar, and the grammar before the rest; a command without its `;` isn't
-- in the grammar
abbrev pub unless_left_out : ReadSoFar → Bool → List ℕ → Option (List ℕ) → Result Step Cause
unless_left_out kept ended text (Some word) = Err (LeftOut word)
unless_left_out kept ended text None =
    cond ended (if_parsed kept (command_of_words (words text))) (Err SvfSyntax)

unfoldable pub read_command : ReadSoFar → Bool → List ℕ → Result Step Cause
read_command kept ended text = unless_left_out kept ended text (left_out (words text) (after_word text))

-- ---- a text

-- the cause, and how many bytes stand before the command's first byte
pub record Refusal : Type 0 where
  pub cause : Cause
  pub start : ℕ

abbrev pub listed : Option SeenCommand → List SeenCommand
listed None = []
listed (Some c) = c ∷ []

abbrev pub before : List SeenCommand → Result (List SeenCommand) Refusal → Result (List SeenCommand) Refusal
before cs (Ok ds) = Ok (cs ++ ds)
before cs (Err refusal) = Err refusal

-- after the last `;` no word may stand
abbrev pub at_end : List (List ℕ) → Result Step Cause → ℕ → Result (List SeenCommand) Refusal
at_end [] r start = Ok []
at_end (w ∷ ws) (Ok step) start = Ok []
at_end (w ∷ ws) (Err cause) start = Err (record { cause = cause; start = start })

abbrev pub and_then : Result Step Cause → ℕ
    → (ReadSoFar → Result (List SeenCommand) Refusal) → Result (List SeenCommand) Refusal
and_then (Ok step) start next = before (listed step.0) (next step.1)
and_then (Err cause) start next = Err (record { cause = cause; start = start })

-- the commands of some texts, from what is kept and a number of bytes on
abbrev pub read_from : ReadSoFar → ℕ → List (List ℕ) → Result (List SeenCommand) Refusal
read_from kept at [] = Ok []
read_from kept at (t ∷ []) = at_end (words t) (read_command kept false t) (at + blanks t)
read_from kept at (t ∷ u ∷ us) =
    and_then (read_command kept true t) (at + blanks t)
    (λ next. read_from next (suc (at + length t)) (u ∷ us))

-- the commands of an SVF text, or why it is refused
unfoldable pub svf : List ℕ → Result (List SeenCommand) Refusal
svf src = read_from at_first 0 (texts (plain src))
