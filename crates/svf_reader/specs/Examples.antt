-- Worked texts of SVF, and the commands or the refusals that they have.
use Rattle.std.specs.Prelude.{◌≡◌, ℕ, Bool, true, false, List, [], ◌∷◌, ◌++◌, Option, Some, None, Result, Ok}
use Rattle.std.specs.Prelude.{Err, codes, refl}
use Rattle.svf_writer.specs.SeenCommands.{SeenScan, SeenCommand, SIR, SDR, Reset, Idle, Run}
use Rattle.svf_reader.specs.Texts.{words, runs, plain}
use Rattle.svf_reader.specs.Commands.{command_of_words, parsed_by, scan, one_part, state, run_test, cycles}
use Rattle.svf_reader.specs.Commands.{is_frequency, is_trst, left_out, is_left_out}
use Rattle.svf_reader.specs.Values.{fitted, is_wide}
use Rattle.svf_reader.specs.Meaning.{Cause, LeftOut, SvfSyntax, SvfLimit, HexWide, TdiMissing, Refusal, svf}
use Rattle.svf_reader.specs.Meaning.{read_command, effect_of, scanned}

abbrev refused : Cause → ℕ → Result (List SeenCommand) Refusal
refused cause start = Err (record { cause = cause; start = start })

abbrev plain_scan : ℕ → Option (List Bool) → Option (List Bool) → SeenScan
plain_scan len tdi tdo = record { len = len; tdi = tdi; tdo = tdo; mask = None; smask = None }

comments : words (plain (codes "SDR 4!a;b" ++ (10 ∷ codes "TDI(5)//;" ++ 13 ∷ [])))
    ≡ codes "SDR" ∷ codes "4" ∷ codes "TDI" ∷ codes "(" ∷ codes "5" ∷ codes ")" ∷ []
comments = refl

parentheses : runs (codes "STATE IDLE(x)") ≡ codes "STATE" ∷ codes "IDLE(x)" ∷ []
parentheses = refl

nothing : svf [] ≡ Ok []
unfolding svf command_of_words parsed_by scan one_part state run_test cycles is_frequency is_trst left_out
    is_left_out fitted is_wide read_command effect_of scanned
nothing = refl

a_scan : svf (codes "sdr 4 tdi (5);" ++ (10 ∷ codes "SDR 4 TDO(A);"))
    ≡ Ok (SDR (plain_scan 4 (Some (true ∷ false ∷ true ∷ false ∷ [])) None)
    ∷ SDR (plain_scan 4 None (Some (false ∷ true ∷ false ∷ true ∷ []))) ∷ [])
unfolding svf command_of_words parsed_by scan one_part state run_test cycles is_frequency is_trst left_out
    is_left_out fitted is_wide read_command effect_of scanned
a_scan = refl

gaps_in_hex : svf (codes "SIR 6 TDI ( 2" ++ (10 ∷ codes "! ;" ++ (10 ∷ codes "1);")))
    ≡ Ok (SIR (plain_scan 6 (Some (true ∷ false ∷ false ∷ false ∷ false ∷ true ∷ [])) None) ∷ [])
unfolding svf command_of_words parsed_by scan one_part state run_test cycles is_frequency is_trst left_out
    is_left_out fitted is_wide read_command effect_of scanned
gaps_in_hex = refl

no_effect : svf (codes
    "HDR 0;TRST OFF;FREQUENCY 1E6 HZ;ENDIR IDLE;STATE RESET;STATE IDLE;RUNTEST IDLE 7 TCK ENDSTATE IDLE;")
    ≡ Ok (Reset ∷ Idle ∷ Run 7 ∷ [])
unfolding svf command_of_words parsed_by scan one_part state run_test cycles is_frequency is_trst left_out
    is_left_out fitted is_wide read_command effect_of scanned
no_effect = refl

unended : svf (codes "SDR 4 TDI (5") ≡ refused SvfSyntax 0
unfolding svf command_of_words parsed_by scan one_part state run_test cycles is_frequency is_trst left_out
    is_left_out fitted is_wide read_command effect_of scanned
unended = refl

wide : svf (codes "SDR 4 TDI (1F);") ≡ refused HexWide 0
unfolding svf command_of_words parsed_by scan one_part state run_test cycles is_frequency is_trst left_out
    is_left_out fitted is_wide read_command effect_of scanned
wide = refl

left_out_header : svf (codes "HDR 1 TDI (0);") ≡ refused (LeftOut (codes "HDR")) 0
unfolding svf command_of_words parsed_by scan one_part state run_test cycles is_frequency is_trst left_out
    is_left_out fitted is_wide read_command effect_of scanned
left_out_header = refl

missing : svf (codes "SDR 4 TDI (5); SDR 5 TDO (5);") ≡ refused TdiMissing 15
unfolding svf command_of_words parsed_by scan one_part state run_test cycles is_frequency is_trst left_out
    is_left_out fitted is_wide read_command effect_of scanned
missing = refl

pause : svf (codes "STATE IRPAUSE;") ≡ refused (LeftOut (codes "STATE")) 0
unfolding svf command_of_words parsed_by scan one_part state run_test cycles is_frequency is_trst left_out
    is_left_out fitted is_wide read_command effect_of scanned
pause = refl

-- two runs stand after STATE
path : svf (codes "STATE(1F) IDLE;") ≡ refused (LeftOut (codes "STATE")) 0
unfolding svf command_of_words parsed_by scan one_part state run_test cycles is_frequency is_trst left_out
    is_left_out fitted is_wide read_command effect_of scanned
path = refl

path_of_marks : svf (codes "STATE( x;") ≡ refused (LeftOut (codes "STATE")) 0
unfolding svf command_of_words parsed_by scan one_part state run_test cycles is_frequency is_trst left_out
    is_left_out fitted is_wide read_command effect_of scanned
path_of_marks = refl

one_state : svf (codes "STATE (x);") ≡ refused SvfSyntax 0
unfolding svf command_of_words parsed_by scan one_part state run_test cycles is_frequency is_trst left_out
    is_left_out fitted is_wide read_command effect_of scanned
one_state = refl

twice : svf (codes "SDR 4 TDI (5) TDI (5);") ≡ refused SvfSyntax 0
unfolding svf command_of_words parsed_by scan one_part state run_test cycles is_frequency is_trst left_out
    is_left_out fitted is_wide read_command effect_of scanned
twice = refl

too_many_clocks : svf (codes "RUNTEST 1000000000 TCK;") ≡ refused SvfLimit 0
unfolding svf command_of_words parsed_by scan one_part state run_test cycles is_frequency is_trst left_out
    is_left_out fitted is_wide read_command effect_of scanned
too_many_clocks = refl

all_the_clocks : svf (codes "RUNTEST 999999999 TCK;") ≡ Ok (Run 999999999 ∷ [])
unfolding svf command_of_words parsed_by scan one_part state run_test cycles is_frequency is_trst left_out
    is_left_out fitted is_wide read_command effect_of scanned
all_the_clocks = refl

alone : svf (codes " ;") ≡ refused SvfSyntax 1
unfolding svf command_of_words parsed_by scan one_part state run_test cycles is_frequency is_trst left_out
    is_left_out fitted is_wide read_command effect_of scanned
alone = refl
