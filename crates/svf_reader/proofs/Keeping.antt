-- Commands that aren't left out, and texts without a word.
use Rattle.std.proofs.Common.{◌≡◌, ℕ, Bool, true, false, cond, nat_le, List, [], ◌∷◌, length, Option, Some}
use Rattle.std.proofs.Common.{None, Result, Err, ap, ◌∙◌, refl, codes, bytes_eq}
use Rattle.std.specs.Prelude.{◌||◌}
use Rattle.std.specs.List.{list_any}
use Rattle.std.specs.Str.{str_to_ascii_lowercase}
use Rattle.svf_reader.specs.declared.so_far.ReadSoFar.{ReadSoFar}
use Rattle.svf_reader.specs.Texts.{words, runs, after_word}
use Rattle.svf_reader.specs.Meaning.{Cause, SvfSyntax, Step, if_parsed, unless_left_out, read_command}
use Rattle.svf_reader.specs.Commands.{eq_ignore_case, is_one_of, begins_with_length, begins_with_on, headers}
use Rattle.svf_reader.specs.Commands.{end_states, left_out_names, any_is_one_of, is_left_out, left_out}
use Rattle.svf_reader.specs.Commands.{command_of_words}
use Rattle.ij_text.proofs.EqualTexts.{bytes_are}

-- whether a command is left out, by its first word in lower case
abbrev left_lower : List ℕ → List ℕ → Bool
left_lower w rest =
    cond (list_any (λ name. bytes_eq w (str_to_ascii_lowercase name)) headers)
    (begins_with_length (words rest))
    (cond (list_any (λ name. bytes_eq w (str_to_ascii_lowercase name))
    (codes "PIO" ∷ codes "PIOMAP" ∷ [])) true
    (cond (bytes_eq w (str_to_ascii_lowercase (codes "TRST"))) (begins_with_on (words rest))
    (cond (bytes_eq w (str_to_ascii_lowercase (codes "STATE")))
    (nat_le 2 (length (runs rest)) || any_is_one_of left_out_names (runs rest))
    (cond (list_any (λ name. bytes_eq w (str_to_ascii_lowercase name)) (codes "RUNTEST" ∷ end_states))
    (any_is_one_of (codes "RESET" ∷ []) (runs rest) || any_is_one_of left_out_names (runs rest)) false))))

scan_lower : (w rest : List ℕ) (a b : Bool)
    → bytes_eq (str_to_ascii_lowercase w) (str_to_ascii_lowercase (codes "SDR")) ≡ a
    → bytes_eq (str_to_ascii_lowercase w) (str_to_ascii_lowercase (codes "SIR")) ≡ b
    → (a || (b || false)) ≡ true → left_lower (str_to_ascii_lowercase w) rest ≡ false
scan_lower w rest true b ea eb either = ap (λ l. left_lower l rest)
    (bytes_are (str_to_ascii_lowercase w) (str_to_ascii_lowercase (codes "SDR")) ea)
scan_lower w rest false true ea eb either = ap (λ l. left_lower l rest)
    (bytes_are (str_to_ascii_lowercase w) (str_to_ascii_lowercase (codes "SIR")) eb)
scan_lower w rest false false ea eb either = absurd (cc)

-- a scan isn't left out
pub scan_kept : (w rest : List ℕ) (ws : List (List ℕ))
    → is_one_of (codes "SDR" ∷ codes "SIR" ∷ []) w ≡ true → left_out (w ∷ ws) rest ≡ None
unfolding is_left_out left_out
scan_kept w rest ws is =
    ap (λ k. cond k (Some w) (let o : Option (List ℕ) = None in o))
    (scan_lower w rest (eq_ignore_case (codes "SDR") w) (eq_ignore_case (codes "SIR") w) refl refl is)

-- a text without a word is no command
pub nothing_read : (kept : ReadSoFar) (ended : Bool) (t : List ℕ) → words t ≡ []
    → read_command kept ended t ≡ Err SvfSyntax
unfolding left_out command_of_words read_command
nothing_read kept ended t none =
    ap (λ ws. unless_left_out kept ended t (left_out ws (after_word t))) none
    ∙ ap (λ ws. cond ended (if_parsed kept (command_of_words ws))
    (let e : Result Step Cause = Err SvfSyntax in e)) none
    ∙ cases ended
  where
    cases : (b : Bool)
        → cond b (let e : Result Step Cause = Err SvfSyntax in e) (Err SvfSyntax) ≡ Err SvfSyntax
    cases true = refl
    cases false = refl
