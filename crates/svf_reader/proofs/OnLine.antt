-- What is known of texts on one line.
use Rattle.std.proofs.Common.{◌≡◌, ℕ, true, false, List, [], ◌∷◌, ap}
use Rattle.std.specs.Prelude.{◌==◌, ◌||◌}
use Rattle.std.specs.Char.{is_ascii_digit}
use Rattle.std.specs.List.{list_all}
use Rattle.std.proofs.Common.{sym, ◌∙◌}
use Rattle.std.proofs.lemmas.Bool.{and_parts, true≢false, eqb-true, false_from_ne_true}
use Rattle.ij_text.specs.Words.{begins_name, in_name, is_name}
use Rattle.svf_reader.specs.Scripts.{IsOnLine}

letter_on_line : (b : ℕ) → in_name b ≡ true → (b == 10) ≡ false
letter_on_line b h =
    false_from_ne_true (b == 10) (λ t. true≢false (sym h ∙ ap in_name (eqb-true b 10 t)))

letters_on_line : (bs : List ℕ) → list_all in_name bs ≡ true → IsOnLine bs
letters_on_line [] h = tt
letters_on_line (b ∷ bs) h =
    let both = and_parts (in_name b) (list_all in_name bs) h in
    (letter_on_line b both.0, letters_on_line bs both.1)

-- a name of ICL is on one line
pub name_on_line : (name : List ℕ) → is_name name ≡ true → IsOnLine name
name_on_line [] h = tt
name_on_line (b ∷ bs) h =
    let both = and_parts (begins_name b) (list_all in_name bs) h in
    let first : in_name b ≡ true = ap (λ p. p || is_ascii_digit b) both.0 in
    (letter_on_line b first, letters_on_line bs both.1)
