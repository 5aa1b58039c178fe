-- Lines, and the place after the last byte.
use Rattle.std.proofs.Common.{◌≡◌, ℕ, suc, ◌+◌, Bool, true, false, cond, List, [], ◌∷◌, length, refl, ap, sym}
use Rattle.std.proofs.Common.{◌∙◌, arith}
use Rattle.std.specs.Prelude.{◌==◌}
use Rattle.ij_text.specs.declared.Place.{Place}
use Rattle.ij_text.specs.Parts.{before, split}
use Rattle.table_lines.specs.Lines.{lines, line_of, unless_empty, lines_from, end_from, end_of}
use Rattle.table_lines.specs.Reading.{lines_left}

pub line_cut : (text front rest : List ℕ) → split 10 text ≡ front ∷ split 10 rest → (n : ℕ)
    → lines_left n text ≡ unless_empty (line_of n front) (lines_left (suc n) rest)
unfolding lines_left
line_cut text front rest is n = ap (lines_from n) is

pub line_last : (text : List ℕ) → split 10 text ≡ text ∷ [] → (n : ℕ)
    → lines_left n text ≡ unless_empty (line_of n text) (lines_left (suc n) [])
unfolding lines_left
line_last text is n = ap (lines_from n) is

pub no_lines : (n : ℕ) → lines_left n [] ≡ []
unfolding lines_left
no_lines n = refl

some_piece : (n : ℕ) (t : List ℕ) (b : ℕ) (same : Bool) (us : List (List ℕ))
    → end_from n (t ∷ cond same ([] ∷ us) (before b us))
    ≡ end_from (suc n) (cond same ([] ∷ us) (before b us))
some_piece n t b true us = refl
some_piece n t b false [] = refl
some_piece n t b false (u ∷ us) = refl

end_more : (n : ℕ) (t text : List ℕ) → end_from n (t ∷ split 10 text) ≡ end_from (suc n) (split 10 text)
end_more n t [] = refl
end_more n t (b ∷ bs) = some_piece n t b (b == 10) (split 10 bs)

pub end_next : (n : ℕ) (text front rest : List ℕ) → split 10 text ≡ front ∷ split 10 rest
    → end_from (n + 1) (lines rest) ≡ end_from n (lines text)
end_next n text front rest is =
    let next : n + 1 ≡ suc n = omega arith in
    ap (λ k. end_from k (lines rest)) next ∙ sym (ap (end_from n) is ∙ end_more n front rest)

pub end_last : (n : ℕ) (text src : List ℕ) → split 10 text ≡ text ∷ []
    → end_from n (lines text) ≡ end_from 1 (lines src)
    → ◌≡◌ {A = Place} (record { line = n; col = length text + 1 }) (end_of src)
unfolding end_of
end_last n text src is so_far =
    let next : length text + 1 ≡ suc (length text) = omega arith in
    ap {B = Place} (λ k. record { line = n; col = k }) next ∙ sym (ap (end_from n) is) ∙ so_far
