-- A cursor at a token, and at a gap.
use Rattle.std.proofs.Common.{◌≡◌, ℕ, ◌+◌, ◌-◌, List, ◌++◌, length, take, drop, sym, ap, subst, ◌∙◌}
use Rattle.std.proofs.Common.{length-append}
use Rattle.std.proofs.lemmas.List.{take-append-drop}
use Rattle.ij_text.specs.declared.Place.{Place}
use Rattle.ij_text.specs.Places.{place_after}
use Rattle.icl_lexer.specs.declared.token.PieceKind.{PieceKind}
use Rattle.icl_lexer.specs.Cutting.{IsPiece}
use Rattle.icl_lexer.specs.Seen.{seen_piece, tokens_in}
use Rattle.icl_lexer.proofs.Cuts.{rest_is}
use Rattle.icl_lexer.proofs.Fronts.{tokens_step}

-- what is after a piece, as the code cuts it
abbrev pub cut_off : List ℕ → ℕ → List ℕ
cut_off rest len = take (length rest - len) (drop len rest)

pub piece_step : (rest : List ℕ) (at : Place) (found kind : PieceKind) (len : ℕ)
    → IsPiece rest found len → found ≡ kind
    → seen_piece kind at (take len rest)
    ++ tokens_in (cut_off rest len) (place_after at (take len rest)) ≡ tokens_in rest at
piece_step rest at found kind len p is =
    ap (λ (l : List ℕ). seen_piece kind at (take len rest) ++ tokens_in l (place_after at (take len rest)))
    (rest_is rest len)
    ∙ sym (tokens_step rest at kind len (subst (λ k. IsPiece rest k len) is p))

pub length_cut : (rest : List ℕ) (len : ℕ) → length (take len rest) + length (cut_off rest len) ≡ length rest
length_cut rest len =
    sym (length-append (take len rest) (cut_off rest len)) ∙ ap (λ (l : List ℕ). length (take len rest ++ l))
    (rest_is rest len) ∙ ap length (take-append-drop len rest)
