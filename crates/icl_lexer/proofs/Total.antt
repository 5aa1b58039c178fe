-- Each text is cut or has a fault, and its tokens are in it.
use Rattle.std.proofs.Common.{◌≡◌, ℕ, zero, suc, ◌+◌, ◌-◌, ◌≤◌, ◌⊎◌, inl, inr, List, [], ◌∷◌, ◌++◌, length}
use Rattle.std.proofs.Common.{take, drop, Option, Some, None, refl, sym, ap, subst, ◌∙◌, arith, append_assoc}
use Rattle.std.proofs.Common.{length-drop, length-append}
use Rattle.std.specs.Prelude.{slice_range}
use Rattle.std.proofs.lemmas.List.{nil_from_length}
use Rattle.std.proofs.Math.Seq.{take-append_seam, drop-append_seam}
use Rattle.ij_text.specs.declared.Place.{Place}
use Rattle.ij_text.specs.Places.{first_place, place_after}
use Rattle.ij_text.proofs.After.{place_after-append}
use Rattle.icl_lexer.specs.Token.{Token}
use Rattle.icl_lexer.specs.declared.token.PieceKind.{PieceKind}
use Rattle.icl_lexer.specs.declared.token.PieceKind.TheVariants.{Gap, Is}
use Rattle.icl_lexer.specs.declared.fault.LexFault.{LexFault}
use Rattle.icl_lexer.specs.declared.pieces.Match.{Match}
use Rattle.icl_lexer.specs.Pieces.{kind_of}
use Rattle.icl_lexer.specs.Cutting.{IsPiece, Piece, joined, AreLongest, IsCutUpTo, AreTokens, HasFault}
use Rattle.icl_lexer.specs.Cutting.{tokens_from, token_of, fault_of}
use Rattle.icl_lexer.specs.Laws.{AreInText}
use Rattle.icl_lexer.proofs.Cuts.{CutSoFar, cut_more, nothing_cut}
use Rattle.icl_lexer.specs.Seen.{front}
use Rattle.icl_lexer.proofs.Unique.{piece_some}
use Rattle.icl_lexer.proofs.Fronts.{Begins, front_begins}

-- ---- each text is cut, or at fault

abbrev Outcome : List ℕ → Type 0
Outcome text = ((tokens : List Token) × (AreTokens text tokens))
    ⊎ ((fault : LexFault) × (HasFault text fault))

whole : (text : List ℕ) (tokens : List Token) (start : ℕ) (at : Place)
    → CutSoFar text tokens start at → drop start text ≡ [] → Outcome text
whole text tokens start at c e =
    inl (tokens, (c.pieces, subst (IsCutUpTo text c.pieces) e c.cut, c.tokens_are))

-- cut from here on, where at most n bytes are left
cut_from : (n : ℕ) (text : List ℕ) (tokens : List Token) (start : ℕ) (at : Place)
    → CutSoFar text tokens start at → length (drop start text) ≤ n → Outcome text
cut_from zero text tokens start at c le =
    whole text tokens start at c (nil_from_length (drop start text) (omega (arith, le)))
cut_from (suc n) text tokens start at c le = by_rest (drop start text) refl
    (λ kind len piece shorter. cut_from n text (tokens ++ token_of kind at start (start + len)) (start + len)
    (place_after at (take len (drop start text))) (cut_more text tokens start at kind len c piece) shorter)
  where
    by_rest : (rest : List ℕ) → drop start text ≡ rest
        → ((kind : PieceKind) (len : ℕ) → IsPiece (drop start text) kind len
        → length (drop (start + len) text) ≤ n → Outcome text) → Outcome text
    by_rest [] e again = whole text tokens start at c e
    by_rest (b ∷ bs) e again = by_piece (front (drop start text)) (front_begins (drop start text))
      where
        by_piece : (f : Option Match) → Begins (drop start text) f → Outcome text
        by_piece (Some found) piece =
            let some = piece_some (drop start text) found.kind found.len piece in
            let long = length-drop start text in
            let less = length-drop (start + found.len) text in
            let within = piece.within in
            again found.kind found.len piece (omega (arith, le, some, within, long, less))
        by_piece None none = inr (
          fault_of (drop start text) (place_after first_place (joined c.pieces [])),
          record {
            pieces = c.pieces;
            rest = drop start text;
            cut = c.cut;
            some = λ nil. absurd (let no : b ∷ bs ≡ [] = sym e ∙ nil in cc);
            stuck = none;
            is = refl;
          },
        )

pub cut_or_fault : (text : List ℕ) → Outcome text
cut_or_fault text = cut_from (length text) text [] 0 first_place (nothing_cut text) (omega arith)

-- ---- tokens are in their text

abbrev some_kind : PieceKind → Option PieceKind
some_kind k = Some k

-- the token that a piece is, before those after it
with_token : (p : Piece) (ps : List Piece) (text front : List ℕ) (from : ℕ)
    → front ++ joined (p ∷ ps) [] ≡ text → AreLongest (p ∷ ps) [] → from ≤ length front
    → (kind : PieceKind) → p.kind ≡ kind
    → ((next : ℕ) → next ≤ length front + length p.bytes → AreInText text next (tokens_from
    (length front + length p.bytes) (place_after (place_after first_place front) p.bytes) ps))
    → AreInText text from (token_of kind (place_after first_place front) (length front)
    (length front + length p.bytes) ++ tokens_from (length front + length p.bytes)
    (place_after (place_after first_place front) p.bytes) ps)
with_token p ps text front from e h le Gap is others = others from (omega (arith, le))
with_token p ps text front from e h le (Is k) is others =
    let some = piece_some (p.bytes ++ joined ps []) p.kind (length p.bytes) h.0 in
    let all = ap length e in
    let parts = length-append front (p.bytes ++ joined ps []) in
    let within = h.0.within in
    let same : length front + length p.bytes - length front ≡ length p.bytes = omega arith in
    let cut : slice_range text (length front) (length front + length p.bytes)
    ≡ take (length p.bytes) (p.bytes ++ joined ps []) =
    ap (λ n. take n (drop (length front) text)) same
    ∙ ap (λ (l : List ℕ). take (length p.bytes) (drop (length front) l)) (sym e)
    ∙ ap (take (length p.bytes)) (drop-append_seam front (p.bytes ++ joined ps [])) in (
      le,
      omega (arith, some),
      omega (arith, all, parts, within),
      ap (place_after first_place) (sym (take-append_seam front (p.bytes ++ joined ps [])))
          ∙ ap (λ (l : List ℕ). place_after first_place (take (length front) l)) e,
      ap kind_of cut ∙ h.0.one ∙ ap some_kind is,
      others (length front + length p.bytes) (omega arith),
    )

-- after some bytes, and tokens up to there
in_text : (ps : List Piece) (text front : List ℕ) (from : ℕ) → front ++ joined ps [] ≡ text
    → AreLongest ps [] → from ≤ length front
    → AreInText text from (tokens_from (length front) (place_after first_place front) ps)
in_text [] text front from e h le = let n = ap length e in
    let m = length-append front [] in omega (arith, n, m, le)
in_text (p ∷ ps) text front from e h le =
    with_token p ps text front from e h le p.kind refl
    (λ next k. moved next (in_text ps text (front ++ p.bytes) next (append_assoc front p.bytes (joined ps [])
    ∙ e) h.1 (let long = length-append front p.bytes in omega (arith, k, long))))
  where
    moved : (next : ℕ) → AreInText text next
        (tokens_from (length (front ++ p.bytes)) (place_after first_place (front ++ p.bytes)) ps)
        → AreInText text next
        (tokens_from (length front + length p.bytes) (place_after (place_after first_place front) p.bytes) ps)
    moved next again =
        subst (λ n. AreInText text next (tokens_from n
        (place_after (place_after first_place front) p.bytes) ps)) (length-append front p.bytes)
        (subst (λ a. AreInText text next (tokens_from (length (front ++ p.bytes)) a ps))
        (place_after-append front first_place p.bytes) again)

pub tokens_in_text : (text : List ℕ) (tokens : List Token) → AreTokens text tokens → AreInText text 0 tokens
tokens_in_text text tokens (ps, c, e) =
    subst (AreInText text 0) (sym e) (in_text ps text [] 0 c.whole c.longest (omega arith))
