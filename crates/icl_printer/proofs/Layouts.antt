-- How the text that is printed is cut into its tokens.
use Rattle.std.proofs.Common.{◌≡◌, ◌+◌, ◌-◌, ℕ, List, [], ◌∷◌, ◌++◌, length, take, drop, refl, sym, ap, ◌∙◌}
use Rattle.std.proofs.Common.{arith, append_assoc, length-append}
use Rattle.std.specs.Prelude.{slice_range}
use Rattle.std.proofs.lemmas.List.{take_at, drop_at}
use Rattle.ij_text.specs.declared.Place.{Place}
use Rattle.ij_text.specs.Places.{first_place, place_after}
use Rattle.icl_lexer.specs.Token.{Token}
use Rattle.icl_lexer.specs.declared.token.PieceKind.TheVariants.{Gap, Is}
use Rattle.icl_lexer.specs.Cutting.{Piece, joined, AreLongest, tokens_from, AreTokens}
use Rattle.icl_lexer.specs.Laws.{AreInText}
use Rattle.icl_lexer.proofs.Total.{tokens_in_text}
use Rattle.icl_lexer.specs.Seen.{seen_tokens}
use Rattle.icl_printer.specs.Layout.{Spelling, blank_of, layout}
use Rattle.icl_printer.specs.Canonical.{tokens_of}
use Rattle.icl_printer.specs.Again.{spellings, AllSpelled, DesignsAreReadAgain}
use Rattle.icl_printer.proofs.Stops.{blank_is, token_piece, blank_piece}
use Rattle.icl_printer.proofs.DesignLaws.{design_law}

-- each token, and the blank after it
pub pieces_of : List Spelling → List Piece
pieces_of [] = []
pieces_of (s ∷ ss) = record { kind = Is s.kind; bytes = s.text }
    ∷ record { kind = Gap; bytes = blank_of s.kind s.text ∷ [] } ∷ pieces_of ss

joined_is : (ss : List Spelling) → joined (pieces_of ss) [] ≡ layout ss
unfolding layout pieces_of
joined_is [] = refl
joined_is (s ∷ ss) =
    ap (λ (x : List ℕ). s.text ++ (blank_of s.kind s.text ∷ x)) (joined_is ss)
    ∙ sym (append_assoc s.text (blank_of s.kind s.text ∷ []) (layout ss))

longest_are : (ss : List Spelling) → AllSpelled ss → AreLongest (pieces_of ss) []
unfolding pieces_of
longest_are [] good = tt
longest_are (s ∷ ss) good =
    let b = blank_of s.kind s.text in
    let rest = joined (pieces_of ss) [] in
    let is = blank_is s.kind s.text in
    (token_piece s.text s.kind b rest is good.0, (blank_piece b rest is, longest_are ss good.1))

-- ---- the tokens of the pieces

text_here : (before text rest : List ℕ) (start : ℕ) → start ≡ length before
    → slice_range (before ++ (text ++ rest)) start (start + length text) ≡ text
text_here before text rest start is =
    let count : start + length text - start ≡ length text = omega arith in
    ap (λ n. take n (drop start (before ++ (text ++ rest)))) count
    ∙ ap (take (length text)) (drop_at before (text ++ rest) start (sym is))
    ∙ take_at text rest (length text) refl

tokens_again : (ss : List Spelling) (src before : List ℕ) (start : ℕ) (at : Place)
    → src ≡ before ++ joined (pieces_of ss) [] → start ≡ length before
    → spellings (seen_tokens src (tokens_from start at (pieces_of ss))) ≡ ss
unfolding pieces_of
tokens_again [] src before start at whole is = refl
tokens_again (s ∷ ss) src before start at whole is =
    let b = blank_of s.kind s.text in
    let rest = joined (pieces_of ss) [] in
    let here : slice_range src start (start + length s.text)
    ≡ s.text = ap (λ (x : List ℕ). slice_range x start (start + length s.text)) whole
    ∙ text_here before s.text (b ∷ rest) start is in
    let after : src ≡ (before ++ (s.text ++ b ∷ [])) ++ rest =
    whole ∙ ap (λ (x : List ℕ). before ++ x) (sym (append_assoc s.text (b ∷ []) rest))
    ∙ sym (append_assoc before (s.text ++ b ∷ []) rest) in
    let count : start + length s.text + 1 ≡ length (before ++ (s.text ++ b ∷ [])) =
    omega (arith, length-append before (s.text ++ b ∷ []), length-append s.text (b ∷ [])) in
    let others = tokens_again ss src (before ++ (s.text ++ b ∷ [])) (start + length s.text + 1)
    (place_after (place_after at s.text) (b ∷ [])) after count in
    ap (λ (x : List ℕ). let y : Spelling = record { kind = s.kind; text = x } in
    y ∷ spellings (seen_tokens src (tokens_from (start + length s.text + 1)
    (place_after (place_after at s.text) (b ∷ [])) (pieces_of ss)))) here
    ∙ ap (λ (x : List Spelling). s ∷ x) others

pub are_tokens : (ss : List Spelling) → AllSpelled ss
    → AreTokens (layout ss) (tokens_from 0 first_place (pieces_of ss))
are_tokens ss good = (pieces_of ss, record { whole = joined_is ss; longest = longest_are ss good }, refl)

pub spelled_again : (ss : List Spelling)
    → spellings (seen_tokens (layout ss) (tokens_from 0 first_place (pieces_of ss))) ≡ ss
spelled_again ss = tokens_again ss (layout ss) [] 0 first_place (sym (joined_is ss)) refl

-- ---- what was read

all_in_text : (text : List ℕ) (from : ℕ) (ts : List Token) → AreInText text from ts
    → AllSpelled (spellings (seen_tokens text ts))
all_in_text text from [] h = tt
all_in_text text from (t ∷ ts) h = (h.4, all_in_text text t.end ts h.5)

pub read_are_spelled : (src : List ℕ) (tokens : List Token) → AreTokens src tokens
    → AllSpelled (spellings (seen_tokens src tokens))
read_are_spelled src tokens h = all_in_text src 0 tokens (tokens_in_text src tokens h)

pub designs_are_read_again : DesignsAreReadAgain
designs_are_read_again src tokens d are h =
    let good = read_are_spelled src tokens are in
    let p = design_law (seen_tokens src tokens) d good h in
    let ss = tokens_of d in
    let printed = tokens_from 0 first_place (pieces_of ss) in
    let r = p.again (seen_tokens (layout ss) printed) (spelled_again ss) in
    (printed, r.0, are_tokens ss p.good, r.1, r.2)
