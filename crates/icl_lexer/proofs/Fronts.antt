-- The tokens of a text, told by its front piece, are those of its cutting.
use Rattle.std.proofs.Common.{◌≡◌, ◌==◌, ◌&&◌, ℕ, zero, suc, ◌+◌, ◌-◌, ◌≤◌, Bool, true, false, cond, List, []}
use Rattle.std.proofs.Common.{◌∷◌, ◌++◌, length, take, drop, Option, Some, None, refl, sym, ap, ◌∙◌, arith}
use Rattle.std.proofs.Common.{append_assoc, length-drop, length-append}
use Rattle.std.specs.Prelude.{slice_range}
use Rattle.std.proofs.lemmas.Bool.{eqb-true}
use Rattle.std.proofs.Math.Seq.{take-append_seam, drop-append_seam}
use Rattle.ij_text.specs.declared.Place.{Place}
use Rattle.ij_text.specs.Places.{first_place, place_after}
use Rattle.icl_lexer.specs.Token.{Token}
use Rattle.icl_lexer.specs.declared.token.PieceKind.{PieceKind}
use Rattle.icl_lexer.specs.declared.token.PieceKind.TheVariants.{Gap, Is}
use Rattle.icl_lexer.specs.declared.pieces.Match.{Match}
use Rattle.icl_lexer.specs.Matches.{longest_match}
use Rattle.icl_lexer.specs.Cutting.{IsPiece, NoPiece, Piece, joined, AreLongest, AreTokens, tokens_from}
use Rattle.icl_lexer.specs.Cutting.{token_of, opens_comment}
use Rattle.icl_lexer.specs.Seen.{SeenToken, seen_token, seen_tokens, seen_piece, unless_mark, front}
use Rattle.icl_lexer.specs.Seen.{tokens_of_front, tokens_within, tokens_in}
use Rattle.icl_lexer.specs.Answers.{count_of}
use Rattle.icl_lexer.proofs.Matches.{is_piece, no_piece, no_mark}
use Rattle.icl_lexer.proofs.Unique.{piece_some, piece_unique}

-- ---- the front piece

-- the text begins with this piece, or with none
abbrev pub Begins : List ℕ → Option Match → Type 0
Begins text None = NoPiece text
Begins text (Some found) = IsPiece text found.kind found.len

pub front_begins : (text : List ℕ) → Begins text (front text)
unfolding front
front_begins text = by_match (longest_match text (length text)) refl
  where
    by_mark : (found : Match) → longest_match text (length text) ≡ Some found → (opens : Bool)
        → opens_comment text ≡ opens → (one : Bool) → (found.len == 1) ≡ one
        → Begins text (cond (opens && one) None (Some found))
    by_mark found e false o one l = is_piece text found e (λ _. o)
    by_mark found e true o true l = no_mark text found e (eqb-true found.len 1 l) o
    by_mark found e true o false l =
        is_piece text found e (λ is. absurd (clash (sym l ∙ ap (λ n. n == 1) is)))
      where
        clash : false ≡ true → ⊥
        clash e = absurd cc

    by_match : (f : Option Match) → longest_match text (length text) ≡ f
        → Begins text (unless_mark (opens_comment text) f)
    by_match None e = no_piece text e
    by_match (Some found) e = by_mark found e (opens_comment text) refl (found.len == 1) refl

pub front_is : (text : List ℕ) (kind : PieceKind) (len : ℕ) → IsPiece text kind len
    → front text ≡ Some (record { kind = kind; len = len })
front_is text kind len p = by (front text) (front_begins text)
  where
    by : (f : Option Match) → Begins text f → f ≡ Some (record { kind = kind; len = len })
    by None none = absurd (none kind len p)
    by (Some found) q = let same = piece_unique text found.kind kind found.len len q p in
        λ i. Some (record { kind = same.1 i; len = same.0 i })

pub front_none : (text : List ℕ) → NoPiece text → front text ≡ None
front_none text none = by (front text) (front_begins text)
  where
    by : (f : Option Match) → Begins text f → f ≡ None
    by None h = refl
    by (Some found) p = absurd (none found.kind found.len p)

-- ---- tokens by their pieces

shorter : (text : List ℕ) (kind : PieceKind) (len n : ℕ) → IsPiece text kind len
    → length text ≤ suc n → length (drop len text) ≤ n
shorter text kind len n p h =
    let some = piece_some text kind len p in
    let within = p.within in omega (arith, h, some, within, length-drop len text)

-- no token in no bytes
nothing_within : (n : ℕ) (text : List ℕ) (at : Place) → length text ≤ 0 → tokens_within n text at ≡ []
unfolding tokens_within
nothing_within zero text at h = refl
nothing_within (suc n) text at h = by (front text) (front_begins text)
  where
    by : (f : Option Match) → Begins text f → tokens_of_front (tokens_within n) text at f ≡ []
    by None none = refl
    by (Some found) p = let some = piece_some text found.kind found.len p in
        let within = p.within in absurd (omega (arith, h, some, within))

-- as many pieces as there are bytes are enough
enough : (n m : ℕ) (text : List ℕ) (at : Place) → length text ≤ n → length text ≤ m
    → tokens_within n text at ≡ tokens_within m text at
unfolding tokens_within
enough zero m text at h k = sym (nothing_within m text at h)
enough (suc n) zero text at h k = nothing_within (suc n) text at k
enough (suc n) (suc m) text at h k = by (front text) (front_begins text) (λ rest after. enough n m rest after)
  where
    by : (f : Option Match) → Begins text f → ((rest : List ℕ) (after : Place) → length rest ≤ n
        → length rest ≤ m → tokens_within n rest after ≡ tokens_within m rest after)
        → tokens_of_front (tokens_within n) text at f ≡ tokens_of_front (tokens_within m) text at f
    by None none again = refl
    by (Some found) p again =
        ap (λ (ts : List SeenToken). seen_piece found.kind at (take found.len text) ++ ts)
        (again (drop found.len text) (place_after at (take found.len text))
        (shorter text found.kind found.len n p h) (shorter text found.kind found.len m p k))

-- a piece, and the tokens after it
pub tokens_step : (text : List ℕ) (at : Place) (kind : PieceKind) (len : ℕ) → IsPiece text kind len
    → tokens_in text at ≡ seen_piece kind at (take len text)
    ++ tokens_in (drop len text) (place_after at (take len text))
unfolding tokens_in tokens_within
tokens_step text at kind len p =
    let n = length text in
    enough n (suc n) text at (omega arith) (omega arith)
    ∙ ap (tokens_of_front (tokens_within n) text at) (front_is text kind len p)
    ∙ ap (λ (ts : List SeenToken). seen_piece kind at (take len text) ++ ts)
    (enough n (length (drop len text)) (drop len text) (place_after at (take len text))
    (shorter text kind len n p (omega arith)) (omega arith))

-- no token where no piece begins
pub tokens_end : (text : List ℕ) (at : Place) → NoPiece text → tokens_in text at ≡ []
unfolding tokens_in tokens_within
tokens_end text at none =
    let n = length text in
    enough n (suc n) text at (omega arith) (omega arith)
    ∙ ap (tokens_of_front (tokens_within n) text at) (front_none text none)

-- ---- the tokens of a cutting

seen_more : (text : List ℕ) (ts us : List Token)
    → seen_tokens text (ts ++ us) ≡ seen_tokens text ts ++ seen_tokens text us
seen_more text [] us = refl
seen_more text (t ∷ ts) us = ap (λ (l : List SeenToken). seen_token text t ∷ l) (seen_more text ts us)

pub seen_count : (text : List ℕ) (ts : List Token) → length (seen_tokens text ts) ≡ length ts
seen_count text [] = refl
seen_count text (t ∷ ts) = ap suc (seen_count text ts)

seen_one : (text : List ℕ) (kind : PieceKind) (at : Place) (start end : ℕ) (bytes : List ℕ)
    → slice_range text start end ≡ bytes
    → seen_tokens text (token_of kind at start end) ≡ seen_piece kind at bytes
seen_one text Gap at start end bytes e = refl
seen_one text (Is kind) at start end bytes e =
    ap (λ (l : List ℕ). record { kind = kind; at = at; text = l } ∷ []) e

-- after some bytes
seen_from : (ps : List Piece) (text front : List ℕ) (at : Place)
    → front ++ joined ps [] ≡ text → AreLongest ps []
    → seen_tokens text (tokens_from (length front) at ps) ≡ tokens_in (joined ps []) at
unfolding tokens_in tokens_within
seen_from [] text front at e h = refl
seen_from (p ∷ ps) text front at e h =
    let start = length front in
    let len = length p.bytes in
    let rest = joined ps [] in
    let after = place_after at p.bytes in
    let same : start + len - start ≡ len = omega arith in
    let taken : take len (p.bytes ++ rest) ≡ p.bytes = take-append_seam p.bytes rest in
    let cut : slice_range text start (start + len) ≡ p.bytes =
    ap (λ n. take n (drop start text)) same ∙ ap (λ (l : List ℕ). take len (drop start l)) (sym e)
    ∙ ap (take len) (drop-append_seam front (p.bytes ++ rest)) ∙ taken in
    let others : seen_tokens text (tokens_from (start + len) after ps) ≡ tokens_in rest after =
    ap (λ n. seen_tokens text (tokens_from n after ps)) (sym (length-append front p.bytes))
    ∙ seen_from ps text (front ++ p.bytes) after (append_assoc front p.bytes rest ∙ e) h.1 in
    seen_more text (token_of p.kind at start (start + len)) (tokens_from (start + len) after ps)
    ∙ ap (λ (l : List SeenToken). l ++ seen_tokens text (tokens_from (start + len) after ps))
    (seen_one text p.kind at start (start + len) p.bytes cut)
    ∙ ap (λ (l : List SeenToken). seen_piece p.kind at p.bytes ++ l) others
    ∙ ap (λ (l : List ℕ). seen_piece p.kind at p.bytes ++ tokens_in l after)
    (sym (drop-append_seam p.bytes rest))
    ∙ ap (λ (l : List ℕ). seen_piece p.kind at l
    ++ tokens_in (drop len (p.bytes ++ rest)) (place_after at l)) (sym taken)
    ∙ sym (tokens_step (p.bytes ++ rest) at p.kind len h.0)

pub seen_is : (text : List ℕ) (tokens : List Token) → AreTokens text tokens
    → seen_tokens text tokens ≡ tokens_in text first_place
seen_is text tokens (ps, c, e) =
    ap (seen_tokens text) e ∙ seen_from ps text [] first_place c.whole c.longest
    ∙ ap (λ (l : List ℕ). tokens_in l first_place) c.whole

-- ---- how many there are

pub count_few : (kind : PieceKind) → count_of kind ≤ 1
count_few Gap = omega arith
count_few (Is kind) = omega arith

pub counted : (kind : PieceKind) (at : Place) (start end : ℕ)
    → length (token_of kind at start end) ≡ count_of kind
counted Gap at start end = refl
counted (Is kind) at start end = refl

pub tokens_count : (text : List ℕ) (tokens : List Token) → AreTokens text tokens
    → length (tokens_in text first_place) ≡ length tokens
tokens_count text tokens h = ap length (sym (seen_is text tokens h)) ∙ seen_count text tokens
