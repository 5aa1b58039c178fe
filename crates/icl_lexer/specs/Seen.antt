-- Tokens with their texts, tests on one token, and the tokens of a text in order.
use Rattle.std.specs.Prelude.{◌≡◌, ℕ, zero, suc, ◌==◌, Bool, false, ◌&&◌, ◌++◌, cond, List, [], ◌∷◌, map}
use Rattle.std.specs.Prelude.{length, take, drop, slice_range, Option, Some, None}
use Rattle.std.specs.Str.{bytes_eq}
use Rattle.ij_text.specs.declared.Place.{Place}
use Rattle.ij_text.specs.Places.{place_after}
use Rattle.icl_lexer.specs.Token.{Token}
use Rattle.icl_lexer.specs.declared.token.TokenKind.{TokenKind}
use Rattle.icl_lexer.specs.declared.token.TokenKind.TheVariants.{Word, Decimal, Sized, Quoted, Param, Mark}
use Rattle.icl_lexer.specs.declared.token.PieceKind.{PieceKind}
use Rattle.icl_lexer.specs.declared.token.PieceKind.TheVariants.{Gap, Is}
use Rattle.icl_lexer.specs.declared.pieces.Match.{Match}
use Rattle.icl_lexer.specs.Cutting.{AreTokens, opens_comment}
use Rattle.icl_lexer.specs.Matches.{longest_match}

pub record SeenToken : Type 0 where
  pub kind : TokenKind
  pub at : Place
  pub text : List ℕ

-- a token with its bytes of the source
abbrev pub seen_token : List ℕ → Token → SeenToken
seen_token src t = record { kind = t.kind; at = t.at; text = slice_range src t.start t.end }

abbrev pub seen_tokens : List ℕ → List Token → List SeenToken
seen_tokens src ts = map (seen_token src) ts

-- ---- what a kind of token gives

abbrev pub if_word : {A : Type 0} → TokenKind → A → A → A
if_word Word a b = a
if_word Decimal a b = b
if_word Sized a b = b
if_word Quoted a b = b
if_word Param a b = b
if_word Mark a b = b

abbrev pub if_mark : {A : Type 0} → TokenKind → A → A → A
if_mark Word a b = b
if_mark Decimal a b = b
if_mark Sized a b = b
if_mark Quoted a b = b
if_mark Param a b = b
if_mark Mark a b = a

abbrev pub is_byte : ℕ → List ℕ → Bool
is_byte c [] = false
is_byte c (b ∷ []) = b == c
is_byte c (b ∷ d ∷ bs) = false

abbrev pub is_mark : ℕ → SeenToken → Bool
is_mark c t = if_mark t.kind (is_byte c t.text) false

abbrev pub is_word : List ℕ → SeenToken → Bool
is_word w t = if_word t.kind (bytes_eq t.text w) false

abbrev pub mark_at : ℕ → SeenToken → Option Place
mark_at c t = cond (is_mark c t) (Some t.at) None

abbrev pub word_at : List ℕ → SeenToken → Option Place
word_at w t = cond (is_word w t) (Some t.at) None

-- any word, a keyword included
abbrev pub name_at : SeenToken → Option (List ℕ)
name_at t = if_word t.kind (Some t.text) None

-- ---- the tokens of a text, one after the other

-- a `/` that begins a comment is no mark
abbrev pub unless_mark : Bool → Option Match → Option Match
unless_mark opens None = None
unless_mark opens (Some found) = cond (opens && (found.len == 1)) None (Some found)

-- the piece with which a text begins, if there is one
unfoldable pub front : List ℕ → Option Match
front text = unless_mark (opens_comment text) (longest_match text (length text))

-- a piece as a token, if it is one
abbrev pub seen_piece : PieceKind → Place → List ℕ → List SeenToken
seen_piece Gap at bytes = []
seen_piece (Is kind) at bytes = record { kind = kind; at = at; text = bytes } ∷ []

-- the tokens from a piece on, told those after it
abbrev pub tokens_of_front : (List ℕ → Place → List SeenToken)
    → List ℕ → Place → Option Match → List SeenToken
tokens_of_front next text at None = []
tokens_of_front next text at (Some found) =
    seen_piece found.kind at (take found.len text)
    ++ next (drop found.len text) (place_after at (take found.len text))

-- the tokens of this many pieces at most, at the front of a text that is at a place
unfoldable pub tokens_within : ℕ → List ℕ → Place → List SeenToken
tokens_within zero text at = []
tokens_within (suc n) text at = tokens_of_front (tokens_within n) text at (front text)

-- the tokens of a text at a place, up to its end or to what begins no piece; each piece has a byte, so there
-- are no more pieces than bytes
unfoldable pub tokens_in : List ℕ → Place → List SeenToken
tokens_in text at = tokens_within (length text) text at

-- the text is cut into tokens, which are these
abbrev pub HasTokens : List ℕ → List SeenToken → Type 0
HasTokens text seen = (tokens : List Token) × (AreTokens text tokens) × (seen ≡ seen_tokens text tokens)

-- ---- the next token

abbrev pub first_of : List SeenToken → Option SeenToken
first_of [] = None
first_of (t ∷ ts) = Some t
