-- What contracts see of tokens with their texts.
use Rattle.std.specs.Prelude.{ℕ, ◌+◌, ◌^◌, ◌<◌, ◌≤◌, List, [], ◌∷◌, Option, Some, None}
use Rattle.ij_text.specs.declared.Place.{Place}
use Rattle.ij_text.specs.Places.{place_after}
use Rattle.icl_lexer.specs.declared.token.TokenKind.{TokenKind}
use Rattle.icl_lexer.specs.declared.lexeme.Lexeme.{Lexeme}
use Rattle.icl_lexer.specs.Seen.{SeenToken, tokens_in}

abbrev pub tok : Lexeme → SeenToken
tok l = record { kind = l.kind; at = l.at; text = l.text.now }

-- a token at a place, and those of the text after it
abbrev pub tokens_at_hand : Option TokenKind → Place → List ℕ → List ℕ → List SeenToken
tokens_at_hand None at text after = []
tokens_at_hand (Some kind) at text after =
    record { kind = kind; at = at; text = text } ∷ tokens_in after (place_after at text)

-- the places of this many bytes from a place on, and the one after them, are below 2^32
abbrev pub HasPlaces : Place → ℕ → Type 0
HasPlaces at n = (1 ≤ at.col) × (at.line + at.col + n < 2 ^ 32)

-- the next token and those after it
abbrev pub seen_next : Option (Lexeme × List SeenToken) → List SeenToken
seen_next None = []
seen_next (Some (t, ts)) = tok t ∷ ts
