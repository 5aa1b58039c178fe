-- How tokens are laid out: one space between two of them, but a line end after `;`, `{` and `}`.
use Rattle.std.specs.Prelude.{ℕ, ◌==◌, ◌||◌, Bool, cond, List, [], ◌∷◌, ◌++◌}
use Rattle.icl_lexer.specs.declared.token.TokenKind.{TokenKind}
use Rattle.icl_lexer.specs.declared.token.TokenKind.TheVariants.{Word, Mark}

-- a token as it is spelled, wherever it is
pub record Spelling : Type 0 where
  pub kind : TokenKind
  pub text : List ℕ

abbrev pub word : List ℕ → Spelling
word w = record { kind = Word; text = w }

abbrev pub mark : ℕ → Spelling
mark c = record { kind = Mark; text = c ∷ [] }

-- `;`, `{` and `}` end a line
abbrev pub ends_line : ℕ → Bool
ends_line c = (c == 59) || (c == 123) || (c == 125)

abbrev pub gap_after : ℕ → ℕ
gap_after c = cond (ends_line c) 10 32

-- the blank after a token of this kind and text
abbrev pub blank_of : TokenKind → List ℕ → ℕ
blank_of Mark (c ∷ []) = gap_after c
blank_of kind text = 32

-- a token with the blank after it
abbrev pub with_blank : Spelling → List ℕ
with_blank t = t.text ++ (blank_of t.kind t.text ∷ [])

-- tokens, each with the blank after it
unfoldable pub layout : List Spelling → List ℕ
layout [] = []
layout (t ∷ ts) = with_blank t ++ layout ts
