-- A token of a text.
use Rattle.std.specs.Prelude.{ℕ}
use Rattle.ij_text.specs.declared.Place.{Place}
use Rattle.icl_lexer.specs.declared.token.TokenKind.{TokenKind}

-- what it is, the place of its first byte, the index of that byte in the text, and the index after its last
-- one
pub record Token : Type 0 where
  pub kind : TokenKind
  pub at : Place
  pub start : ℕ
  pub end : ℕ
