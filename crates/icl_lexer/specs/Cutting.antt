-- How an ICL text is cut into pieces, its tokens and the gaps between them (IEEE 1687-2014).
use Rattle.std.specs.Prelude.{◌≡◌, ◌≢◌, ℕ, ◌+◌, ◌<◌, ◌≤◌, ◌==◌, Bool, true, false, ◌&&◌, ◌||◌, cond, List, []}
use Rattle.std.specs.Prelude.{◌∷◌, ◌++◌, length, take, Some, None}
use Rattle.ij_text.specs.declared.Place.{Place}
use Rattle.ij_text.specs.Places.{first_place, place_after}
use Rattle.icl_lexer.specs.Token.{Token}
use Rattle.icl_lexer.specs.declared.token.PieceKind.{PieceKind}
use Rattle.icl_lexer.specs.declared.token.PieceKind.TheVariants.{Gap, Is}
use Rattle.icl_lexer.specs.declared.fault.LexFault.{LexFault}
use Rattle.icl_lexer.specs.declared.fault.LexFault.TheVariants.{BadByte, OpenComment, OpenText}
use Rattle.icl_lexer.specs.Pieces.{kind_of}

-- ---- pieces

-- the text begins with `/*`
abbrev pub opens_block : List ℕ → Bool
opens_block [] = false
opens_block (a ∷ []) = false
opens_block (a ∷ b ∷ bs) = a == 47 && b == 42

-- the text begins with `//` or `/*`
abbrev pub opens_comment : List ℕ → Bool
opens_comment [] = false
opens_comment (a ∷ []) = false
opens_comment (a ∷ b ∷ bs) = a == 47 && (b == 47 || b == 42)

-- the first `len` bytes of the text are a piece of this kind, and no more of its bytes are one; a `/` that
-- begins a comment is no mark
pub record IsPiece (text : List ℕ) (kind : PieceKind) (len : ℕ) : Type 0 where
  pub within : len ≤ length text
  pub one : kind_of (take len text) ≡ Some kind
  pub longest : (n : ℕ) → len < n → n ≤ length text → kind_of (take n text) ≡ None
  pub no_comment : opens_comment text ≡ true → 1 < len

-- the text begins with no piece
abbrev pub NoPiece : List ℕ → Type 0
NoPiece text = (kind : PieceKind) (len : ℕ) → IsPiece text kind len → ⊥

-- ---- a cutting

pub record Piece : Type 0 where
  pub kind : PieceKind
  pub bytes : List ℕ

-- the bytes of some pieces, before a rest
abbrev pub joined : List Piece → List ℕ → List ℕ
joined [] rest = rest
joined (p ∷ ps) rest = p.bytes ++ joined ps rest

-- each piece is the longest that begins at its place
abbrev pub AreLongest : List Piece → List ℕ → Type 0
AreLongest [] rest = Unit {0}
AreLongest (p ∷ ps) rest = (IsPiece (joined (p ∷ ps) rest) p.kind (length p.bytes)) × (AreLongest ps rest)

-- the text is cut into these pieces up to a rest
pub record IsCutUpTo (text : List ℕ) (pieces : List Piece) (rest : List ℕ) : Type 0 where
  pub whole : joined pieces rest ≡ text
  pub longest : AreLongest pieces rest

-- the token at a place, if the piece is one
abbrev pub token_of : PieceKind → Place → ℕ → ℕ → List Token
token_of Gap at start end = []
token_of (Is kind) at start end = record { kind = kind; at = at; start = start; end = end } ∷ []

-- the tokens among pieces that begin at this index and place
abbrev pub tokens_from : ℕ → Place → List Piece → List Token
tokens_from start at [] = []
tokens_from start at (p ∷ ps) =
    token_of p.kind at start (start + length p.bytes)
    ++ tokens_from (start + length p.bytes) (place_after at p.bytes) ps

abbrev pub Tokens : Type 0
Tokens = List Token

-- the tokens of a whole text
abbrev pub AreTokens : List ℕ → List Token → Type 0
AreTokens text tokens = (pieces : List Piece) × (IsCutUpTo text pieces [])
    × (tokens ≡ tokens_from 0 first_place pieces)

-- ---- faults

-- the fault of a text that begins with no piece, with its place: a `"` (34) begins quoted text, `/*` a
-- comment
abbrev pub fault_of : List ℕ → Place → LexFault
fault_of [] at = BadByte at
fault_of (b ∷ bs) at =
    cond (b == 34) (OpenText at) (cond (opens_block (b ∷ bs)) (OpenComment at) (BadByte at))

-- the text is cut up to a rest that begins with no piece, where this fault is
pub record HasFault (text : List ℕ) (fault : LexFault) : Type 0 where
  pub pieces : List Piece
  pub rest : List ℕ
  pub cut : IsCutUpTo text pieces rest
  pub some : rest ≢ []
  pub stuck : NoPiece rest
  pub is : fault ≡ fault_of rest (place_after first_place (joined pieces []))
