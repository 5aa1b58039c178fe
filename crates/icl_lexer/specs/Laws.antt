-- What follows from the definition of a cutting.
use Rattle.std.specs.Prelude.{◌≡◌, ℕ, ◌<◌, ◌≤◌, ◌⊎◌, List, [], ◌∷◌, length, take, slice_range, Some}
use Rattle.ij_text.specs.Places.{first_place, place_after}
use Rattle.icl_lexer.specs.Token.{Token}
use Rattle.icl_lexer.specs.declared.token.PieceKind.TheVariants.{Is}
use Rattle.icl_lexer.specs.declared.fault.LexFault.{LexFault}
use Rattle.icl_lexer.specs.Pieces.{kind_of}
use Rattle.icl_lexer.specs.Cutting.{Piece, IsCutUpTo, AreTokens, HasFault}

-- a text is cut into pieces in one way at most
abbrev pub TokenizationIsUnique : Type 0
TokenizationIsUnique = (text : List ℕ) (pieces others : List Piece) → IsCutUpTo text pieces []
    → IsCutUpTo text others [] → pieces ≡ others

-- a text that isn't cut into pieces has a fault
abbrev pub TextsAreCutOrAtFault : Type 0
TextsAreCutOrAtFault = (text : List ℕ)
    → ((tokens : List Token) × (AreTokens text tokens)) ⊎ ((fault : LexFault) × (HasFault text fault))

-- a text that is cut into pieces has no fault
abbrev pub CutTextsHaveNoFault : Type 0
CutTextsHaveNoFault = (text : List ℕ) (tokens : List Token) (fault : LexFault)
    → AreTokens text tokens → HasFault text fault → ⊥

-- a text has one fault at most
abbrev pub FaultsAreOne : Type 0
FaultsAreOne = (text : List ℕ) (fault other : LexFault)
    → HasFault text fault → HasFault text other → fault ≡ other

-- the tokens are in the text one after the other from a byte on, each with its place, and the bytes of each
-- are a piece of its kind
abbrev pub AreInText : List ℕ → ℕ → List Token → Type 0
AreInText text from [] = from ≤ length text
AreInText text from (t ∷ ts) =
    (from ≤ t.start) × (t.start < t.end) × (t.end ≤ length text)
    × (t.at ≡ place_after first_place (take t.start text))
    × (kind_of (slice_range text t.start t.end) ≡ Some (Is t.kind))
    × (AreInText text t.end ts)

abbrev pub TokensAreInText : Type 0
TokensAreInText = (text : List ℕ) (tokens : List Token) → AreTokens text tokens → AreInText text 0 tokens
