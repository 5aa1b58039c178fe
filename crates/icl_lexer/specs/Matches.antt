-- The longest piece with which a text begins.
use Rattle.std.specs.Prelude.{ℕ, zero, suc, Bool, cond, List, [], ◌∷◌, Option, Some, None, take}
use Rattle.icl_lexer.specs.declared.token.PieceKind.{PieceKind}
use Rattle.icl_lexer.specs.declared.pieces.Match.{Match}
use Rattle.icl_lexer.specs.Pieces.{kind_of}

-- a longer match takes the place of one before
abbrev pub longer : Option Match → Option PieceKind → ℕ → Option Match
longer found (Some kind) len = Some (record { kind = kind; len = len })
longer found None len = found

-- the longest match of at most n bytes
abbrev pub longest_match : List ℕ → ℕ → Option Match
longest_match text zero = None
longest_match text (suc n) = longer (longest_match text n) (kind_of (take (suc n) text)) (suc n)

-- how many bytes at the front of a text are of a class
abbrev pub run_len : (ℕ → Bool) → List ℕ → ℕ
run_len class [] = 0
run_len class (b ∷ bs) = cond (class b) (suc (run_len class bs)) 0
