-- How a text is refused.
use Rattle.std.specs.Prelude.{◌≡◌, Bool, true, false, ℕ, List, [], ◌∷◌, ◌++◌, Option, Some, None}
use Rattle.ij_text.specs.Refusal.{CantGoOn}
use Rattle.ij_text.specs.declared.Place.{Place}
use Rattle.ij_text.specs.Places.{end_of}
use Rattle.icl_lexer.specs.declared.words.Limit.{Limit}
use Rattle.icl_lexer.specs.Seen.{SeenToken, if_word}
use Rattle.icl_lexer.specs.Tokens.{is_left_out}
use Rattle.icl_lexer.specs.Values.{SeenModule}
use Rattle.icl_lexer.specs.Modules.{design}
use Rattle.icl_parser.specs.declared.fault.ParseFault.{ParseFault}
use Rattle.icl_parser.specs.declared.fault.ParseFault.TheVariants.{OutOfMemory, LeftOut, ExprLimit, Syntax}

-- a value of the grammar: what modules are
abbrev pub Blocks : Type 0
Blocks = List SeenModule

-- a token that is a word of ICL that is left out
abbrev pub left_out_at : SeenToken → Bool
left_out_at t = if_word t.kind (is_left_out t.text) false

-- the fault at a token: a limit bars it, or it is a word that is left out, or neither
abbrev pub IsFaultAt : SeenToken → Option Limit → ParseFault → Type 0
IsFaultAt t (Some limit) (ExprLimit at) = at ≡ t.at
IsFaultAt t None (LeftOut at word) = (left_out_at t ≡ true) × (at ≡ t.at) × (word.items ≡ t.text)
IsFaultAt t None (Syntax at) = (left_out_at t ≡ false) × (at ≡ t.at)
IsFaultAt t why fault = ⊥

-- the fault at the next token, or at the end of the text
abbrev pub IsFaultOf : Place → List SeenToken → Option Limit → ParseFault → Type 0
IsFaultOf end (t ∷ rest) why fault = IsFaultAt t why fault
IsFaultOf end [] why (Syntax at) = at ≡ end
IsFaultOf end [] why OutOfMemory = ⊥
IsFaultOf end [] why (LeftOut at word) = ⊥
IsFaultOf end [] why (ExprLimit at) = ⊥

-- a text with these tokens is refused so: some design's tokens begin with those before, and no design's begin
-- with these and the next one, or they are all and no design has them
pub record IsRefused (text : List ℕ) (tokens : List SeenToken) (fault : ParseFault) : Type 0 where
  pub front : List SeenToken
  pub rest : List SeenToken
  pub why : Option Limit
  pub whole : tokens ≡ front ++ rest
  pub viable : design.viable front
  pub stuck : CantGoOn design front rest why
  pub told : IsFaultOf (end_of text) rest why fault

-- a refusal, unless memory ran out
abbrev pub OnRefusal : List ℕ → List SeenToken → ParseFault → Type 0
OnRefusal text tokens OutOfMemory = Unit {0}
OnRefusal text tokens (LeftOut at word) = IsRefused text tokens (LeftOut at word)
OnRefusal text tokens (ExprLimit at) = IsRefused text tokens (ExprLimit at)
OnRefusal text tokens (Syntax at) = IsRefused text tokens (Syntax at)
