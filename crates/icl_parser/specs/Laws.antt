-- What follows from the grammar.
use Rattle.std.specs.Prelude.{◌≡◌, ℕ, List}
use Rattle.ij_text.specs.declared.Place.{Place}
use Rattle.icl_lexer.specs.Seen.{SeenToken}
use Rattle.icl_lexer.specs.Values.{SeenModule}
use Rattle.icl_lexer.specs.Modules.{design}
use Rattle.icl_parser.specs.declared.fault.ParseFault.{ParseFault}
use Rattle.icl_parser.specs.declared.fault.ParseFault.TheVariants.{OutOfMemory, LeftOut, ExprLimit, Syntax}
use Rattle.icl_parser.specs.Refusals.{IsRefused}

-- a fault without where it lies in memory
pub data SeenFault : Type 0 where
  NoMemory : SeenFault
  ALeftOut : Place → List ℕ → SeenFault
  AnExprLimit : Place → SeenFault
  ASyntax : Place → SeenFault

abbrev pub seen_fault : ParseFault → SeenFault
seen_fault OutOfMemory = NoMemory
seen_fault (LeftOut at word) = ALeftOut at word.items
seen_fault (ExprLimit at) = AnExprLimit at
seen_fault (Syntax at) = ASyntax at

-- tokens have one design at most
abbrev pub DesignsAreOne : Type 0
DesignsAreOne = (tokens : List SeenToken) (d e : List SeenModule)
    → design.derives tokens d → design.derives tokens e → d ≡ e

-- a text is refused in one way at most
abbrev pub RefusalsAreOne : Type 0
RefusalsAreOne = (text : List ℕ) (tokens : List SeenToken) (fault other : ParseFault)
    → IsRefused text tokens fault → IsRefused text tokens other → seen_fault fault ≡ seen_fault other

-- a text that has a design isn't refused
abbrev pub DesignsAreNotRefused : Type 0
DesignsAreNotRefused = (text : List ℕ) (tokens : List SeenToken) (d : List SeenModule) (fault : ParseFault)
    → design.derives tokens d → IsRefused text tokens fault → ⊥
