-- The values that the grammar gives: the trees of `src/tree.rt` without where their parts lie in memory.
use Rattle.std.specs.Prelude.{ℕ, Bool, List, Option}
use Rattle.ij_text.specs.declared.Place.{Place}
use Rattle.icl_lexer.specs.declared.tree.Sign.{Sign}
use Rattle.icl_lexer.specs.declared.tree.PortKind.{PortKind}
use Rattle.icl_lexer.specs.declared.tree.LinkKind.{LinkKind}

-- an expression
pub data SeenExpr : Type 0 where
  ADecimal : ℕ → SeenExpr
  ASized : List ℕ → SeenExpr
  AQuoted : List ℕ → SeenExpr
  AParam : Place → List ℕ → SeenExpr
  AnOp : Place → Sign → SeenExpr → SeenExpr → SeenExpr

-- a range
pub record SeenRange : Type 0 where
  pub at : Place
  pub left : SeenExpr
  pub right : Option SeenExpr

-- what a signal is
pub data SeenSigWhat : Type 0 where
  ANumber : SeenExpr → SeenSigWhat
  APath : List (List ℕ) → Option SeenRange → SeenSigWhat

pub record SeenSig : Type 0 where
  pub at : Place
  pub inverted : Bool
  pub what : SeenSigWhat

-- a property; an attribute's name and value aren't kept
pub data SeenProp : Type 0 where
  ASource : List SeenSig → SeenProp
  ALaunchEdge : List ℕ → SeenProp
  ALoadValue : List SeenExpr → SeenProp
  ARefEnum : List ℕ → SeenProp
  APolarity : ℕ → SeenProp
  AScanInSource : SeenSig → SeenProp
  ACaptureSource : List SeenSig → SeenProp
  AResetValue : List SeenExpr → SeenProp
  ATogether : SeenProp

-- a row of a multiplexer
pub record SeenRow : Type 0 where
  pub values : List (List SeenExpr)
  pub source : SeenSig

-- what an instance binds
pub data SeenBind : Type 0 where
  ABoundPort : Place → List ℕ → Option SeenRange → List SeenSig → SeenBind
  ABoundParameter : Place → List ℕ → SeenExpr → SeenBind
  ABoundAttribute : List ℕ → Option SeenExpr → SeenBind

-- a word of an enumeration
pub record SeenEnumWord : Type 0 where
  pub name : List ℕ
  pub value : List SeenExpr

-- an instruction of an access link
pub record SeenLinkInstr : Type 0 where
  pub name : List ℕ
  pub cell : List ℕ
  pub interface : List ℕ

-- what an item declares
pub data SeenWhat : Type 0 where
  APort : PortKind → Option SeenRange → List SeenProp → SeenWhat
  ARegister : Option SeenRange → List SeenProp → SeenWhat
  AMux : List SeenSig → List SeenRow → SeenWhat
  AChild : List ℕ → List SeenBind → SeenWhat
  AnAlias : Option SeenRange → List SeenSig → List SeenProp → SeenWhat
  SomeWords : List SeenEnumWord → SeenWhat
  AParameter : Bool → SeenExpr → SeenWhat
  AnInterface : List (List ℕ) → SeenWhat
  ALink : LinkKind → List ℕ → List SeenLinkInstr → SeenWhat
  AnAttribute : Option SeenExpr → SeenWhat

-- an item at the place of its first word
pub record SeenItem : Type 0 where
  pub at : Place
  pub name : List ℕ
  pub what : SeenWhat

-- a module at the place of its first word
pub record SeenModule : Type 0 where
  pub name : List ℕ
  pub at : Place
  pub items : List SeenItem
