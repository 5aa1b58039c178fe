-- The grammar of expressions, signals and bodies (IEEE 1687-2014, as far as it is read here): one definition
-- for each production.
use Rattle.std.specs.Prelude.{ℕ, zero, suc, ◌+◌, ◌-◌, Bool, true, false, ◌&&◌, not, cond, List, [], ◌∷◌, ◌++◌}
use Rattle.std.specs.Prelude.{length, drop, slice_range, Option, Some, None}
use Rattle.ij_text.specs.Symbol.{Symbol, one, give, none, barred, ◌>>=◌, ◌<|>◌, repeat, appended, maybe}
use Rattle.ij_text.specs.declared.Place.{Place}
use Rattle.icl_lexer.specs.declared.token.TokenKind.{TokenKind}
use Rattle.icl_lexer.specs.declared.token.TokenKind.TheVariants.{Word, Decimal, Sized, Quoted, Param, Mark}
use Rattle.icl_lexer.specs.declared.tree.Sign.{Sign}
use Rattle.icl_lexer.specs.declared.tree.Sign.TheVariants.{Plus, Minus, Times, Over, Rest}
use Rattle.icl_lexer.specs.declared.words.Limit.{Limit}
use Rattle.icl_lexer.specs.declared.words.Limit.TheVariants.{OfExpression}
use Rattle.icl_lexer.specs.declared.words.BodyKind.{BodyKind}
use Rattle.icl_lexer.specs.declared.words.BodyKind.TheVariants.{ScanIn, ScanOut, DataIn, DataOut, Control}
use Rattle.icl_lexer.specs.declared.words.BodyKind.TheVariants.{Register, Alias}
use Rattle.icl_lexer.specs.declared.words.PropKeyword.{PropKeyword}
use Rattle.icl_lexer.specs.declared.words.PropKeyword.TheVariants.{Source, LaunchEdge, DefaultLoadValue}
use Rattle.icl_lexer.specs.declared.words.PropKeyword.TheVariants.{RefEnum, ActivePolarity, ScanInSource}
use Rattle.icl_lexer.specs.declared.words.PropKeyword.TheVariants.{CaptureSource, ResetValue, AccessTogether}
use Rattle.icl_lexer.specs.declared.words.PropKeyword.TheVariants.{Attribute}
use Rattle.icl_lexer.specs.Seen.{SeenToken, if_word, is_mark, mark_at, word_at, name_at}
use Rattle.icl_lexer.specs.Tokens.{decimal_of, decimal_at}
use Rattle.icl_lexer.specs.Words.{prop_named}
use Rattle.icl_lexer.specs.Values.{SeenExpr, ADecimal, ASized, AQuoted, AParam, AnOp, SeenRange, SeenSigWhat}
use Rattle.icl_lexer.specs.Values.{ANumber, APath, SeenSig, SeenProp, ASource, ALaunchEdge, ALoadValue}
use Rattle.icl_lexer.specs.Values.{ARefEnum, APolarity, AScanInSource, ACaptureSource, AResetValue, ATogether}

abbrev pub Of : Type 0 → Type 1
Of A = Symbol SeenToken Limit A

abbrev pub mark : ℕ → Of Place
mark c = one (mark_at c)

abbrev pub word : List ℕ → Of Place
word w = one (word_at w)

-- any word, a keyword included
abbrev pub name : Of (List ℕ)
name = one name_at

-- ---- expressions

-- an expression; how many operators its outermost expression has up to here; and whether it is a sized
-- number, after which its innermost expression can't go on
pub record Counted : Type 0 where
  pub formula : SeenExpr
  pub used : ℕ
  pub lone : Bool

abbrev pub as_decimal : Option ℕ → Option SeenExpr
as_decimal None = None
as_decimal (Some n) = Some (ADecimal n)

-- a number: a decimal, a sized number or a parameter
abbrev pub number_of : TokenKind → Place → List ℕ → Option SeenExpr
number_of Decimal at text = as_decimal (decimal_of text)
number_of Sized at text = Some (ASized text)
number_of Param at text = Some (AParam at (drop 1 text))
number_of Word at text = None
number_of Quoted at text = None
number_of Mark at text = None

abbrev pub with_count : ℕ → Option SeenExpr → Option Counted
with_count used None = None
with_count used (Some f) = Some (record { formula = f; used = used; lone = false })

-- a number or a text; a sized number only where nothing comes before it in its innermost expression
abbrev pub leaf_of : Bool → ℕ → TokenKind → Place → List ℕ → Option Counted
leaf_of alone used Decimal at text = with_count used (as_decimal (decimal_of text))
leaf_of alone used Param at text = with_count used (Some (AParam at (drop 1 text)))
leaf_of alone used Quoted at text = with_count used (Some (AQuoted (slice_range text 1 (length text - 1))))
leaf_of alone used Sized at text =
    cond alone (Some (record { formula = ASized text; used = used; lone = true })) None
leaf_of alone used Word at text = None
leaf_of alone used Mark at text = None

abbrev pub leaf_at : Bool → ℕ → SeenToken → Option Counted
leaf_at alone used t = leaf_of alone used t.kind t.at t.text

-- an operator at its place
pub record Signed : Type 0 where
  pub sign : Sign
  pub at : Place

abbrev pub sum_sign : SeenToken → Option Signed
sum_sign t = cond (is_mark 43 t) (Some (record { sign = Plus; at = t.at }))
    (cond (is_mark 45 t) (Some (record { sign = Minus; at = t.at })) None)

abbrev pub product_sign : SeenToken → Option Signed
product_sign t =
    cond (is_mark 42 t) (Some (record { sign = Times; at = t.at }))
    (cond (is_mark 47 t) (Some (record { sign = Over; at = t.at }))
    (cond (is_mark 37 t) (Some (record { sign = Rest; at = t.at })) None))

-- one operator more than there may be
abbrev pub too_many : Option Signed → Option Limit
too_many None = None
too_many (Some s) = Some OfExpression

-- an operator, of which there may be `spare` more; none after a sized number
abbrev pub operator : ℕ → Bool → (SeenToken → Option Signed) → Of Signed
operator zero lone sign = barred (λ t. too_many (sign t))
operator (suc spare) true sign = none
operator (suc spare) false sign = one sign

-- an operator and its right operand
pub record Operand : Type 0 where
  pub sign : Signed
  pub right : Counted

abbrev pub with_operand : Counted → Operand → Counted
with_operand a o = record {
  formula = AnOp o.sign.at o.sign.sign a.formula o.right.formula;
  used = o.right.used;
  lone = false;
}

abbrev pub operand : (ℕ → Of Counted) → (SeenToken → Option Signed) → Counted → Of Operand
operand part sign a = do
  s ← operator (256 - a.used) a.lone sign
  b ← part (a.used + 1)
  give (record { sign = s; right = b })

-- a first part, and then any number of operators and parts, from the left; at most 256 operators in all
abbrev pub chain : (ℕ → Of Counted) → (ℕ → Of Counted) → (SeenToken → Option Signed) → ℕ → Of Counted
chain first part sign used = first used >>= λ a. repeat (operand part sign) with_operand a

-- what is in parentheses is no sized number
abbrev pub in_parentheses : (ℕ → Of Counted) → ℕ → Of Counted
in_parentheses whole used = do
  open' ← mark 40
  e ← whole used
  close ← mark 41
  give (record { formula = e.formula; used = e.used; lone = false })

-- one level of parentheses more than there may be
abbrev pub too_deep : SeenToken → Option Limit
too_deep t = cond (is_mark 40 t) (Some OfExpression) None

-- a factor with at most `depth` levels of parentheses, where a sized number may stand or not
unfoldable pub factor : ℕ → Bool → ℕ → Of Counted
factor zero alone used = barred too_deep <|> one (leaf_at alone used)
factor (suc depth) alone used =
    in_parentheses (chain (chain (factor depth true) (factor depth false) product_sign)
    (chain (factor depth false) (factor depth false) product_sign) sum_sign) used
    <|> one (leaf_at alone used)

abbrev pub term : ℕ → Bool → ℕ → Of Counted
term depth alone used = chain (factor depth alone) (factor depth false) product_sign used

-- an expression within at most `depth` further levels of parentheses
abbrev pub sum_of : ℕ → ℕ → Of Counted
sum_of depth used = chain (term depth true) (term depth false) sum_sign used

-- an expression: at most 64 levels of parentheses and 256 operators
unfoldable pub expr : Of SeenExpr
expr = sum_of 64 0 >>= λ e. give e.formula

-- ---- lists of parts

-- S, then any number of S after a mark
abbrev pub parted : {A : Type 0} → ℕ → Of A → Of (List A)
parted {A} c S = S >>= λ a. repeat (λ (xs : List A). mark c >>= λ m. S) appended (a ∷ [])

-- S, and its end
abbrev pub ended_by : {A : Type 0} → ℕ → Of A → Of A
ended_by c S = S >>= λ a. mark c >>= λ e. give a

unfoldable pub value : Of (List SeenExpr)
value = parted 44 expr

-- an expression after a mark
abbrev pub expr_after : ℕ → Of SeenExpr
expr_after c = mark c >>= λ m. expr

unfoldable pub range : Of SeenRange
range = do
  at ← mark 91
  left ← expr
  right ← maybe (expr_after 58)
  close ← mark 93
  give (record { at = at; left = left; right = right })

-- ---- signals

-- what a signal is, at the place of its first token
pub record Located : Type 0 where
  pub at : Place
  pub what : SeenSigWhat

abbrev pub number_located : Place → Option SeenExpr → Option Located
number_located at None = None
number_located at (Some f) = Some (record { at = at; what = ANumber f })

abbrev pub number_at : SeenToken → Option Located
number_at t = number_located t.at (number_of t.kind t.at t.text)

-- a name at its place
pub record Named : Type 0 where
  pub at : Place
  pub name : List ℕ

abbrev pub named_at : SeenToken → Option Named
named_at t = if_word t.kind (Some (record { at = t.at; name = t.text })) None

-- names with dots between them
unfoldable pub path_after : List ℕ → Of (List (List ℕ))
path_after first = repeat (λ (ns : List (List ℕ)). mark 46 >>= λ d. name) appended (first ∷ [])

unfoldable pub named_sig : Of Located
named_sig = do
  first ← one named_at
  path ← path_after first.name
  r ← maybe range
  give (record { at = first.at; what = APath path r })

abbrev pub plain_sig : Of Located
plain_sig = named_sig <|> one number_at

unfoldable pub sig : Of SeenSig
sig =
    (mark 126 >>= λ at. plain_sig >>= λ s. give (record { at = at; inverted = true; what = s.what }))
    <|> (plain_sig >>= λ s. give (record { at = s.at; inverted = false; what = s.what }))

unfoldable pub sigs : Of (List SeenSig)
sigs = parted 44 sig

-- ---- properties

-- which properties a body takes, attributes included
abbrev pub takes : BodyKind → PropKeyword → Bool
takes ScanOut Source = true
takes ScanOut LaunchEdge = true
takes DataIn DefaultLoadValue = true
takes DataIn RefEnum = true
takes DataOut Source = true
takes DataOut RefEnum = true
takes Control Source = true
takes Control ActivePolarity = true
takes Register ScanInSource = true
takes Register CaptureSource = true
takes Register ResetValue = true
takes Register DefaultLoadValue = true
takes Register RefEnum = true
takes Alias RefEnum = true
takes Alias AccessTogether = true
takes owner Attribute = true
takes owner w = false

abbrev pub is_prop : PropKeyword → SeenProp → Bool
is_prop Source (ASource s) = true
is_prop LaunchEdge (ALaunchEdge w) = true
is_prop DefaultLoadValue (ALoadValue v) = true
is_prop RefEnum (ARefEnum n) = true
is_prop ActivePolarity (APolarity n) = true
is_prop ScanInSource (AScanInSource s) = true
is_prop CaptureSource (ACaptureSource s) = true
is_prop ResetValue (AResetValue v) = true
is_prop AccessTogether ATogether = true
is_prop w p = false

-- whether a property of this kind is in the body already; attributes aren't kept
abbrev pub stands : PropKeyword → List SeenProp → Bool
stands w [] = false
stands w (p ∷ ps) = cond (is_prop w p) true (stands w ps)

-- a property's word, where such a property may stand
abbrev pub free_word : BodyKind → List SeenProp → Option PropKeyword → Option PropKeyword
free_word owner ps None = None
free_word owner ps (Some w) = cond (takes owner w && not (stands w ps)) (Some w) None

abbrev pub prop_word_at : SeenToken → Option PropKeyword
prop_word_at t = if_word t.kind (prop_named t.text) None

abbrev pub free_prop_at : BodyKind → List SeenProp → SeenToken → Option PropKeyword
free_prop_at owner ps t = free_word owner ps (prop_word_at t)

-- an attribute after its word
pub record AttributeSaid : Type 0 where
  pub name : List ℕ
  pub value : Option SeenExpr

unfoldable pub attribute_said : Of AttributeSaid
attribute_said = do
  n ← name
  v ← maybe (expr_after 61)
  give (record { name = n; value = v })

abbrev pub decimal_token : SeenToken → Option ℕ
decimal_token t = decimal_at t.kind t.text

-- the source of a ScanOutPort is one signal
abbrev pub sources : BodyKind → Of (List SeenSig)
sources ScanOut = sig >>= λ s. give (s ∷ [])
sources ScanIn = sigs
sources DataIn = sigs
sources DataOut = sigs
sources Control = sigs
sources Register = sigs
sources Alias = sigs

-- what comes after the word of a property; an attribute isn't kept
unfoldable pub prop_after : BodyKind → PropKeyword → Of (Option SeenProp)
prop_after owner Source = sources owner >>= λ s. give (Some (ASource s))
prop_after owner LaunchEdge = name >>= λ n. give (Some (ALaunchEdge n))
prop_after owner DefaultLoadValue = value >>= λ v. give (Some (ALoadValue v))
prop_after owner RefEnum = name >>= λ n. give (Some (ARefEnum n))
prop_after owner ActivePolarity = one decimal_token >>= λ n. give (Some (APolarity n))
prop_after owner ScanInSource = sig >>= λ s. give (Some (AScanInSource s))
prop_after owner CaptureSource = sigs >>= λ s. give (Some (ACaptureSource s))
prop_after owner ResetValue = value >>= λ v. give (Some (AResetValue v))
prop_after owner AccessTogether = give (Some ATogether)
prop_after owner Attribute = attribute_said >>= λ a. give None

unfoldable pub property : BodyKind → List SeenProp → Of (Option SeenProp)
property owner ps = one (free_prop_at owner ps) >>= λ w. ended_by 59 (prop_after owner w)

abbrev pub with_property : List SeenProp → Option SeenProp → List SeenProp
with_property ps None = ps
with_property ps (Some p) = ps ++ p ∷ []

-- a register needs a ScanInSource
abbrev pub lacks : BodyKind → List SeenProp → Bool
lacks Register ps = not (stands ScanInSource ps)
lacks ScanIn ps = false
lacks ScanOut ps = false
lacks DataIn ps = false
lacks DataOut ps = false
lacks Control ps = false
lacks Alias ps = false

-- the end of a body, where nothing lacks
abbrev pub body_end : BodyKind → List SeenProp → ℕ → Of (List SeenProp)
body_end owner ps c = cond (lacks owner ps) none (mark c >>= λ e. give ps)

unfoldable pub body : BodyKind → Of (List SeenProp)
body owner = body_end owner [] 59 <|>
    (mark 123 >>= λ o. repeat (property owner) with_property [] >>= λ ps. body_end owner ps 125)
