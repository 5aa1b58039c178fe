-- The grammar of items, modules and designs (IEEE 1687-2014, as far as it is read here): one definition for
-- each production.
use Rattle.std.specs.Prelude.{ℕ, Bool, List, [], ◌∷◌, ◌++◌, Option, Some, None, codes}
use Rattle.ij_text.specs.Symbol.{one, give, ◌>>=◌, ◌<|>◌, repeat, many, appended, maybe}
use Rattle.ij_text.specs.declared.Place.{Place}
use Rattle.icl_lexer.specs.declared.tree.LinkKind.{LinkKind}
use Rattle.icl_lexer.specs.declared.tree.PortKind.{PortKind}
use Rattle.icl_lexer.specs.declared.tree.PortKind.TheVariants.{ScanInPort, ScanOutPort, DataInPort}
use Rattle.icl_lexer.specs.declared.tree.PortKind.TheVariants.{DataOutPort}
use Rattle.icl_lexer.specs.declared.words.ItemKeyword.{ItemKeyword}
use Rattle.icl_lexer.specs.declared.words.ItemKeyword.TheVariants.{OfPort, OfRegister, OfMux, OfChild}
use Rattle.icl_lexer.specs.declared.words.ItemKeyword.TheVariants.{OfAlias, OfEnum, OfParameter, OfAttribute}
use Rattle.icl_lexer.specs.declared.words.ItemKeyword.TheVariants.{OfInterface, OfLink}
use Rattle.icl_lexer.specs.declared.words.BindKeyword.{BindKeyword}
use Rattle.icl_lexer.specs.declared.words.BindKeyword.TheVariants.{BindsPort, BindsParameter, BindsAttribute}
use Rattle.icl_lexer.specs.declared.words.MemberKeyword.{MemberKeyword}
use Rattle.icl_lexer.specs.declared.words.MemberKeyword.TheVariants.{MemberPort, MemberAttribute}
use Rattle.icl_lexer.specs.declared.words.BodyKind.{BodyKind}
use Rattle.icl_lexer.specs.declared.words.BodyKind.TheVariants.{ScanIn, ScanOut, DataIn, DataOut, Control}
use Rattle.icl_lexer.specs.declared.words.BodyKind.TheVariants.{Register, Alias}
use Rattle.icl_lexer.specs.Seen.{SeenToken, if_word}
use Rattle.icl_lexer.specs.Words.{item_named, bind_named, member_named, link_named}
use Rattle.icl_lexer.specs.Values.{SeenRange, SeenRow, SeenBind, ABoundPort, ABoundParameter, ABoundAttribute}
use Rattle.icl_lexer.specs.Values.{SeenEnumWord, SeenLinkInstr, SeenWhat, APort, ARegister, AMux, AChild}
use Rattle.icl_lexer.specs.Values.{AnAlias, SomeWords, AParameter, AnInterface, ALink, AnAttribute, SeenItem}
use Rattle.icl_lexer.specs.Values.{SeenModule}
use Rattle.icl_lexer.specs.Grammar.{Of, mark, word, name, expr_after, value, parted, ended_by, range, sig}
use Rattle.icl_lexer.specs.Grammar.{sigs, body, attribute_said}

-- ---- ports

abbrev pub owner_of : PortKind → BodyKind
owner_of ScanInPort = ScanIn
owner_of ScanOutPort = ScanOut
owner_of DataInPort = DataIn
owner_of DataOutPort = DataOut
owner_of kind = Control

-- scan ports have no range
abbrev pub port_range : BodyKind → Of (Option SeenRange)
port_range ScanIn = give None
port_range ScanOut = give None
port_range DataIn = maybe range
port_range DataOut = maybe range
port_range Control = maybe range
port_range Register = maybe range
port_range Alias = maybe range

unfoldable pub port : PortKind → Of SeenWhat
port kind = do
  r ← port_range (owner_of kind)
  ps ← body (owner_of kind)
  give (APort kind r ps)

-- ---- registers, aliases, parameters and attributes

unfoldable pub register : Of SeenWhat
register = do
  r ← maybe range
  ps ← body Register
  give (ARegister r ps)

unfoldable pub alias : Of SeenWhat
alias = do
  r ← maybe range
  e ← mark 61
  ss ← sigs
  ps ← body Alias
  give (AnAlias r ss ps)

unfoldable pub parameter : Bool → Of SeenWhat
parameter local = do
  v ← expr_after 61
  s ← mark 59
  give (AParameter local v)

unfoldable pub attribute : Of SeenWhat
attribute = do
  v ← maybe (expr_after 61)
  s ← mark 59
  give (AnAttribute v)

-- ---- multiplexers

unfoldable pub row : Of SeenRow
row = do
  vs ← parted 124 value
  c ← mark 58
  s ← sig
  e ← mark 59
  give (record { values = vs; source = s })

-- one row or more
unfoldable pub rows : Of (List SeenRow)
rows = row >>= λ first. repeat (λ (rs : List SeenRow). row) appended (first ∷ [])

unfoldable pub mux : Of SeenWhat
mux = do
  by ← word (codes "SelectedBy")
  ss ← sigs
  o ← mark 123
  rs ← rows
  c ← mark 125
  give (AMux ss rs)

-- ---- instances

abbrev pub bind_word_at : SeenToken → Option BindKeyword
bind_word_at t = if_word t.kind (bind_named t.text) None

pub record BindBegin : Type 0 where
  pub at : Place
  pub word : BindKeyword

abbrev pub begun_by : Place → Option BindKeyword → Option BindBegin
begun_by at None = None
begun_by at (Some w) = Some (record { at = at; word = w })

abbrev pub bind_begin_at : SeenToken → Option BindBegin
bind_begin_at t = begun_by t.at (bind_word_at t)

unfoldable pub bound_port : Place → Of SeenBind
bound_port at = do
  n ← name
  r ← maybe range
  e ← mark 61
  ss ← sigs
  give (ABoundPort at n r ss)

unfoldable pub bound_parameter : Place → Of SeenBind
bound_parameter at = do
  n ← name
  v ← expr_after 61
  give (ABoundParameter at n v)

unfoldable pub bound_attribute : Of SeenBind
bound_attribute = attribute_said >>= λ a. give (ABoundAttribute a.name a.value)

abbrev pub bind_after : Place → BindKeyword → Of SeenBind
bind_after at BindsPort = bound_port at
bind_after at BindsParameter = bound_parameter at
bind_after at BindsAttribute = bound_attribute

unfoldable pub bind : Of SeenBind
bind = one bind_begin_at >>= λ b. ended_by 59 (bind_after b.at b.word)

abbrev pub braced : {A : Type 0} → Of A → Of (List A)
braced S = mark 123 >>= λ o. many S >>= λ xs. mark 125 >>= λ c. give xs

unfoldable pub binds : Of (List SeenBind)
binds = (mark 59 >>= λ e. give []) <|> braced bind

unfoldable pub child : Of SeenWhat
child = do
  of ← word (codes "Of")
  m ← name
  bs ← binds
  give (AChild m bs)

-- ---- enumerations and interfaces

unfoldable pub enum_word : Of SeenEnumWord
enum_word = do
  n ← name
  e ← mark 61
  v ← value
  s ← mark 59
  give (record { name = n; value = v })

unfoldable pub words : Of SeenWhat
words = braced enum_word >>= λ ws. give (SomeWords ws)

abbrev pub member_word_at : SeenToken → Option MemberKeyword
member_word_at t = if_word t.kind (member_named t.text) None

-- a port's name; attributes of an interface are read and not kept
abbrev pub member_after : MemberKeyword → Of (Option (List ℕ))
member_after MemberPort = name >>= λ n. give (Some n)
member_after MemberAttribute = attribute_said >>= λ a. give None

unfoldable pub member : Of (Option (List ℕ))
member = one member_word_at >>= λ w. ended_by 59 (member_after w)

abbrev pub with_member : List (List ℕ) → Option (List ℕ) → List (List ℕ)
with_member ns None = ns
with_member ns (Some n) = ns ++ n ∷ []

unfoldable pub interface : Of SeenWhat
interface = do
  o ← mark 123
  ps ← repeat (λ (ns : List (List ℕ)). member) with_member []
  c ← mark 125
  give (AnInterface ps)

-- ---- access links

-- the instance and the interface that an instruction selects
pub record Selected : Type 0 where
  pub cell : List ℕ
  pub interface : List ℕ

unfoldable pub selected : Of Selected
selected = do
  cell ← name
  d ← mark 46
  i ← name
  s ← mark 59
  give (record { cell = cell; interface = i })

unfoldable pub selecting : Of Selected
selecting = do
  w ← word (codes "ScanInterface")
  o ← mark 123
  s ← selected
  c ← mark 125
  give s

unfoldable pub instruction : Of SeenLinkInstr
instruction = do
  n ← name
  o ← mark 123
  s ← selecting
  c ← mark 125
  give (record { name = n; cell = s.cell; interface = s.interface })

abbrev pub link_kind_at : SeenToken → Option LinkKind
link_kind_at t = if_word t.kind (link_named t.text) None

-- the entity that an access link names
unfoldable pub entity : Of (List ℕ)
entity = do
  w ← word (codes "BSDLEntity")
  n ← name
  s ← mark 59
  give n

unfoldable pub link : Of SeenWhat
link = do
  of ← word (codes "Of")
  k ← one link_kind_at
  o ← mark 123
  e ← entity
  is ← many instruction
  c ← mark 125
  give (ALink k e is)

-- ---- items

abbrev pub item_word_at : SeenToken → Option ItemKeyword
item_word_at t = if_word t.kind (item_named t.text) None

-- the word of an item at its place
pub record ItemBegin : Type 0 where
  pub at : Place
  pub word : ItemKeyword

abbrev pub item_begun : Place → Option ItemKeyword → Option ItemBegin
item_begun at None = None
item_begun at (Some w) = Some (record { at = at; word = w })

abbrev pub item_begin_at : SeenToken → Option ItemBegin
item_begin_at t = item_begun t.at (item_word_at t)

-- what comes after an item's word and name
abbrev pub meaning_after : ItemKeyword → Of SeenWhat
meaning_after (OfPort kind) = port kind
meaning_after OfRegister = register
meaning_after OfMux = mux
meaning_after OfChild = child
meaning_after OfAlias = alias
meaning_after OfEnum = words
meaning_after (OfParameter local) = parameter local
meaning_after OfAttribute = attribute
meaning_after OfInterface = interface
meaning_after OfLink = link

unfoldable pub item : Of SeenItem
item = do
  b ← one item_begin_at
  n ← name
  m ← meaning_after b.word
  give (record { at = b.at; name = n; what = m })

-- ---- a design

-- a module at the place of its first word
unfoldable pub module_of : Of SeenModule
module_of = do
  at ← word (codes "Module")
  n ← name
  items ← braced item
  give (record { name = n; at = at; items = items })

unfoldable pub design : Of (List SeenModule)
design = many module_of
