-- The tokens of a design, as it is printed.
use Rattle.std.specs.Prelude.{ℕ, ◌+◌, nat_lt, Bool, true, false, List, [], ◌∷◌, ◌++◌, Option, Some, None}
use Rattle.std.specs.Prelude.{codes, decimal}
use Rattle.icl_lexer.specs.declared.token.TokenKind.TheVariants as kind
use Rattle.icl_lexer.specs.declared.tree.Sign.{Sign}
use Rattle.icl_lexer.specs.declared.tree.Sign.TheVariants.{Plus, Minus, Times, Over, Rest}
use Rattle.icl_lexer.specs.declared.tree.LinkKind.{LinkKind}
use Rattle.icl_lexer.specs.declared.tree.PortKind.{PortKind}
use Rattle.icl_lexer.specs.Words.{port_word, link_word}
use Rattle.icl_lexer.specs.Values.{SeenExpr, ADecimal, ASized, AQuoted, AParam, AnOp, SeenRange, SeenSigWhat}
use Rattle.icl_lexer.specs.Values.{ANumber, APath, SeenSig, SeenProp, ASource, ALaunchEdge, ALoadValue}
use Rattle.icl_lexer.specs.Values.{ARefEnum, APolarity, AScanInSource, ACaptureSource, AResetValue, ATogether}
use Rattle.icl_lexer.specs.Values.{SeenRow, SeenBind, ABoundPort, ABoundParameter, ABoundAttribute}
use Rattle.icl_lexer.specs.Values.{SeenEnumWord, SeenLinkInstr, SeenWhat, APort, ARegister, AMux, AChild}
use Rattle.icl_lexer.specs.Values.{AnAlias, SomeWords, AParameter, AnInterface, ALink, AnAttribute, SeenItem}
use Rattle.icl_lexer.specs.Values.{SeenModule}
use Rattle.icl_printer.specs.Layout.{Spelling, word, mark, layout}

-- ---- lists of parts

-- one after the other
abbrev pub in_turn : {A : Type 0} → (A → List Spelling) → List A → List Spelling
in_turn f [] = []
in_turn f (x ∷ xs) = f x ++ in_turn f xs

-- after a mark
abbrev pub after : {A : Type 0} → ℕ → (A → List Spelling) → A → List Spelling
after c f x = mark c ∷ f x

-- with a mark between two
abbrev pub separated : {A : Type 0} → ℕ → (A → List Spelling) → List A → List Spelling
separated c f [] = []
separated c f (x ∷ xs) = f x ++ in_turn (after c f) xs

-- in braces, or `;` where there is none
abbrev pub braced : {A : Type 0} → (A → List Spelling) → List A → List Spelling
braced f [] = mark 59 ∷ []
braced f (x ∷ xs) = mark 123 ∷ (in_turn f (x ∷ xs) ++ (mark 125 ∷ []))

abbrev pub if_there : {A : Type 0} → (A → List Spelling) → Option A → List Spelling
if_there f None = []
if_there f (Some x) = f x

-- ---- expressions

abbrev pub sign_mark : Sign → ℕ
sign_mark Plus = 43
sign_mark Minus = 45
sign_mark Times = 42
sign_mark Over = 47
sign_mark Rest = 37

-- how tightly an operator binds
abbrev pub binding_of : Sign → ℕ
binding_of Plus = 1
binding_of Minus = 1
binding_of Times = 2
binding_of Over = 2
binding_of Rest = 2

-- how tightly a formula holds together. A sized number is alone in its expression, so as an operand it is
-- the loosest
abbrev pub binding : SeenExpr → ℕ
binding (ADecimal n) = 3
binding (ASized t) = 0
binding (AQuoted t) = 3
binding (AParam at n) = 3
binding (AnOp at sign a b) = binding_of sign

abbrev pub mark_if : Bool → ℕ → List Spelling
mark_if false c = []
mark_if true c = mark c ∷ []

abbrev pub in_parentheses : Bool → List Spelling → List Spelling
in_parentheses b ts = mark_if b 40 ++ (ts ++ mark_if b 41)

-- a formula without parentheses round it. Operators group from the left: so a right operand that binds as
-- tightly has parentheses, and a left one hasn't
abbrev pub formula_tokens : SeenExpr → List Spelling
formula_tokens (ADecimal n) = record { kind = kind.Decimal; text = decimal n } ∷ []
formula_tokens (ASized t) = record { kind = kind.Sized; text = t } ∷ []
formula_tokens (AQuoted t) = record { kind = kind.Quoted; text = 34 ∷ (t ++ (34 ∷ [])) } ∷ []
formula_tokens (AParam at n) = record { kind = kind.Param; text = 36 ∷ n } ∷ []
formula_tokens (AnOp at sign a b) =
    in_parentheses (nat_lt (binding a) (binding_of sign)) (formula_tokens a)
    ++ (mark (sign_mark sign) ∷ in_parentheses (nat_lt (binding b) (binding_of sign + 1)) (formula_tokens b))

-- the numbers of a concatenation
abbrev pub value_tokens : List SeenExpr → List Spelling
value_tokens = separated 44 formula_tokens

abbrev pub range_tokens : SeenRange → List Spelling
range_tokens r = mark 91
    ∷ (formula_tokens r.left ++ (if_there (after 58 formula_tokens) r.right ++ (mark 93 ∷ [])))

-- ---- signals

abbrev pub name_tokens : List ℕ → List Spelling
name_tokens n = word n ∷ []

abbrev pub meant_tokens : SeenSigWhat → List Spelling
meant_tokens (ANumber f) = formula_tokens f
meant_tokens (APath path r) = separated 46 name_tokens path ++ if_there range_tokens r

abbrev pub signal_tokens : SeenSig → List Spelling
signal_tokens s = mark_if s.inverted 126 ++ meant_tokens s.what

abbrev pub signals_tokens : List SeenSig → List Spelling
signals_tokens = separated 44 signal_tokens

-- ---- bodies

abbrev pub property_tokens : SeenProp → List Spelling
property_tokens (ASource ss) = word (codes "Source") ∷ (signals_tokens ss ++ (mark 59 ∷ []))
property_tokens (ALaunchEdge w) = word (codes "LaunchEdge") ∷ word w ∷ mark 59 ∷ []
property_tokens (ALoadValue v) = word (codes "DefaultLoadValue") ∷ (value_tokens v ++ (mark 59 ∷ []))
property_tokens (ARefEnum n) = word (codes "RefEnum") ∷ word n ∷ mark 59 ∷ []
property_tokens (APolarity n) = word (codes "ActivePolarity")
    ∷ record { kind = kind.Decimal; text = decimal n } ∷ mark 59 ∷ []
property_tokens (AScanInSource s) = word (codes "ScanInSource") ∷ (signal_tokens s ++ (mark 59 ∷ []))
property_tokens (ACaptureSource ss) = word (codes "CaptureSource") ∷ (signals_tokens ss ++ (mark 59 ∷ []))
property_tokens (AResetValue v) = word (codes "ResetValue") ∷ (value_tokens v ++ (mark 59 ∷ []))
property_tokens ATogether = word (codes "AccessTogether") ∷ mark 59 ∷ []

-- ---- items

abbrev pub parameter_word : Bool → List ℕ
parameter_word false = codes "Parameter"
parameter_word true = codes "LocalParameter"

abbrev pub row_tokens : SeenRow → List Spelling
row_tokens r = separated 124 value_tokens r.values ++ (mark 58 ∷ (signal_tokens r.source ++ (mark 59 ∷ [])))

abbrev pub attribute_tokens : List ℕ → Option SeenExpr → List Spelling
attribute_tokens n v = word (codes "Attribute") ∷ word n
    ∷ (if_there (after 61 formula_tokens) v ++ (mark 59 ∷ []))

abbrev pub port_binding_tokens : List ℕ → Option SeenRange → List SeenSig → List Spelling
port_binding_tokens n r ss = word (codes "InputPort") ∷ word n
    ∷ (if_there range_tokens r ++ (mark 61 ∷ (signals_tokens ss ++ (mark 59 ∷ []))))

abbrev pub parameter_binding_tokens : List ℕ → SeenExpr → List Spelling
parameter_binding_tokens n v = word (codes "Parameter") ∷ word n
    ∷ mark 61 ∷ (formula_tokens v ++ (mark 59 ∷ []))

abbrev pub binding_tokens : SeenBind → List Spelling
binding_tokens (ABoundPort at n r ss) = port_binding_tokens n r ss
binding_tokens (ABoundParameter at n v) = parameter_binding_tokens n v
binding_tokens (ABoundAttribute n v) = attribute_tokens n v

abbrev pub enum_tokens : SeenEnumWord → List Spelling
enum_tokens w = word w.name ∷ mark 61 ∷ (value_tokens w.value ++ (mark 59 ∷ []))

abbrev pub member_tokens : List ℕ → List Spelling
member_tokens n = word (codes "Port") ∷ word n ∷ mark 59 ∷ []

abbrev pub instruction_tokens : SeenLinkInstr → List Spelling
instruction_tokens i =
    word i.name ∷ mark 123 ∷ word (codes "ScanInterface") ∷ mark 123 ∷ word i.cell ∷ mark 46
    ∷ word i.interface ∷ mark 59 ∷ mark 125 ∷ mark 125 ∷ []

abbrev pub port_tokens : List ℕ → PortKind → Option SeenRange → List SeenProp → List Spelling
port_tokens n k r ps = word (port_word k) ∷ word n ∷ (if_there range_tokens r ++ braced property_tokens ps)

abbrev pub register_tokens : List ℕ → Option SeenRange → List SeenProp → List Spelling
register_tokens n r ps = word (codes "ScanRegister") ∷ word n
    ∷ (if_there range_tokens r ++ braced property_tokens ps)

abbrev pub mux_tokens : List ℕ → List SeenSig → List SeenRow → List Spelling
mux_tokens n ss rs = word (codes "ScanMux") ∷ word n ∷ word (codes "SelectedBy")
    ∷ (signals_tokens ss ++ (mark 123 ∷ (in_turn row_tokens rs ++ (mark 125 ∷ []))))

abbrev pub child_tokens : List ℕ → List ℕ → List SeenBind → List Spelling
child_tokens n m bs = word (codes "Instance") ∷ word n ∷ word (codes "Of") ∷ word m ∷ braced binding_tokens bs

abbrev pub alias_tokens : List ℕ → Option SeenRange → List SeenSig → List SeenProp → List Spelling
alias_tokens n r ss ps = word (codes "Alias") ∷ word n
    ∷ (if_there range_tokens r ++ (mark 61 ∷ (signals_tokens ss ++ braced property_tokens ps)))

abbrev pub words_tokens : List ℕ → List SeenEnumWord → List Spelling
words_tokens n ws = word (codes "Enum") ∷ word n ∷ mark 123 ∷ (in_turn enum_tokens ws ++ (mark 125 ∷ []))

abbrev pub parameter_tokens : List ℕ → Bool → SeenExpr → List Spelling
parameter_tokens n local v = word (parameter_word local) ∷ word n
    ∷ mark 61 ∷ (formula_tokens v ++ (mark 59 ∷ []))

abbrev pub interface_tokens : List ℕ → List (List ℕ) → List Spelling
interface_tokens n ps = word (codes "ScanInterface") ∷ word n ∷ mark 123
    ∷ (in_turn member_tokens ps ++ (mark 125 ∷ []))

abbrev pub link_tokens : List ℕ → LinkKind → List ℕ → List SeenLinkInstr → List Spelling
link_tokens n k entity is =
    word (codes "AccessLink") ∷ word n ∷ word (codes "Of") ∷ word (link_word k) ∷ mark 123 ∷ word
    (codes "BSDLEntity") ∷ word entity ∷ mark 59 ∷ (in_turn instruction_tokens is ++ (mark 125 ∷ []))

-- an item with this name
abbrev pub item_tokens : List ℕ → SeenWhat → List Spelling
item_tokens n (APort k r ps) = port_tokens n k r ps
item_tokens n (ARegister r ps) = register_tokens n r ps
item_tokens n (AMux ss rs) = mux_tokens n ss rs
item_tokens n (AChild m bs) = child_tokens n m bs
item_tokens n (AnAlias r ss ps) = alias_tokens n r ss ps
item_tokens n (SomeWords ws) = words_tokens n ws
item_tokens n (AParameter local v) = parameter_tokens n local v
item_tokens n (AnInterface ps) = interface_tokens n ps
item_tokens n (ALink k entity is) = link_tokens n k entity is
item_tokens n (AnAttribute v) = attribute_tokens n v

abbrev pub thing_tokens : SeenItem → List Spelling
thing_tokens t = item_tokens t.name t.what

abbrev pub module_tokens : SeenModule → List Spelling
module_tokens m = word (codes "Module") ∷ word m.name ∷ mark 123
    ∷ (in_turn thing_tokens m.items ++ (mark 125 ∷ []))

-- ---- a design

unfoldable pub tokens_of : List SeenModule → List Spelling
tokens_of d = in_turn module_tokens d

-- the text of a design
abbrev pub design_text : List SeenModule → List ℕ
design_text d = layout (tokens_of d)
