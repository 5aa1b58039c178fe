-- Parts of a made design, which are at no place of a text.
use Rattle.std.specs.Prelude.{◌≡◌, ℕ, false, List, [], ◌∷◌, ◌++◌, Option, Some, None, codes}
use Rattle.ij_bits.specs.Room.{seen_list}
use Rattle.icl_lexer.specs.declared.tree.PortKind.{PortKind}
use Rattle.icl_lexer.specs.declared.tree.Sign.TheVariants.{Minus}
use Rattle.icl_lexer.specs.Views.{seen_item}
use Rattle.design_maker.specs.declared.items.Items.{Items}
use Rattle.icl_lexer.specs.Values.{SeenExpr, ADecimal, ASized, AQuoted, AParam, AnOp, SeenRange, APath}
use Rattle.icl_lexer.specs.Values.{SeenSig, ASource, SeenRow, SeenBind, ABoundPort, ABoundParameter, SeenWhat}
use Rattle.icl_lexer.specs.Values.{APort, AChild, AParameter, AnInterface, AnAttribute, SeenItem, SeenModule}
use Rattle.ij_text.specs.Places.{no_place}

abbrev pub module_of : List ℕ → List SeenItem → SeenModule
module_of name items = record { name = name; at = no_place; items = items }

abbrev pub item : List ℕ → SeenWhat → SeenItem
item name what = record { at = no_place; name = name; what = what }

-- ---- expressions and signals

-- the parameter `W`
abbrev pub the_width : SeenExpr
the_width = AParam no_place (codes "W")

-- `[$W-1:0]`
abbrev pub whole_width : SeenRange
whole_width =
    record { at = no_place; left = AnOp no_place Minus the_width (ADecimal 1); right = Some (ADecimal 0) }

-- `[0]`
abbrev pub lowest_bit_range : SeenRange
lowest_bit_range = record { at = no_place; left = ADecimal 0; right = None }

abbrev pub ranged : List (List ℕ) → Option SeenRange → SeenSig
ranged path range = record { at = no_place; inverted = false; what = APath path range }

-- names with dots between them
abbrev pub signal : List (List ℕ) → SeenSig
signal path = ranged path None

-- ---- items

abbrev pub port : PortKind → List ℕ → SeenItem
port kind name = item name (APort kind None [])

-- a port that a signal is the source of
abbrev pub sourced : PortKind → List ℕ → SeenSig → SeenItem
sourced kind name source = item name (APort kind None (ASource (source ∷ []) ∷ []))

-- a port of `W` bits
abbrev pub wide_port : PortKind → List ℕ → SeenItem
wide_port kind name = item name (APort kind (Some whole_width) [])

abbrev pub interface : List ℕ → List (List ℕ) → SeenItem
interface name ports = item name (AnInterface ports)

-- `Parameter W = 8`
abbrev pub width_parameter : SeenItem
width_parameter = item (codes "W") (AParameter false (ADecimal 8))

abbrev pub attribute : List ℕ → List ℕ → SeenItem
attribute name text = item name (AnAttribute (Some (AQuoted text)))

abbrev pub instance : List ℕ → List ℕ → List SeenBind → SeenItem
instance name of' binds = item name (AChild of' binds)

-- ---- what instances bind

abbrev pub bound : List ℕ → List (List ℕ) → SeenBind
bound name path = ABoundPort no_place name None (signal path ∷ [])

abbrev pub bound_width : SeenExpr → SeenBind
bound_width width = ABoundParameter no_place (codes "W") width

-- the items that a module in the making has
abbrev pub seen_items : Items → List SeenItem
seen_items i = seen_list seen_item i.items

-- these items were added
unfoldable pub HasAdded : Items → Items → List SeenItem → Type 0
HasAdded old new xs = seen_items new ≡ seen_items old ++ xs

-- a row of a multiplexer that one number selects
abbrev pub mux_row : List ℕ → List ℕ → SeenRow
mux_row value source = record { values = (ASized value ∷ []) ∷ []; source = signal (source ∷ []) }
