-- The declarations of a wave (IEEE 1364-2005, 18.2.3: $timescale, $scope, $var, $upscope, $enddefinitions).
use Rattle.std.specs.Prelude.{ℕ, suc, ◌-◌, ◌==◌, ◌&&◌, Bool, true, false, cond, List, [], ◌∷◌, ◌++◌, codes}
use Rattle.std.specs.Prelude.{decimal, get_or, length, map, Option, Some, None}
use Rattle.instruments.specs.Seen.{SeenModel}
use Rattle.net_graph.specs.declared.device.Device.{Device}
use Rattle.net_graph.specs.declared.net.Net.{Net}
use Rattle.net_graph.specs.Named.{thing_of, width_of}
use Rattle.net_graph.specs.PathNames.{node_names}
use Rattle.net_wave.specs.declared.shapes.Range.{Range}
use Rattle.net_wave.specs.declared.shapes.Shape.{Shape}
use Rattle.net_wave.specs.declared.var.Item.{Item}
use Rattle.net_wave.specs.declared.var.Item.TheVariants.{Open, Declare, Close}
use Rattle.net_wave.specs.declared.var.Scope.{Scope}
use Rattle.net_wave.specs.declared.var.Scope.TheVariants.{Node, Register, Multiplexer, Words}
use Rattle.net_wave.specs.declared.var.Var.{Var}
use Rattle.net_wave.specs.declared.var.Var.TheVariants.{Tms, Tdi, Tdo, Expect, Differs, Tap, Instruction}
use Rattle.net_wave.specs.declared.var.Var.TheVariants.{Scan, Bit, Update, Shift, OnPath, Row, Input, Output}
use Rattle.net_wave.specs.declared.var.Var.TheVariants.{Word}
use Rattle.net_wave.specs.Codes.{code}
use Rattle.net_wave.specs.Vars.{words_of}
use Rattle.net_wave.specs.Values.{drivers, output_width, row_width, word_width}

-- ---- names

-- the last instance name of a node
abbrev pub node_name : Net → ℕ → List ℕ
node_name net k =
    let names = node_names net k in get_or (map (λ name. name.items) names) (length names - 1) []

abbrev pub register_name : Net → ℕ → List ℕ
register_name net r = get_or (map (λ thing. thing.name.items) net.things.items) (thing_of net r) []

abbrev pub mux_name : Net → ℕ → List ℕ
mux_name net m = get_or (map (λ mux. mux.name.items) net.muxes.items) m []

abbrev pub input_name : Net → ℕ → ℕ → List ℕ
input_name net i p =
    get_or (get_or (map (λ inst. map (λ port. port.name.items) inst.ins.items) net.insts.items) i []) p []

abbrev pub output_name : Net → ℕ → ℕ → List ℕ
output_name net i p =
    get_or (get_or (map (λ inst. map (λ port. port.name.items) inst.outs.items) net.insts.items) i []) p []

abbrev pub word_name : List SeenModel → ℕ → ℕ → List ℕ
word_name models i w = get_or (map (λ word. word.name) (words_of models i)) w []

abbrev pub scope_name : Net → Scope → List ℕ
scope_name net (Node k) = node_name net k
scope_name net (Register r) = register_name net r
scope_name net (Multiplexer m) = mux_name net m
scope_name net Words = codes "words"

abbrev pub var_name : Net → List SeenModel → Var → List ℕ
var_name net models Tms = codes "TMS"
var_name net models Tdi = codes "TDI"
var_name net models Tdo = codes "TDO"
var_name net models Expect = codes "expect"
var_name net models Differs = codes "differs"
var_name net models Tap = codes "tap"
var_name net models Instruction = codes "instruction"
var_name net models Scan = codes "scan"
var_name net models Bit = codes "bit"
var_name net models (Update r) = codes "update"
var_name net models (Shift r) = codes "shift"
var_name net models (OnPath r) = codes "on_path"
var_name net models (Row m) = codes "row"
var_name net models (Input i p) = input_name net i p
var_name net models (Output i p) = output_name net i p
var_name net models (Word i w) = word_name models i w

-- ---- shapes: how many bits there are, and their indexes

abbrev pub one_bit : Shape
one_bit = record { width = 1; range = None }

-- bits that are counted down to 0, also where there is one alone
abbrev pub ranged : ℕ → Shape
ranged width = record { width = width; range = Some (record { left = width - 1; right = 0 }) }

-- without a range where there is one alone
abbrev pub shape_if_wide : ℕ → Shape
shape_if_wide width = cond (width == 1) one_bit (ranged width)

-- the indexes of a register's thing; no range for index 0 alone
abbrev pub left_of : Net → ℕ → ℕ
left_of net r = get_or (map (λ thing. thing.left) net.things.items) (thing_of net r) 0

abbrev pub right_of : Net → ℕ → ℕ
right_of net r = get_or (map (λ thing. thing.right) net.things.items) (thing_of net r) 0

abbrev pub between : ℕ → ℕ → ℕ → Shape
between width left right =
    record {
      width = width;
      range =
          cond ((width == 1) && (left == 0)) None (Some (record { left = left; right = right }));
    }

abbrev pub register_shape : Net → ℕ → Shape
register_shape net r = between (width_of net r) (left_of net r) (right_of net r)

abbrev pub shape : Net → Device → List SeenModel → Var → Shape
shape net device models Tms = one_bit
shape net device models Tdi = one_bit
shape net device models Tdo = one_bit
shape net device models Expect = one_bit
shape net device models Differs = one_bit
shape net device models Tap = ranged 4
shape net device models Instruction = ranged device.ir
shape net device models Scan = ranged 32
shape net device models Bit = ranged 16
shape net device models (Update r) = register_shape net r
shape net device models (Shift r) = register_shape net r
shape net device models (OnPath r) = one_bit
shape net device models (Row m) = ranged (row_width net m)
shape net device models (Input i p) = shape_if_wide (length (drivers net i p))
shape net device models (Output i p) = shape_if_wide (output_width net i p)
shape net device models (Word i w) = shape_if_wide (word_width models i w)

-- ---- lines

-- pins are wires, all that is inside of the chip is a reg
abbrev pub is_pin : Var → Bool
is_pin Tms = true
is_pin Tdi = true
is_pin Tdo = true
is_pin Expect = true
is_pin Differs = true
is_pin Tap = true
is_pin Instruction = true
is_pin Scan = true
is_pin Bit = true
is_pin _ = false

abbrev pub kind_text : Bool → List ℕ
kind_text pin = cond pin (codes "$var wire ") (codes "$var reg ")

-- [left:right] after a blank
abbrev pub range_text : Option Range → List ℕ
range_text None = []
range_text (Some r) = codes " [" ++ (decimal r.left ++ (codes ":" ++ (decimal r.right ++ codes "]")))

abbrev pub front_text : Bool → ℕ → List ℕ
front_text pin width = kind_text pin ++ (decimal width ++ codes " ")

-- a variable by its number
abbrev pub var_text : Net → Device → List SeenModel → ℕ → Var → List ℕ
var_text net device models n v =
    let it = shape net device models v in
    front_text (is_pin v) it.width
    ++ (code n ++ (codes " " ++ (var_name net models v ++ (range_text it.range ++ codes " $end\n"))))

abbrev pub scope_text : List ℕ → List ℕ
scope_text name = codes "$scope module " ++ (name ++ codes " $end\n")

abbrev pub item_text : Net → Device → List SeenModel → ℕ → Item → List ℕ
item_text net device models n (Open s) = scope_text (scope_name net s)
item_text net device models n (Declare v) = var_text net device models n v
item_text net device models n Close = codes "$upscope $end\n"

-- the number of the next variable
abbrev pub next_number : ℕ → Item → ℕ
next_number n (Open s) = n
next_number n (Declare v) = suc n
next_number n Close = n

-- variables count from a number on
abbrev pub items_text : Net → Device → List SeenModel → ℕ → List Item → List ℕ
items_text net device models n [] = []
items_text net device models n (i ∷ is) =
    item_text net device models n i ++ items_text net device models (next_number n i) is

-- the scope of the top, with TCK
abbrev pub start_text : List ℕ → List ℕ
start_text top = codes "$timescale 1 ns $end\n" ++ (scope_text top ++ codes "$var wire 1 ! TCK $end\n")

abbrev pub header : Net → Device → List SeenModel → List ℕ → List Item → List ℕ
header net device models top items =
    start_text top ++ (items_text net device models 1 items ++ codes "$enddefinitions $end\n")
