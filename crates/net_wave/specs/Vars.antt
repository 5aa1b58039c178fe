-- The variables of a wave, and the scopes in which they stand (IEEE 1364-2005, 18.2.3: scopes and variables;
-- IEEE 1687-2014, ICL: Instance, ScanRegister, ScanMux, data ports).
use Rattle.std.specs.Prelude.{◌<◌, ℕ, zero, suc, ◌-◌, ◌==◌, Bool, true, false, cond, List, [], ◌∷◌, ◌++◌}
use Rattle.std.specs.Prelude.{get_or, length, map}
use Rattle.instruments.specs.Seen.{SeenModel, SeenWord}
use Rattle.net_graph.specs.declared.net.Net.{Net}
use Rattle.net_graph.specs.Named.{thing_of}
use Rattle.net_wave.specs.declared.var.Item.{Item}
use Rattle.net_wave.specs.declared.var.Item.TheVariants.{Open, Declare, Close}
use Rattle.net_wave.specs.declared.var.Scope.{Scope}
use Rattle.net_wave.specs.declared.var.Scope.TheVariants.{Node, Register, Multiplexer, Words}
use Rattle.net_wave.specs.declared.var.Var.{Var}
use Rattle.net_wave.specs.declared.var.Var.TheVariants.{Tms, Tdi, Tdo, Expect, Differs, Tap, Instruction}
use Rattle.net_wave.specs.declared.var.Var.TheVariants.{Scan, Bit, Update, Shift, OnPath, Row, Input, Output}
use Rattle.net_wave.specs.declared.var.Var.TheVariants.{Word}
use Rattle.net_wave.specs.declared.var.WaveKind.{WaveKind}
use Rattle.net_wave.specs.declared.var.WaveKind.TheVariants.{Pins, State, All}

-- f 0, f 1 and so on, of this many numbers, one after the other
abbrev pub up_to : {T : Type 0} → (ℕ → List T) → ℕ → List T
up_to f zero = []
up_to f (suc n) = up_to f n ++ f n

abbrev pub shows_chip_state : WaveKind → Bool
shows_chip_state Pins = false
shows_chip_state State = true
shows_chip_state All = true

abbrev pub shows_shift_stages : WaveKind → Bool
shows_shift_stages Pins = false
shows_shift_stages State = false
shows_shift_stages All = true

-- ---- where things stand

-- the nodes of an instrument, a register and a multiplexer
abbrev pub inst_node : Net → ℕ → ℕ
inst_node net i = get_or (map (λ inst. inst.node) net.insts.items) i 0

abbrev pub register_node : Net → ℕ → ℕ
register_node net r = get_or (map (λ thing. thing.node) net.things.items) (thing_of net r) 0

abbrev pub mux_node : Net → ℕ → ℕ
mux_node net m = get_or (map (λ mux. mux.node) net.muxes.items) m 0

-- how deep a node is: 0 is the top's depth, and that of a node that isn't there
abbrev pub depth : Net → ℕ → ℕ
depth net k = get_or (map (λ node. length node.path.items) net.nodes.items) k 0

-- how many inputs, outputs and words an instrument has
abbrev pub input_count : Net → ℕ → ℕ
input_count net i = get_or (map (λ inst. length inst.ins.items) net.insts.items) i 0

abbrev pub output_count : Net → ℕ → ℕ
output_count net i = get_or (map (λ inst. length inst.outs.items) net.insts.items) i 0

abbrev pub words_of : List SeenModel → ℕ → List SeenWord
words_of models i = get_or (map (λ m. m.words) models) i []

abbrev pub word_count : List SeenModel → ℕ → ℕ
word_count models i = length (words_of models i)

-- ---- scopes and variables, in the order of the text; TCK comes before them

abbrev pub pin_items : List Item
pin_items =
    Declare Tms ∷ Declare Tdi ∷ Declare Tdo ∷ Declare Expect ∷ Declare Differs ∷ Declare Tap
    ∷ Declare Instruction ∷ Declare Scan ∷ Declare Bit ∷ []

abbrev pub register_items : WaveKind → ℕ → List Item
register_items kind r =
    Open (Register r) ∷ Declare (Update r)
    ∷ (cond (shows_shift_stages kind) (Declare (Shift r) ∷ []) [] ++ Declare (OnPath r) ∷ Close ∷ [])

abbrev pub mux_items : ℕ → List Item
mux_items m = Open (Multiplexer m) ∷ Declare (Row m) ∷ Close ∷ []

abbrev pub input_item : ℕ → ℕ → List Item
input_item i p = Declare (Input i p) ∷ []

abbrev pub output_item : ℕ → ℕ → List Item
output_item i p = Declare (Output i p) ∷ []

abbrev pub word_item : ℕ → ℕ → List Item
word_item i w = Declare (Word i w) ∷ []

-- inputs, outputs, and the words in a scope of their own
abbrev pub inst_items : Net → List SeenModel → ℕ → List Item
inst_items net models i =
    up_to (input_item i) (input_count net i)
    ++ (up_to (output_item i) (output_count net i)
    ++ (Open Words ∷ (up_to (word_item i) (word_count models i) ++ Close ∷ [])))

-- an instrument, a register or a multiplexer, if it is in this node
abbrev pub inst_item : Net → List SeenModel → ℕ → ℕ → List Item
inst_item net models k i = cond (inst_node net i == k) (inst_items net models i) []

abbrev pub register_item : WaveKind → Net → ℕ → ℕ → List Item
register_item kind net k r = cond (register_node net r == k) (register_items kind r) []

abbrev pub mux_item : Net → ℕ → ℕ → List Item
mux_item net k m = cond (mux_node net m == k) (mux_items m) []

-- those of a node, in the network's order
abbrev pub insts_in : Net → List SeenModel → ℕ → List Item
insts_in net models k = up_to (inst_item net models k) (length net.insts.items)

abbrev pub registers_in : WaveKind → Net → ℕ → List Item
registers_in kind net k = up_to (register_item kind net k) (length net.regs.items)

abbrev pub muxes_in : Net → ℕ → List Item
muxes_in net k = up_to (mux_item net k) (length net.muxes.items)

-- the scope of the top is open from the start
abbrev pub opening : ℕ → List Item
opening k = cond (k == 0) [] (Open (Node k) ∷ [])

-- after a node those scopes are closed in which the next one doesn't stand; after the last one all
abbrev pub close_item : ℕ → List Item
close_item k = Close ∷ []

abbrev pub closing : Net → ℕ → List Item
closing net k = up_to close_item (suc (depth net k) - depth net (suc k))

abbrev pub node_items : WaveKind → Net → List SeenModel → ℕ → List Item
node_items kind net models k =
    opening k ++ (insts_in net models k ++ (registers_in kind net k ++ (muxes_in net k ++ closing net k)))

-- pins alone, or all nodes
abbrev pub items : WaveKind → Net → List SeenModel → List Item
items kind net models =
    pin_items ++ cond (shows_chip_state kind)
    (up_to (node_items kind net models) (length net.nodes.items)) (Close ∷ [])

-- ---- variables

abbrev pub declared_by : Item → List Var
declared_by (Open s) = []
declared_by (Declare v) = v ∷ []
declared_by Close = []

abbrev pub vars_of : List Item → List Var
vars_of [] = []
vars_of (i ∷ is) = declared_by i ++ vars_of is

-- all variables but TCK
abbrev pub vars : WaveKind → Net → List SeenModel → List Var
vars kind net models = vars_of (items kind net models)

-- what a variable names is there
abbrev pub IsVar : Net → List SeenModel → Var → Type 0
IsVar net models (Update r) = r < length net.regs.items
IsVar net models (Shift r) = r < length net.regs.items
IsVar net models (OnPath r) = r < length net.regs.items
IsVar net models (Row m) = m < length net.muxes.items
IsVar net models (Input i p) = (i < length net.insts.items) × (p < input_count net i)
IsVar net models (Output i p) = (i < length net.insts.items) × (p < output_count net i)
IsVar net models (Word i w) = (i < length models) × (w < word_count models i)
IsVar net models _ = Unit {0}

abbrev pub IsScope : Net → Scope → Type 0
IsScope net (Node k) = k < length net.nodes.items
IsScope net (Register r) = r < length net.regs.items
IsScope net (Multiplexer m) = m < length net.muxes.items
IsScope net Words = Unit {0}

abbrev pub IsItem : Net → List SeenModel → Item → Type 0
IsItem net models (Open s) = IsScope net s
IsItem net models (Declare v) = IsVar net models v
IsItem net models Close = Unit {0}
