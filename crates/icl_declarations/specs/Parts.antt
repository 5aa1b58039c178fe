-- What a module declares: kinds of items, and the names that differ among themselves (IEEE 1687-2014, ICL:
-- Module).
use Rattle.std.specs.Prelude.{ℕ, Bool, true, false, not, ◌&&◌, ◌||◌, List, [], map, filter, find, Option}
use Rattle.std.specs.Prelude.{None}
use Rattle.std.specs.List.{list_any}
use Rattle.std.specs.Str.{bytes_eq}
use Rattle.ij_bits.specs.BitLists.{same_bit}
use Rattle.icl_lexer.specs.declared.tree.PortKind.{PortKind}
use Rattle.icl_lexer.specs.declared.tree.PortKind.TheVariants.{ScanInPort, ScanOutPort, DataInPort}
use Rattle.icl_lexer.specs.declared.tree.PortKind.TheVariants.{DataOutPort, SelectPort, CaptureEnPort}
use Rattle.icl_lexer.specs.declared.tree.PortKind.TheVariants.{ShiftEnPort, UpdateEnPort, ResetPort, TCKPort}
use Rattle.icl_lexer.specs.declared.tree.PortKind.TheVariants.{TMSPort, TRSTPort, ClockPort}
use Rattle.icl_lexer.specs.Values.{SeenRange, SeenProp, ASource, SeenEnumWord, SeenWhat, APort, ARegister}
use Rattle.icl_lexer.specs.Values.{AMux, AChild, AnAlias, SomeWords, AParameter, AnInterface, ALink}
use Rattle.icl_lexer.specs.Values.{AnAttribute, SeenItem, SeenModule}

-- ---- kinds of ports

abbrev pub is_scan_in : PortKind → Bool
is_scan_in ScanInPort = true
is_scan_in kind = false

abbrev pub is_scan_out : PortKind → Bool
is_scan_out ScanOutPort = true
is_scan_out kind = false

abbrev pub is_data_in : PortKind → Bool
is_data_in DataInPort = true
is_data_in kind = false

abbrev pub is_data_out : PortKind → Bool
is_data_out DataOutPort = true
is_data_out kind = false

-- an input that is neither a scan port nor a data port
abbrev pub is_control_in : PortKind → Bool
is_control_in SelectPort = true
is_control_in CaptureEnPort = true
is_control_in ShiftEnPort = true
is_control_in UpdateEnPort = true
is_control_in ResetPort = true
is_control_in TCKPort = true
is_control_in TMSPort = true
is_control_in TRSTPort = true
is_control_in ClockPort = true
is_control_in kind = false

abbrev pub is_input : PortKind → Bool
is_input kind = is_scan_in kind || is_data_in kind || is_control_in kind

-- ---- kinds of items

-- a port that passes a test
abbrev pub port_that : (PortKind → Bool) → SeenWhat → Bool
port_that test (APort kind range props) = test kind
port_that test what = false

abbrev pub is_port : SeenWhat → Bool
is_port what = port_that (λ kind. true) what

abbrev pub is_register : SeenWhat → Bool
is_register (ARegister range props) = true
is_register what = false

abbrev pub is_mux : SeenWhat → Bool
is_mux (AMux select rows) = true
is_mux what = false

abbrev pub is_child : SeenWhat → Bool
is_child (AChild module' binds) = true
is_child what = false

-- what a signal may name
abbrev pub is_signal : SeenWhat → Bool
is_signal (APort kind range props) = true
is_signal (ARegister range props) = true
is_signal (AMux select rows) = true
is_signal (AChild module' binds) = true
is_signal (AnAlias range sigs props) = true
is_signal what = false

abbrev pub is_interface : SeenWhat → Bool
is_interface (AnInterface ports) = true
is_interface what = false

abbrev pub is_link : SeenWhat → Bool
is_link (ALink kind entity instrs) = true
is_link what = false

abbrev pub is_enum : SeenWhat → Bool
is_enum (SomeWords words) = true
is_enum what = false

abbrev pub is_parameter : SeenWhat → Bool
is_parameter (AParameter local value) = true
is_parameter what = false

-- a part of a cell
abbrev pub is_part : SeenWhat → Bool
is_part what = is_signal what || is_interface what || is_link what

-- ---- parts

-- the parts of a module
abbrev pub parts_of : SeenModule → List SeenItem
parts_of block = filter (λ item. is_part item.what) block.items

-- ---- names

-- the items from whose names that of an item differs
abbrev pub is_rival : SeenWhat → SeenWhat → Bool
is_rival (AnInterface ports) other = is_interface other
is_rival (ALink kind entity instrs) other = is_link other
is_rival (SomeWords words) other = is_enum other
is_rival (AParameter local value) other = is_parameter other
is_rival (AnAttribute value) other = false
is_rival what other = is_signal other

-- whether the name of an item is at one before it
abbrev pub is_taken : List SeenItem → SeenItem → Bool
is_taken before item =
    list_any (λ other. is_rival item.what other.what && bytes_eq item.name other.name) before

-- the words of an enumeration and the instructions of a link differ among themselves
abbrev pub inner_names : SeenWhat → List (List ℕ)
inner_names (SomeWords words) = map (λ word. word.name) words
inner_names (ALink kind entity instrs) = map (λ instr. instr.name) instrs
inner_names what = []

-- ---- items of a module

abbrev pub range_in : SeenWhat → Option SeenRange
range_in (APort kind range props) = range
range_in (ARegister range props) = range
range_in (AnAlias range sigs props) = range
range_in what = None

abbrev pub is_source : SeenProp → Bool
is_source (ASource sigs) = true
is_source prop = false

abbrev pub has_source : SeenWhat → Bool
has_source (APort kind range props) = list_any is_source props
has_source what = false

abbrev pub words_in : SeenWhat → List SeenEnumWord
words_in (SomeWords words) = words
words_in what = []

abbrev pub block_named : List SeenModule → List ℕ → Option SeenModule
block_named blocks name = find (λ block. bytes_eq name block.name) blocks

abbrev pub is_parameter_that : (Bool → Bool) → SeenWhat → Bool
is_parameter_that test (AParameter local value) = test local
is_parameter_that test what = false

-- whether a module has a parameter of this name that passes a test on whether it is local
abbrev pub has_parameter : (Bool → Bool) → SeenModule → List ℕ → Bool
has_parameter test block name =
    list_any (λ item. is_parameter_that test item.what && bytes_eq name item.name) block.items

-- a parameter that an instance may bind: not a local one
abbrev pub is_bindable : SeenModule → List ℕ → Bool
is_bindable block name = has_parameter (same_bit false) block name && not
    (has_parameter (same_bit true) block name)

-- ---- instruments

-- what an instrument may not have: scan ports, registers, multiplexers, instances, and sources of its own
abbrev pub is_barred_in_instrument : SeenWhat → Bool
is_barred_in_instrument what =
    port_that (λ kind. is_scan_in kind || is_scan_out kind) what || is_register what || is_mux what ||
    is_child what || (port_that is_data_out what && has_source what)

abbrev pub is_data_port : SeenWhat → Bool
is_data_port what = port_that (λ kind. is_data_in kind || is_data_out kind) what

-- a module whose instances are instruments: data ports alone join them to the network
abbrev pub is_instrument : SeenModule → Bool
is_instrument block = list_any (λ item. is_data_port item.what) block.items && not
    (list_any (λ item. is_barred_in_instrument item.what) block.items)
