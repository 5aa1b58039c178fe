-- The modules that each made design has: a segment insertion bit, an instrument, and its register (IEEE
-- 1687-2014, ICL).
use Rattle.std.specs.Prelude.{List, [], ◌∷◌, ◌++◌, Some, None, codes}
use Rattle.icl_lexer.specs.declared.tree.PortKind.TheVariants.{ScanInPort, ScanOutPort, DataInPort}
use Rattle.icl_lexer.specs.declared.tree.PortKind.TheVariants.{DataOutPort, SelectPort, CaptureEnPort}
use Rattle.icl_lexer.specs.declared.tree.PortKind.TheVariants.{ShiftEnPort, UpdateEnPort, ResetPort, TCKPort}
use Rattle.icl_lexer.specs.declared.tree.PortKind.TheVariants.{ToSelectPort, ToCaptureEnPort, ToShiftEnPort}
use Rattle.icl_lexer.specs.declared.tree.PortKind.TheVariants.{ToUpdateEnPort, ToResetPort, ToTCKPort}
use Rattle.icl_lexer.specs.declared.tree.LinkKind.TheVariants.{Std2001}
use Rattle.icl_lexer.specs.Values.{ASized, AScanInSource, ACaptureSource, ALoadValue, AResetValue, APolarity}
use Rattle.icl_lexer.specs.Values.{APort, ARegister, AMux, ALink, SeenLinkInstr, SeenItem, SeenModule}
use Rattle.design_maker.specs.Parts.{module_of, item, the_width, whole_width, lowest_bit_range, ranged}
use Rattle.design_maker.specs.Parts.{signal, port}
use Rattle.design_maker.specs.Parts.{sourced, wide_port, interface, width_parameter, attribute, instance}
use Rattle.design_maker.specs.Parts.{bound, bound_width, mux_row}

-- ---- a segment insertion bit

-- the side of the TAP
abbrev pub client_side : List SeenItem
client_side =
    port ScanInPort (codes "SI") ∷ port CaptureEnPort (codes "CE") ∷ port ShiftEnPort (codes "SE")
    ∷ port UpdateEnPort (codes "UE") ∷ port SelectPort (codes "SEL")
    ∷ item (codes "RST") (APort ResetPort None (APolarity 0 ∷ [])) ∷ port TCKPort (codes "TCK")
    ∷ sourced ScanOutPort (codes "SO") (signal (codes "SR" ∷ []))
    ∷ interface (codes "client") (codes "SI" ∷ codes "CE" ∷ codes "SE" ∷ codes "UE" ∷ codes "SEL"
    ∷ codes "RST" ∷ codes "TCK" ∷ codes "SO" ∷ []) ∷ []

-- the side of the segment that is inserted
abbrev pub host_side : List SeenItem
host_side =
    port ScanInPort (codes "fromSO") ∷ port ToCaptureEnPort (codes "toCE")
    ∷ port ToShiftEnPort (codes "toSE") ∷ port ToUpdateEnPort (codes "toUE")
    ∷ sourced ToSelectPort (codes "toSEL") (signal (codes "SR" ∷ [])) ∷ port ToResetPort (codes "toRST")
    ∷ port ToTCKPort (codes "toTCK") ∷ sourced ScanOutPort (codes "toSI") (signal (codes "SI" ∷ []))
    ∷ interface (codes "host") (codes "fromSO" ∷ codes "toCE" ∷ codes "toSE" ∷ codes "toUE" ∷ codes "toSEL"
    ∷ codes "toRST" ∷ codes "toTCK" ∷ codes "toSI" ∷ []) ∷ []

-- the select bit, and the multiplexer that it selects
abbrev pub select_bit : SeenItem
select_bit = item (codes "SR") (ARegister None (AScanInSource (signal (codes "m" ∷ []))
    ∷ ACaptureSource (signal (codes "SR" ∷ []) ∷ []) ∷ AResetValue (ASized (codes "1'b0") ∷ []) ∷ []))

abbrev pub segment_mux : SeenItem
segment_mux = item (codes "m") (AMux (signal (codes "SR" ∷ []) ∷ [])
    (mux_row (codes "1'b0") (codes "SI") ∷ mux_row (codes "1'b1") (codes "fromSO") ∷ []))

abbrev pub sib_module : SeenModule
sib_module =
    module_of (codes "Sib") (attribute (codes "kind") (codes "segment insertion bit")
    ∷ (client_side ++ (host_side ++ (select_bit ∷ segment_mux ∷ []))))

-- ---- an instrument of `W` bits

abbrev pub ins_module : SeenModule
ins_module =
    module_of (codes "Ins") (width_parameter ∷ port TCKPort (codes "TCK") ∷ wide_port DataInPort (codes "d")
    ∷ wide_port DataOutPort (codes "q") ∷ [])

-- ---- a register of `W` bits with its instrument

abbrev pub wrap_ports : List SeenItem
wrap_ports =
    port ScanInPort (codes "SI") ∷ port SelectPort (codes "SEL") ∷ port TCKPort (codes "TCK")
    ∷ sourced ScanOutPort (codes "SO") (ranged (codes "R" ∷ []) (Some lowest_bit_range))
    ∷ interface (codes "client") (codes "SI" ∷ codes "SEL" ∷ codes "TCK" ∷ codes "SO" ∷ []) ∷ []

-- it captures what the instrument shows
abbrev pub data_register : SeenItem
data_register =
    item (codes "R") (ARegister (Some whole_width) (AScanInSource (signal (codes "SI" ∷ []))
    ∷ ACaptureSource (signal (codes "ins" ∷ codes "q" ∷ []) ∷ [])
    ∷ ALoadValue (ASized (codes "$W'b0") ∷ []) ∷ AResetValue (ASized (codes "$W'b0") ∷ []) ∷ []))

abbrev pub inner_instrument : SeenItem
inner_instrument =
    instance (codes "ins") (codes "Ins") (bound_width the_width ∷ bound (codes "d") (codes "R" ∷ [])
    ∷ bound (codes "TCK") (codes "TCK" ∷ []) ∷ [])

abbrev pub wrap_module : SeenModule
wrap_module = module_of (codes "Wrap")
    (width_parameter ∷ (wrap_ports ++ (data_register ∷ inner_instrument ∷ [])))

-- ---- the chip, whose link selects the network

abbrev pub link_instruction : SeenLinkInstr
link_instruction = record { name = codes "IJTAG"; cell = codes "net"; interface = codes "client" }

abbrev pub chip_module : SeenModule
chip_module =
    module_of (codes "chip") (instance (codes "net") (codes "Net") []
    ∷ item (codes "tap") (ALink Std2001 (codes "chip") (link_instruction ∷ [])) ∷ [])
