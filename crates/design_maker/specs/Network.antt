-- The network of a made design: each instrument after its SIBs, the outermost first (IEEE 1687-2014, ICL).
use Rattle.std.specs.Prelude.{ℕ, zero, suc, ◌==◌, cond, List, [], ◌∷◌, ◌++◌, length, codes, decimal}
use Rattle.icl_lexer.specs.declared.tree.PortKind.TheVariants.{ScanInPort, ScanOutPort}
use Rattle.icl_lexer.specs.Values.{ADecimal, SeenItem, SeenModule}
use Rattle.design_maker.specs.Modules.{sib_module, ins_module, wrap_module, chip_module}
use Rattle.design_maker.specs.Numbered.{numbered}
use Rattle.design_maker.specs.Parts.{module_of, signal, port, sourced, interface, instance, bound}
use Rattle.design_maker.specs.Parts.{bound_width}
use Rattle.design_maker.specs.declared.instrument.Instrument.{Instrument}

-- SIB j of instrument i, both counted from 1
unfoldable pub sib_name : ℕ → ℕ → List ℕ
sib_name i j = codes "s" ++ (decimal i ++ (codes "_" ++ decimal j))

-- the register of instrument i
unfoldable pub wrap_name : ℕ → List ℕ
wrap_name i = codes "w" ++ decimal i

-- where the outermost SIB of instrument i scans in from: the one of the instrument before, or the module's
-- port
abbrev pub entry_of : ℕ → List (List ℕ)
entry_of zero = codes "SI" ∷ []
entry_of (suc zero) = codes "SI" ∷ []
entry_of (suc (suc i)) = sib_name (suc i) 1 ∷ codes "SO" ∷ []

-- where SIB j scans in from: the SIB next to it outwards
abbrev pub outer_of : ℕ → ℕ → List (List ℕ)
outer_of i zero = entry_of i
outer_of i (suc zero) = entry_of i
outer_of i (suc (suc j)) = sib_name i (suc j) ∷ codes "toSI" ∷ []

-- what is next to SIB j inwards: the next SIB, or the register
abbrev pub inner_of : ℕ → ℕ → ℕ → List ℕ
inner_of i sibs j = cond (j == sibs) (wrap_name i) (sib_name i (suc j))

abbrev pub sib_item : ℕ → ℕ → ℕ → SeenItem
sib_item i sibs j =
    instance (sib_name i j) (codes "Sib") (bound (codes "SI") (outer_of i j)
    ∷ bound (codes "fromSO") (inner_of i sibs j ∷ codes "SO" ∷ []) ∷ [])

-- this many SIBs, from j on
abbrev pub sib_items : ℕ → ℕ → ℕ → ℕ → List SeenItem
sib_items i sibs j zero = []
sib_items i sibs j (suc n) = sib_item i sibs j ∷ sib_items i sibs (suc j) n

-- the register, which the innermost SIB selects
abbrev pub wrap_item : ℕ → ℕ → ℕ → SeenItem
wrap_item i sibs width =
    instance (wrap_name i) (codes "Wrap")
    (bound (codes "SI") (sib_name i sibs ∷ codes "toSI" ∷ [])
    ∷ bound (codes "SEL") (sib_name i sibs ∷ codes "toSEL" ∷ []) ∷ bound_width (ADecimal width) ∷ [])

-- an instrument's SIBs, then its register
abbrev pub chain_items : ℕ → Instrument → List SeenItem
chain_items i x = sib_items i x.sibs 1 x.sibs ++ (wrap_item i x.sibs x.width ∷ [])

-- the ports of the network: it scans out of the outermost SIB of the last instrument
abbrev pub net_ports : ℕ → List SeenItem
net_ports size =
    port ScanInPort (codes "SI")
    ∷ sourced ScanOutPort (codes "SO") (signal (sib_name size 1 ∷ codes "SO" ∷ []))
    ∷ interface (codes "client") (codes "SI" ∷ codes "SO" ∷ []) ∷ []

abbrev pub net_module : List Instrument → SeenModule
net_module xs = module_of (codes "Net") (net_ports (length xs) ++ numbered chain_items 1 xs)

unfoldable pub made_design : List Instrument → List SeenModule
made_design xs = sib_module ∷ ins_module ∷ wrap_module ∷ net_module xs ∷ chip_module ∷ []
