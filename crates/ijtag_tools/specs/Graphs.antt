-- The network between the ends that a device's instruction selects, and why it has no nested form, where it
-- has none.
use Rattle.std.specs.Prelude.{◌≡◌, ℕ, List, Option, Some, None}
use Rattle.icl_lexer.specs.Values.{SeenModule}
use Rattle.nest_check.specs.declared.fault.NestFault.{NestFault}
use Rattle.nest_check.specs.declared.fault.NestFault.TheVariants.{Unreached, NotNested, SelectInside}
use Rattle.nest_check.specs.declared.fault.NestFault.TheVariants.{SelectShared, SelectDrives, SelectNoReset}
use Rattle.nest_check.specs.declared.fault.NestFault.TheVariants.{ResetUnlisted, TooDeep, OutOfMemory}
use Rattle.net_graph.specs.declared.device.Device.{Device}
use Rattle.net_graph.specs.declared.net.Net.{Net}
use Rattle.net_graph.specs.declared.net.Point.{Point}
use Rattle.net_graph.specs.declared.net.Point.TheVariants.{Reg, Mux}
use Rattle.net_tree.specs.Form.{Items}
use Rattle.ijtag_stages.specs.Connected.{connected}
use Rattle.ijtag_stages.specs.Elaborated.{elaborated}
use Rattle.ijtag_stages.specs.Nested.{IsNested, IsUnnested, nest_refusal}
use Rattle.ijtag_stages.specs.Refusals.{Part, Refusal}
use Rattle.ijtag_stages.specs.Work.{give, ◌>>=◌}

-- the refusal of the stage of the nested form, and the register or multiplexer that it names
pub record Unnested : Type 0 where
  pub refusal : Refusal
  pub cell : Option Point

-- a network, and why it has no nested form, where it has none
pub record Graph : Type 0 where
  pub net : Net
  pub unnested : Option Unnested

-- the register or multiplexer that a fault names, of a bit its register
abbrev pub fault_cell : NestFault → Option Point
fault_cell (Unreached cell) = Some cell
fault_cell NotNested = None
fault_cell (SelectInside mux) = Some (Mux mux)
fault_cell (SelectShared bit) = Some (Reg bit.reg)
fault_cell (SelectDrives bit inst) = Some (Reg bit.reg)
fault_cell (SelectNoReset bit) = Some (Reg bit.reg)
fault_cell (ResetUnlisted mux) = Some (Mux mux)
fault_cell (TooDeep mux) = Some (Mux mux)
fault_cell OutOfMemory = None

-- there is a fault that is reported so
pub record IsWhy (net : Net) (why : Unnested) : Type 0 where
  pub fault : NestFault
  pub unnested : IsUnnested net fault
  pub told : nest_refusal net fault ≡ Some why.refusal
  pub cell : why.cell ≡ fault_cell fault

-- or a nested form
abbrev pub IsAnswer : Net → Option Unnested → Type 0
IsAnswer net None = (form : Items) × IsNested net form
IsAnswer net (Some why) = IsWhy net why

unfoldable pub form_or_why : Net → Part (Option Unnested)
form_or_why net = record { gives = λ answer. IsAnswer net answer; refuses = λ r. ⊥ }

unfoldable pub graph_below : List SeenModule → List ℕ → Device → Part Graph
graph_below modules top device = do
  cells ← elaborated modules top
  net ← connected cells device
  unnested ← form_or_why net
  give (record { net = net; unnested = unnested })
