-- The stage of the nested form: the multiplexers stand inside one another, and their selects are lawful, or
-- the first cause why not (IEEE 1687-2014, ICL: ScanMux, SelectedBy, ResetValue).
use Rattle.std.specs.Prelude.{◌≡◌, [], ◌∷◌, Option, Some, None, codes}
use Rattle.net_graph.specs.declared.net.Net.{Net}
use Rattle.net_graph.specs.Nets.{IsNet}
use Rattle.net_tree.specs.Form.{Items, Describes}
use Rattle.net_tree.specs.Lawful.{IsLawful}
use Rattle.nest_check.specs.Causes.{HasCause}
use Rattle.nest_check.specs.declared.fault.NestFault.{NestFault}
use Rattle.nest_check.specs.declared.fault.NestFault.TheVariants.{Unreached, NotNested, SelectInside}
use Rattle.nest_check.specs.declared.fault.NestFault.TheVariants.{SelectShared, SelectDrives, SelectNoReset}
use Rattle.nest_check.specs.declared.fault.NestFault.TheVariants.{ResetUnlisted, TooDeep, OutOfMemory}
use Rattle.ijtag_stages.specs.NetNames.{cell_name, mux_name, inst_name, bit_arg}
use Rattle.ijtag_stages.specs.Refusals.{Part, Refusal, Said, refused, refused_name}
use Rattle.ijtag_stages.specs.declared.refusal.Stage.TheVariants.{Nest}

-- how a fault is reported; want of memory is no refusal
abbrev pub nest_refusal : Net → NestFault → Option Refusal
nest_refusal net (Unreached cell) = Some (refused_name Nest (codes "Unreached") (cell_name net cell))
nest_refusal net NotNested = Some (refused Nest (codes "NotNested"))
nest_refusal net (SelectInside mux) = Some (refused_name Nest (codes "SelectInside") (mux_name net mux))
nest_refusal net (SelectShared bit) =
    Some (record { stage = Nest; kind = codes "SelectShared"; args = bit_arg net bit ∷ [] })
nest_refusal net (SelectDrives bit inst) = Some (record
    { stage = Nest; kind = codes "SelectDrives"; args = bit_arg net bit ∷ Said (inst_name net inst) ∷ [] })
nest_refusal net (SelectNoReset bit) =
    Some (record { stage = Nest; kind = codes "SelectNoReset"; args = bit_arg net bit ∷ [] })
nest_refusal net (ResetUnlisted mux) = Some (refused_name Nest (codes "ResetUnlisted") (mux_name net mux))
nest_refusal net (TooDeep mux) = Some (refused_name Nest (codes "TooDeep") (mux_name net mux))
nest_refusal net OutOfMemory = None

-- a well formed network and the lawful nested form that describes it
pub record IsNested (net : Net) (form : Items) : Type 0 where
  pub well_formed : IsNet net
  pub describes : Describes net form
  pub lawful : IsLawful net form

-- and one without such a form, for this cause
pub record IsUnnested (net : Net) (fault : NestFault) : Type 0 where
  pub well_formed : IsNet net
  pub cause : HasCause net fault

unfoldable pub nested : Net → Part Items
nested net = record {
  gives = λ form. IsNested net form;
  refuses = λ r. (fault : NestFault) × IsUnnested net fault × (nest_refusal net fault ≡ Some r);
}
