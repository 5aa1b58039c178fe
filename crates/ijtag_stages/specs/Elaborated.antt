-- The stage of elaboration: the hierarchy below the top module, or the first fault of its names, values and
-- signals (IEEE 1687-2014, ICL).
use Rattle.std.specs.Prelude.{ℕ, List, [], ◌∷◌, Some, codes}
use Rattle.ij_text.specs.declared.Which.{Which}
use Rattle.ij_text.specs.declared.Which.TheVariants.{Hierarchy, Cells, ScanBits, Muxes, Instruments, Ports}
use Rattle.ij_text.specs.declared.Which.TheVariants.{PortBits, Width, Groups, RunLoop, RunCycles}
use Rattle.icl_lexer.specs.Values.{SeenModule}
use Rattle.icl_declarations.specs.Faults.{Fault, NoModule, NoName, DoubleName, NoParameter, DivideByZero}
use Rattle.icl_declarations.specs.Faults.{BadNumber, BadRange, WidthDiffers, WrongKind, RowsOverlap}
use Rattle.icl_declarations.specs.Faults.{InstanceLoop, Limit}
use Rattle.icl_references.specs.Roles.{CellOf}
use Rattle.icl_elab.specs.Hierarchy.{hierarchy}
use Rattle.ijtag_stages.specs.Refusals.{Part, Refusal, Said, Num, refused_at, refused_name, refused_word}
use Rattle.ijtag_stages.specs.Work.{reported}
use Rattle.ijtag_stages.specs.declared.refusal.Stage.TheVariants.{Elab}

-- the name of a limit
unfoldable pub which_name : Which → List ℕ
which_name Hierarchy = codes "Hierarchy"
which_name Cells = codes "Cells"
which_name ScanBits = codes "ScanBits"
which_name Muxes = codes "Muxes"
which_name Instruments = codes "Instruments"
which_name Ports = codes "Ports"
which_name PortBits = codes "PortBits"
which_name Width = codes "Width"
which_name Groups = codes "Groups"
which_name RunLoop = codes "RunLoop"
which_name RunCycles = codes "RunCycles"

-- how a fault is reported
abbrev pub elab_refusal : Fault → Refusal
elab_refusal (NoModule name) = refused_name Elab (codes "NoModule") name
elab_refusal (NoName at name) = refused_word Elab (codes "NoName") at name
elab_refusal (DoubleName at name) = refused_word Elab (codes "DoubleName") at name
elab_refusal (NoParameter at name) = refused_word Elab (codes "NoParameter") at name
elab_refusal (DivideByZero at) = refused_at Elab (codes "DivideByZero") at
elab_refusal (BadNumber at) = refused_at Elab (codes "BadNumber") at
elab_refusal (BadRange at) = refused_at Elab (codes "BadRange") at
elab_refusal (WidthDiffers at) = refused_at Elab (codes "WidthDiffers") at
elab_refusal (WrongKind at) = refused_at Elab (codes "WrongKind") at
elab_refusal (RowsOverlap at) = refused_at Elab (codes "RowsOverlap") at
elab_refusal (InstanceLoop at) = refused_at Elab (codes "InstanceLoop") at
elab_refusal (Limit which number) =
    record { stage = Elab; kind = codes "Limit"; args = Said (which_name which) ∷ Num number ∷ [] }

-- the hierarchy below the top module of this name
unfoldable pub elaborated : List SeenModule → List ℕ → Part (List CellOf)
elaborated modules top = reported (hierarchy modules top) (λ fault. Some (elab_refusal fault))
