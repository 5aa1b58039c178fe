-- How the second pass gives each cell what its instance binds: where each cell's instance is, and what
-- the ports are then.
use Rattle.std.specs.Prelude.{ℕ, ◌+◌, Bool, List, [], ◌∷◌, map, slice_get, slice_index_or, Option, Some, None}
use Rattle.std.specs.Prelude.{unwrap_or, Ok}
use Rattle.std.specs.List.{position_from}
use Rattle.std.specs.Option.{option_map}
use Rattle.icl_declarations.specs.Faults.{Answer, ◌>>=◌}
use Rattle.icl_declarations.specs.Ranges.{width}
use Rattle.icl_frames.specs.FirstPass.{Frame}
use Rattle.icl_references.specs.declared.hier.Body.{Body}
use Rattle.icl_elab.specs.declared.pass.Placed.{Placed}
use Rattle.icl_elab.specs.declared.pass.CellParts.{CellParts}
use Rattle.icl_elab.specs.declared.hierarchy.CellPorts.{CellPorts}
use Rattle.icl_elab.specs.Bindings.{Bound, refs_of}
use Rattle.icl_elab.specs.Hierarchy.{bindings_of, first_ref, is_this_cell, put_together}
use Rattle.icl_references.specs.Roles.{Role, ScanInput, DataInput, PartOf, CellOf, seen_body, seen_part}
use Rattle.icl_elab.specs.FoundParts.{Found}
use Rattle.icl_elab.specs.SecondPass.{second_pass}
use Rattle.icl_references.specs.Tables.{here_at}

-- ---- where a cell's instance is

abbrev pub home_at : List (Option ℕ) → ℕ → Option ℕ
home_at homes c = slice_index_or homes c None

abbrev pub parent_in : List Frame → ℕ → Option ℕ
parent_in frames c = (here_at frames c).frame.parent

abbrev pub parts_of : Option CellParts → List Placed
parts_of None = []
parts_of (Some c) = c.parts.items

abbrev pub is_of_cell : ℕ → Placed → Bool
is_of_cell c p = is_this_cell c (seen_body p.part.body)

-- the part of its parent that is its instance
abbrev pub home_in : List CellParts → ℕ → Option ℕ → Option ℕ
home_in cells c None = None
home_in cells c (Some parent) = position_from (is_of_cell c) 0 (parts_of (slice_get cells parent))

-- what a part binds
abbrev pub bound_of : Option Placed → List Bound
bound_of None = []
bound_of (Some p) = p.bound

abbrev pub part_bindings : List CellParts → ℕ → ℕ → List Bound
part_bindings cells cell part = bound_of (slice_get (parts_of (slice_get cells cell)) part)

-- ---- ports

-- what a port is that is bound so; none for any other part
abbrev pub port_bound : List Bound → ℕ → ℕ → Role → Option Role
port_bound bs part wide (ScanInput bound) = Some (ScanInput (option_map first_ref (refs_of bs part 1)))
port_bound bs part wide (DataInput bound) = Some (DataInput (refs_of bs part wide))
port_bound bs part wide role = None

abbrev pub port_of : List Bound → Placed → Option Role
port_of bs p = port_bound bs p.number
    (width (record { left = p.part.left; right = p.part.right })) (seen_body p.part.body)

abbrev pub seen_ports : List (Option Body) → List (Option Role)
seen_ports ports = map (option_map seen_body) ports

abbrev pub seen_cell_ports : CellPorts → List (Option Role)
seen_cell_ports c = seen_ports c.ports.items

-- of cells that have these numbers and frames
abbrev pub ports_from : List (List Found) → ℕ → List Frame → List CellParts → List (List (Option Role))
ports_from founds s [] cells = []
ports_from founds s (f ∷ fs) [] = []
ports_from founds s (f ∷ fs) (c ∷ cells) =
    map (port_of (bindings_of founds s f.parent)) c.parts.items ∷ ports_from founds (s + 1) fs cells

-- ---- parts and cells

abbrev pub part_with : Placed → Option Role → PartOf
part_with p port = record (seen_part p.part) { role = unwrap_or port (seen_body p.part.body) }

abbrev pub first_port : List (Option Role) → Option Role
first_port [] = None
first_port (port ∷ ports) = port

abbrev pub rest_ports : List (Option Role) → List (Option Role)
rest_ports [] = []
rest_ports (port ∷ ports) = ports

abbrev pub parts_with : List Placed → List (Option Role) → List PartOf
parts_with [] ports = []
parts_with (p ∷ ps) ports = part_with p (first_port ports) ∷ parts_with ps (rest_ports ports)

abbrev pub cell_with : Frame → List Placed → List (Option Role) → CellOf
cell_with f ps ports =
    record { name = f.name; parent = f.parent; module_name = f.block.name; parts = parts_with ps ports }

abbrev pub first_ports : List (List (Option Role)) → List (Option Role)
first_ports [] = []
first_ports (ports ∷ all) = ports

abbrev pub other_ports : List (List (Option Role)) → List (List (Option Role))
other_ports [] = []
other_ports (ports ∷ all) = all

abbrev pub made : List Frame → List CellParts → List (List (Option Role)) → List CellOf
made [] cells all = []
made (f ∷ fs) [] all = []
made (f ∷ fs) (c ∷ cells) all = cell_with f c.parts.items (first_ports all) ∷ made fs cells (other_ports all)

-- ---- the whole second pass

abbrev pub resolved : List Frame → Answer (List CellOf)
resolved frames = second_pass frames >>= λ founds. Ok (put_together frames founds)
