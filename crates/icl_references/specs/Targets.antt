-- Where a path of names leads to, name by name, and without where it lies in memory.
use Rattle.std.specs.Prelude.{ℕ, List, Ok}
use Rattle.ij_text.specs.declared.Place.{Place}
use Rattle.icl_declarations.specs.Faults.{Answer, ◌>>=◌}
use Rattle.icl_frames.specs.FirstPass.{Frame}
use Rattle.icl_references.specs.declared.paths.CellMember.{CellMember as TargetAt}
use Rattle.icl_references.specs.declared.tables.Tables.{Tables}
use Rattle.icl_references.specs.Names.{Here, CellMember, named, cell_of_instance}
use Rattle.icl_references.specs.Tables.{here_in, seen_member}

abbrev pub seen_target : Tables → TargetAt → CellMember
seen_target tables t = record { here = here_in tables t.cell; member = seen_member t.member }

-- an instance by its name
abbrev pub child_named : List Frame → Here → Place → List ℕ → Answer Here
child_named frames here at name = named here.frame at name
    >>= λ m. cell_of_instance frames here at m.item.name m.item.what

-- any part by its name
abbrev pub target_named : Here → Place → List ℕ → Answer CellMember
target_named here at name = named here.frame at name >>= λ m. Ok (record { here = here; member = m })
