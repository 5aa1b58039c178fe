-- The fewest scans in which a register is first written from power-up on.
use Rattle.std.specs.Prelude.{◌<◌, ℕ, false, [], ◌∷◌, length}
use Rattle.net_graph.specs.declared.net.Net.{Net}
use Rattle.net_graph.specs.declared.net.Point.TheVariants.{Reg}
use Rattle.net_graph.specs.Nets.{IsNet}
use Rattle.net_graph.specs.Resets.{start_holds}
use Rattle.net_graph.specs.SeenSteps.{SeenGroup}
use Rattle.net_tree.specs.Form.{Items, Describes}
use Rattle.net_tree.specs.Lawful.{IsLawful}
use Rattle.net_tree.specs.Places.{place_of}
use Rattle.path_planner.specs.Least.{IsLeast}
use Rattle.path_planner.specs.RowScans.{row_scans}

-- the rows around the register are settled from power-up on, and one more scan writes it
abbrev pub fewest_scans : Net → Items → ℕ → ℕ
fewest_scans net form r =
    let place = place_of form (Reg r) in length (row_scans net place (length place) (start_holds net))

-- a group that names the register alone
abbrev pub names : ℕ → SeenGroup
names r = record { writes = record { bit = record { reg = r; pos = 0 }; value = false } ∷ []; reads = [] }

-- no sequence of scans from power-up on writes a register sooner, and one does as soon
abbrev pub ScansAreFewest : Type 0
ScansAreFewest =
    (net : Net) (form : Items) (r : ℕ) → IsNet net → Describes net form → IsLawful net form
    → r < length net.regs.items → IsLeast net (names r) (start_holds net) (fewest_scans net form r)
