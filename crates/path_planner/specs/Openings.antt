-- The registers that a group names, and the rows that they need.
use Rattle.std.specs.Prelude.{◌≡◌, ℕ, false, List, [], length, flat_map, replicate, All}
use Rattle.std.specs.Option.{IfSome}
use Rattle.ij_bits.specs.Room.{Listed}
use Rattle.net_graph.specs.declared.branch.Branch.{Branch}
use Rattle.net_graph.specs.declared.net.Net.{Net}
use Rattle.net_graph.specs.declared.net.Point.TheVariants.{Reg}
use Rattle.net_graph.specs.Groups.{registers_of}
use Rattle.net_graph.specs.SeenSteps.{SeenGroup}
use Rattle.net_tree.specs.Form.{Items}
use Rattle.net_tree.specs.Places.{place_of}
use Rattle.path_planner.specs.declared.opening_plans.OpeningPlans.{OpeningPlans}
use Rattle.path_planner.specs.FirstRows.{first_rows}
use Rattle.path_planner.specs.Planning.{IsBranchOf}
use Rattle.path_planner.specs.Registers.{add_registers}

-- the rows around some registers are rows of the network
abbrev pub ArePlacesIn : Net → Items → List ℕ → Type 0
ArePlacesIn net form regs = All (λ r. All (IsBranchOf net) (place_of form (Reg r))) regs

-- of the rows around some registers the first of each mux
abbrev pub AreRowsFor : Net → Items → List ℕ → Listed Branch → Type 0
AreRowsFor net form regs rows = rows.items
    ≡ first_rows (replicate (length net.muxes.items) false) (flat_map (λ r. place_of form (Reg r)) regs)

-- these are the registers of a group, and their rows where they are known
pub record IsOpeningFor (net : Net) (form : Items) (g : SeenGroup) (opening : OpeningPlans) : Type 0 where
  pub regs : opening.regs.items ≡ add_registers [] (registers_of g)
  pub rows : IfSome opening.rows (AreRowsFor net form opening.regs.items)
