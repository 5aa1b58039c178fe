-- How many clocks any SVF takes at least that does what a procedure asks for
-- (IEEE 1149.1-2013, TAP controller; IEEE 1687-2014, PDL level 0; Serial Vector Format, revision E).
use Rattle.std.specs.Prelude.{ℕ, suc, ◌+◌, Bool, true, false, cond, not, List, [], ◌∷◌, ◌++◌, map, filter}
use Rattle.std.specs.Prelude.{flat_map}
use Rattle.std.specs.List.{list_all}
use Rattle.net_graph.specs.declared.branch.Branch.{Branch}
use Rattle.net_graph.specs.declared.device.Device.{Device}
use Rattle.net_graph.specs.declared.net.Net.{Net}
use Rattle.net_graph.specs.declared.net.Point.TheVariants.{Reg}
use Rattle.net_graph.specs.Path.{is_in, route_of}
use Rattle.net_graph.specs.Resets.{reset_holds, start_holds}
use Rattle.net_graph.specs.SeenSteps.{SeenGroup, SeenStep}
use Rattle.net_graph.specs.Signals.{Holds}
use Rattle.net_graph.specs.Writes.{write_all}
use Rattle.net_tree.specs.Form.{Items}
use Rattle.net_tree.specs.Places.{place_of}
use Rattle.tap_machine.specs.declared.Stable.{Stable}
use Rattle.tap_machine.specs.declared.Stable.TheVariants.{Reset as InReset, Idle as InIdle}
use Rattle.svf_audit.specs.Work.{Work, Group, Cycle, Reset, all_work, has_value, is_redundant}
use Rattle.least_clocks.specs.Inside.{bits_along, is_one_of, bits_within_rows}

-- the registers of which a round changes a bit, and those of which it reads one
abbrev pub changed : Holds → SeenGroup → List ℕ
changed holds g = map (λ w. w.bit.reg) (filter (λ w. not (has_value holds w)) g.writes)

abbrev pub read : SeenGroup → List ℕ
read g = map (λ r. r.bit.reg) g.reads

-- each mux and row around some registers
abbrev pub rows_around : Items → List ℕ → List Branch
rows_around form registers = flat_map (λ r. place_of form (Reg r)) registers

-- whether the scan of a round passes a row
abbrev pub is_passed : Items → Holds → SeenGroup → Branch → Bool
is_passed form holds g = is_one_of (rows_around form (changed holds g) ++ rows_around form (read g))

-- the active path at power-up
abbrev pub first_path : Net → List ℕ
first_path net = route_of net (start_holds net)

-- whether it has all registers that a round asks for
abbrev pub is_on_first : Net → Holds → SeenGroup → Bool
is_on_first net holds g = list_all (is_in (first_path net)) (changed holds g ++ read g)

-- whether no data scan reached the network yet, whether the link's instruction is in force, where the
-- controller rests, and the register bits: what counts of them are those that select nothing
pub record State : Type 0 where
  pub fresh : Bool
  pub linked : Bool
  pub rest : Stable
  pub holds : Holds

-- the clocks from there to Run-Test/Idle
abbrev pub clocks_to_idle : Stable → ℕ
clocks_to_idle InReset = 1
clocks_to_idle InIdle = 0

-- the clocks of the scan that brings the link's instruction into force: 4 to Shift-IR and 2 back, as many as
-- it has bits between
abbrev pub clocks_to_link : Device → Bool → ℕ
clocks_to_link device true = 0
clocks_to_link device false = device.ir + 6

-- after the scan of a round, in Run-Test/Idle, after a reset, and at power-up
abbrev pub was_scanned : State → SeenGroup → State
was_scanned s g = record { fresh = false; linked = true; rest = InIdle; holds = write_all s.holds g.writes }

abbrev pub was_idle : State → State
was_idle s = record s { rest = InIdle }

abbrev pub was_reset : Net → State → State
was_reset net s = record { fresh = s.fresh; linked = false; rest = InReset; holds = reset_holds net s.holds }

abbrev pub start : Net → State
start net = record { fresh = true; linked = false; rest = InReset; holds = start_holds net }

-- a data scan takes 3 clocks to Shift-DR and 2 back, as many as the path has bits between: the scan of a
-- round, and the first one since power-up
abbrev pub own_scan : Net → Items → Holds → SeenGroup → ℕ
own_scan net form holds g = bits_within_rows net form (is_passed form holds g) + 5

abbrev pub first_scan : Net → ℕ
first_scan net = bits_along net (first_path net) + 5

-- A round that changes a bit or reads one takes a scan of its own. The first scan goes along the path at
-- power-up: where that hasn't all registers that the round asks for, another one follows.
abbrev pub round_scan_clocks : Net → Items → Bool → Holds → SeenGroup → ℕ
round_scan_clocks net form false holds g = own_scan net form holds g
round_scan_clocks net form true holds g =
    first_scan net + cond (is_on_first net holds g) 0 (own_scan net form holds g)

module _ (net : Net) (form : Items) (device : Device) where
  -- with the ways to Run-Test/Idle and to the link's instruction
  abbrev pub round_clocks : State → SeenGroup → ℕ
  round_clocks s g =
      clocks_to_idle s.rest + (clocks_to_link device s.linked + round_scan_clocks net form s.fresh s.holds g)

  -- the clocks of work from a state on: a reset takes 5, and goes out from Run-Test/Idle
  abbrev pub least_from : State → List Work → ℕ
  least_from s [] = 0
  least_from s (Group g ∷ ws) = elim (is_redundant s.holds (Group g)) [
    | true ↦ least_from s ws
    | false ↦ round_clocks s g + least_from (was_scanned s g) ws
  ]
  least_from s (Cycle ∷ ws) = clocks_to_idle s.rest + suc (least_from (was_idle s) ws)
  least_from s (Reset ∷ ws) = clocks_to_idle s.rest + (5 + least_from (was_reset net s) ws)

  -- from power-up on
  abbrev pub least_clocks : List SeenStep → ℕ
  least_clocks steps = least_from (start net) (all_work steps)
