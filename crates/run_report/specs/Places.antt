-- In which scan, and at which position there, each read of a procedure is compared (IEEE 1687-2014, PDL level
-- 0: iRead; Serial Vector Format, revision E: TDO and MASK). Scans are counted from 1 over all scan commands,
-- and position 0 is the first at TDO.
use Rattle.std.specs.Prelude.{ℕ, suc, ◌+◌, ◌==◌, ◌&&◌, cond, List, [], ◌∷◌, ◌++◌, length, map, Option, Some}
use Rattle.std.specs.Prelude.{None}
use Rattle.net_graph.specs.declared.net.Net.{Net}
use Rattle.net_graph.specs.declared.step.ReadBit.{ReadBit}
use Rattle.net_graph.specs.Chain.{position}
use Rattle.net_graph.specs.Resets.{start_holds}
use Rattle.net_graph.specs.SeenSteps.{SeenGroup}
use Rattle.net_graph.specs.Signals.{Holds}
use Rattle.net_graph.specs.Writes.{write_all}
use Rattle.net_graph.specs.Path.{route_of}
use Rattle.headline.specs.Retargeting.{PlannedGroup, PlannedStep, Applies, Runs, Resets, holds_after_step}
use Rattle.headline.specs.Scans.{holds_after}
use Rattle.run_report.specs.declared.place.ReadPlace.{ReadPlace}

-- where a read is in a scan: at its bit's position on the active path that the scan goes through
abbrev pub place_in : Net → Holds → ℕ → ReadBit → ReadPlace
place_in net holds scan r = record { scan = scan; bit = position (route_of net holds) holds r.bit; read = r }

abbrev pub scan_places : Net → Holds → ℕ → List ReadBit → List ReadPlace
scan_places net holds scan reads = map (place_in net holds scan) reads

-- a scan for each plan, after this many others
abbrev pub plans_places : Net → Holds → ℕ → List SeenGroup → List ReadPlace
plans_places net holds scans [] = []
plans_places net holds scans (p ∷ ps) =
    scan_places net holds (suc scans) p.reads ++ plans_places net (write_all holds p.writes) (suc scans) ps

-- the rounds of an iApply, one after the other
abbrev pub rounds_places : Net → Holds → ℕ → List PlannedGroup → List ReadPlace
rounds_places net holds scans [] = []
rounds_places net holds scans (p ∷ ps) =
    plans_places net holds scans p.plans
    ++ rounds_places net (holds_after holds p.plans) (scans + length p.plans) ps

abbrev pub scans_after_rounds : ℕ → List PlannedGroup → ℕ
scans_after_rounds scans [] = scans
scans_after_rounds scans (p ∷ ps) = scans_after_rounds (scans + length p.plans) ps

abbrev pub step_places : Net → Holds → ℕ → PlannedStep → List ReadPlace
step_places net holds scans (Applies rounds) = rounds_places net holds scans rounds
step_places net holds scans (Runs n) = []
step_places net holds scans Resets = []

-- after a reset one scan loads the instruction
abbrev pub scans_after_step : ℕ → PlannedStep → ℕ
scans_after_step scans (Applies rounds) = scans_after_rounds scans rounds
scans_after_step scans (Runs n) = scans
scans_after_step scans Resets = suc scans

abbrev pub steps_places : Net → Holds → ℕ → List PlannedStep → List ReadPlace
steps_places net holds scans [] = []
steps_places net holds scans (x ∷ xs) =
    step_places net holds scans x
    ++ steps_places net (holds_after_step net holds x) (scans_after_step scans x) xs

-- the reads of all steps from power-up on, after the scan that loads the instruction
abbrev pub places : Net → List PlannedStep → List ReadPlace
places net xs = steps_places net (start_holds net) 1 xs

-- the read at a position of a scan
abbrev pub read_at : List ReadPlace → ℕ → ℕ → Option ReadBit
read_at [] scan bit = None
read_at (p ∷ ps) scan bit = cond ((p.scan == scan) && (p.bit == bit)) (Some p.read) (read_at ps scan bit)
