-- Where the active path and the path with a stuck mux go apart, and where they join again (IEEE 1687-2014:
-- ScanMux, active scan path).
use Rattle.std.specs.Prelude.{◌≡◌, ◌≢◌, ◌<◌, ◌≤◌, ◌+◌, ◌++◌, ℕ, List, length, Some}
use Rattle.net_graph.specs.declared.branch.Branch.{Branch}
use Rattle.net_graph.specs.declared.net.Net.{Net}
use Rattle.net_graph.specs.declared.net.Point.{Point}
use Rattle.net_graph.specs.declared.net.Point.TheVariants.{Mux}
use Rattle.net_graph.specs.Named.{IsPointOf}
use Rattle.net_graph.specs.Path.{route_of, trace}
use Rattle.net_graph.specs.Signals.{Holds}
use Rattle.net_graph.specs.Stuck.{stuck_route}
use Rattle.mux_test.specs.declared.detour.Detour.{Detour}

-- a part of the active path, and the part that takes its place where a mux is stuck: all else is the same
pub record IsDetour (net : Net) (holds : Holds) (b : Branch) (own other : List ℕ) : Type 0 where
  pub front : List ℕ
  pub rest : List ℕ
  pub active : route_of net holds ≡ front ++ (own ++ rest)
  pub stuck : stuck_route net b holds ≡ front ++ (other ++ rest)

-- a path of this many moves from a mux on goes over these registers to a point, from which fewer moves are
-- left
pub record GoesTo (net : Net) (holds : Holds) (m : ℕ) (p : Point) (met : List ℕ)
    (moves : ℕ) (whole : List ℕ) : Type 0 where
  pub left : ℕ
  pub rest : List ℕ
  pub ends : trace net holds left p ≡ Some rest
  pub all : whole ≡ met ++ rest
  pub within : left ≤ moves
  pub fewer : p ≢ Mux m → left < moves

-- the active path from a mux on is traced over these registers up to a point
pub record IsTracedFrom (net : Net) (holds : Holds) (ahead : Point) (own : List ℕ) (m : ℕ) : Type 0 where
  pub there : IsPointOf net ahead
  pub few : length own ≤ length net.regs.items
  pub goes : (n : ℕ) (whole : List ℕ) → trace net holds n (Mux m) ≡ Some whole
      → GoesTo net holds m ahead own n whole

-- room for two paths of a network
pub record HasDetourRoom (net : Net) (detour : Detour) : Type 0 where
  pub own : length net.regs.items ≤ length detour.own.items + detour.own.spare
  pub other : length net.regs.items ≤ length detour.other.items + detour.other.spare
