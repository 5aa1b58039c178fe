-- The scan registers of a network as an audit keeps them, before and after the scan at hand.
use Rattle.std.specs.Prelude.{◌≡◌, ℕ, ◌+◌, ◌≤◌, Bool, true, false, List, [], ◌∷◌, ◌++◌, length, take, drop}
use Rattle.std.specs.Prelude.{filter, not, vec_capacity, IsTrue}
use Rattle.std.specs.List.{list_all}
use Rattle.ij_bits.specs.BitLists.{same_bit}
use Rattle.net_graph.specs.declared.net.BitId.{BitId}
use Rattle.net_graph.specs.Chain.{chain, put_chain}
use Rattle.net_graph.specs.Held.{AreHolds}
use Rattle.net_graph.specs.Nets.{IsNet}
use Rattle.net_graph.specs.Resets.{start_holds}
use Rattle.net_graph.specs.Signals.{Holds, hold_at}
use Rattle.net_graph.specs.Path.{route_of}
use Rattle.svf_audit.specs.declared.registers.Registers.{Registers}
use Rattle.svf_audit.specs.Audit.{bits_on, has_row}
use Rattle.net_graph.specs.MarkedSelects.{AreSelects}

-- the active path
abbrev pub path_in : Registers → List ℕ
path_in r = route_of r.net.now r.holds

-- there is room for every path and its bits, and the bits of a path are known
pub record AreRegisters (r : Registers) : Type 0 where
  pub net : IsNet r.net.now
  pub selects : AreSelects r.net.now r.selects
  pub holds : AreHolds r.net.now r.holds
  pub path_room : length r.net.now.regs.items ≤ length r.path.items + r.path.spare
  pub next_room : length r.net.now.regs.items ≤ length r.next.items + r.next.spare
  pub bits_room : 4096 ≤ vec_capacity r.bits
  pub known : r.bits.items ≡ bits_on (start_holds r.net.now) r.path.items
  pub chain_room : 4096 ≤ length r.chain.items + r.chain.spare
  pub moved_room : 4096 ≤ length r.moved.items + r.moved.spare

-- the active path is found
pub record AreFound (r : Registers) : Type 0 where
  pub path : r.path.items ≡ path_in r
  pub bits : r.bits.items ≡ bits_on r.holds (path_in r)

-- and what its bits hold
pub record AreReady (r : Registers) : Type 0 where
  pub found : AreFound r
  pub chain : r.chain.items ≡ chain (path_in r) r.holds

-- each mux has a row for its select value, if that is known
abbrev pub AreListed : Registers → Type 0
AreListed r = IsTrue r.listed → list_all (has_row r.holds) r.net.now.muxes.items ≡ true

-- between two scans
pub record AreStill (r : Registers) : Type 0 where
  pub same : r.after ≡ r.holds
  pub ready : IsTrue r.found → AreReady r
  pub listed : AreListed r

-- whether a bit has another value now
abbrev pub differs : Holds → Holds → BitId → Bool
differs before now b = not (same_bit (hold_at now b) (hold_at before b))

-- its registers have taken TDI
pub record AreShifted (r : Registers) : Type 0 where
  pub fits : length r.chain.items ≡ length (chain (path_in r) r.holds)
  pub after : r.after ≡ put_chain (path_in r) r.chain.items r.holds
  pub moved : r.moved.items ≡ filter (differs r.holds r.after) (bits_on r.holds (path_in r))

-- the bits at which two lists differ
abbrev pub differing : List BitId → List Bool → List Bool → List BitId
differing [] before now = []
differing (b ∷ bs) [] now = []
differing (b ∷ bs) (x ∷ xs) [] = []
differing (b ∷ bs) (x ∷ xs) (y ∷ ys) =
    elim (same_bit y x) [ true ↦ differing bs xs ys | false ↦ b ∷ differing bs xs ys ]

-- the path has taken this many bits
pub record IsTurned (r : Registers) (tdi : List Bool) (k : ℕ) : Type 0 where
  pub sound : AreRegisters r
  pub found : AreFound r
  pub fits : length r.chain.items ≡ length (chain (path_in r) r.holds)
  pub long : length tdi ≡ length r.chain.items
  pub after : r.after ≡ put_chain (path_in r) r.chain.items r.holds
  pub done : take k r.chain.items ≡ take k tdi
  pub room : length r.chain.items ≤ k + r.moved.spare

-- the bits that have changed then, and those that will
abbrev pub to_move : Registers → List Bool → ℕ → List BitId
to_move r tdi k = r.moved.items ++ differing (drop k r.bits.items) (drop k r.chain.items) (drop k tdi)
