use Rattle.std.proofs.Common.{◌≡◌, ◌<◌, ℕ, All, drop, length, map}
use Rattle.net_graph.specs.declared.net.Point.TheVariants.{Reg, Mux}
use Rattle.net_tree.specs.Known.{IsShort, known_at, known_or}
use Rattle.net_tree.specs.Seeking.{branch_of, seeker_state, AreFew, seek, start}
use Rattle.net_tree.proofs.place.all_places.Given as goal

-- what is known of a register or a mux, or else what is found in the entries that are left, is what is found
-- in all
abbrev pub invariant-loop-at : goal.invariant-loop-at
invariant-loop-at l =
    AreFew l.seeker.levels
    × All IsShort l.regs.items
    × All IsShort l.muxes.items
    × ((r : ℕ) → r < length l.regs.items → known_or (known_at l.regs.items r)
    (map branch_of (seek l.at (drop l.at l.entries) (seeker_state l.seeker) (Reg r)))
    ≡ map branch_of (seek 0 l.entries start (Reg r)))
    × ((m : ℕ) → m < length l.muxes.items → known_or (known_at l.muxes.items m)
    (map branch_of (seek l.at (drop l.at l.entries) (seeker_state l.seeker) (Mux m)))
    ≡ map branch_of (seek 0 l.entries start (Mux m)))
