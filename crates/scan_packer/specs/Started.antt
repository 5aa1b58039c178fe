-- Where the registers of a path begin.
use Rattle.std.specs.Prelude.{◌≡◌, ◌<◌, ◌+◌, ℕ, List, [], ◌∷◌, length, get_or, reverse, slice_set, Contains}
use Rattle.net_graph.specs.declared.net.Net.{Net}
use Rattle.net_graph.specs.Chain.{position}
use Rattle.net_graph.specs.Resets.{zero_holds}
use Rattle.net_graph.specs.Signals.{Holds, bits_at}
use Rattle.scan_packer.specs.declared.put.Start.{Start}

-- the first bit of the register is there; the path goes from scan-in to scan-out
abbrev pub IsStart : Net → List ℕ → Start → Type 0
IsStart net path start = start.at
    ≡ position (reverse path) (zero_holds net) (record { reg = start.reg; pos = 0 })

-- so is that of each register of the path that is in the list, by its number
abbrev pub AreStarts : Net → List ℕ → List ℕ → Type 0
AreStarts net path starts = (reg default : ℕ) → Contains path reg → reg < length starts
    → get_or starts reg default ≡ position (reverse path) (zero_holds net) (record { reg = reg; pos = 0 })

-- the list after the starts of a path from scan-out to scan-in were put in, the first of them there
abbrev pub noted : Holds → List ℕ → ℕ → List ℕ → List ℕ
noted holds [] start starts = starts
noted holds (r ∷ rs) start starts =
    noted holds rs (start + length (bits_at holds r)) (slice_set starts r start)
