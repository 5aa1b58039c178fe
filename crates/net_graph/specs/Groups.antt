-- What a group of writes and reads names (IEEE 1687-2014, PDL level 0: iApply).
use Rattle.std.specs.Prelude.{◌≡◌, ℕ, List, [], ◌++◌, map}
use Rattle.net_graph.specs.SeenSteps.{SeenGroup}

-- the registers that a group names
abbrev pub registers_of : SeenGroup → List ℕ
registers_of g = map (λ w. w.bit.reg) g.writes ++ map (λ r. r.bit.reg) g.reads

-- a group that names no bit
abbrev pub IsEmpty : SeenGroup → Type 0
IsEmpty g = (g.writes ≡ []) × (g.reads ≡ [])
