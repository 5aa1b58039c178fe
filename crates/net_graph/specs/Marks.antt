-- Numbers at register bits.
use Rattle.std.specs.Prelude.{◌<◌, ℕ, List, [], length, get_or, map, replicate, slice_set}
use Rattle.net_graph.specs.declared.net.BitId.{BitId}
use Rattle.net_graph.specs.declared.net.Net.{Net}

-- a list of numbers for each register, position 0 nearest TDO
abbrev pub Marks : Type 0
Marks = List (List ℕ)

-- the number at a bit, 0 for one that isn't there
abbrev pub mark_at : Marks → BitId → ℕ
mark_at marks b = get_or (get_or marks b.reg []) b.pos 0

abbrev pub HasMark : Marks → BitId → Type 0
HasMark marks b = b.pos < length (get_or marks b.reg [])

abbrev pub set_mark : Marks → BitId → ℕ → Marks
set_mark marks b n = slice_set marks b.reg (slice_set (get_or marks b.reg []) b.pos n)

abbrev pub zeros : ℕ → List ℕ
zeros width = replicate width 0

-- a 0 for each bit of a network
abbrev pub zero_marks : Net → Marks
zero_marks net = map (λ reg. zeros reg.width) net.regs.items
