-- What drives the input of an instrument, from its left bit on: constants, and register bits in runs (IEEE
-- 1687-2014, ICL: DataInPort, Source).
use Rattle.std.specs.Prelude.{ℕ, zero, suc, ◌+◌, ◌-◌, ◌==◌, ◌&&◌, Bool, false, cond, List, [], ◌∷◌, ◌++◌}
use Rattle.std.specs.Prelude.{codes, decimal, get_or, length, map, ltb}
use Rattle.ij_bits.specs.BitLists.{same_bit}
use Rattle.net_graph.specs.declared.net.BitId.{BitId}
use Rattle.net_graph.specs.declared.net.Net.{Net}
use Rattle.net_graph.specs.declared.net.Sig.{Sig}
use Rattle.net_graph.specs.declared.net.Sig.TheVariants.{Absent, Zero, One, Bit, Out}
use Rattle.net_graph.specs.Named.{thing_of}
use Rattle.net_graph.specs.PathNames.{thing_path}

-- a register, by its thing
abbrev pub register_path : Net → ℕ → List ℕ
register_path net r = thing_path net (thing_of net r)

-- position 0 has the right index
abbrev pub index_between : ℕ → ℕ → ℕ → ℕ
index_between left right pos = cond (ltb left right) (right - pos) (right + pos)

abbrev pub index_of : Net → BitId → ℕ
index_of net b =
    let t = thing_of net b.reg in
    index_between (get_or (map (λ thing. thing.left) net.things.items) t 0)
    (get_or (map (λ thing. thing.right) net.things.items) t 0) b.pos

-- a bit: its register, and its index after a bracket (91), and in brackets (93)
abbrev pub open_name : Net → BitId → List ℕ
open_name net b = register_path net b.reg ++ (91 ∷ [] ++ decimal (index_of net b))

abbrev pub bit_name : Net → BitId → List ℕ
bit_name net b = open_name net b ++ 93 ∷ []

-- whether a signal is in a register at the left of another
abbrev pub is_left_of : Sig → Sig → Bool
is_left_of Absent right = false
is_left_of Zero right = false
is_left_of One right = false
is_left_of (Out i p q v) right = false
is_left_of (Bit b v) Absent = false
is_left_of (Bit b v) Zero = false
is_left_of (Bit b v) One = false
is_left_of (Bit b v) (Out i p q w) = false
is_left_of (Bit b v) (Bit c w) = same_bit v w && ((b.reg == c.reg) && (b.pos == suc c.pos))

-- whether a position goes on with the run of the one at its left
abbrev pub continues_run : List Sig → ℕ → Bool
continues_run bits p = is_left_of (get_or bits (suc p) Absent) (get_or bits p Absent)

-- whether the position at its right goes on with its run
abbrev pub is_run_continued : List Sig → ℕ → Bool
is_run_continued bits zero = false
is_run_continued bits (suc p) = continues_run bits p

-- the beginning of a run: a constant, or a register and the left index; ~ is the inverse
abbrev pub run_start : Net → Sig → List ℕ
run_start net Absent = codes "-"
run_start net Zero = codes "0"
run_start net One = codes "1"
run_start net (Bit b v) = cond v (codes "~") [] ++ open_name net b
run_start net (Out i p q v) = codes "-"

-- the right index of a run that has more than one bit, after a colon, and a bracket
abbrev pub last_index : Net → BitId → Bool → List ℕ
last_index net b more = cond more (codes ":" ++ (decimal (index_of net b) ++ codes "]")) (codes "]")

-- the end of a run
abbrev pub run_end : Net → Bool → Sig → List ℕ
run_end net more Absent = []
run_end net more Zero = []
run_end net more One = []
run_end net more (Bit b v) = last_index net b more
run_end net more (Out i p q v) = []

-- one position of this many bits; runs have commas between
abbrev pub driver : Net → List Sig → ℕ → List ℕ
driver net bits p =
    let s = get_or bits p Absent in
    let more = continues_run bits p in
    cond more [] (cond (suc p == length bits) [] (codes ",") ++ run_start net s)
    ++ cond (is_run_continued bits p) [] (run_end net more s)

-- the lowest n positions, the highest first
abbrev pub drivers : Net → List Sig → ℕ → List ℕ
drivers net bits zero = []
drivers net bits (suc n) = driver net bits n ++ drivers net bits n
