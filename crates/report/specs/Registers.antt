-- The lines of registers: what their update stages hold.
use Rattle.std.specs.Prelude.{ℕ, zero, suc, Bool, true, false, cond, List, [], ◌∷◌, ◌++◌, codes, length}
use Rattle.net_graph.specs.declared.net.BitId.{BitId}
use Rattle.net_graph.specs.declared.net.Net.{Net}
use Rattle.net_graph.specs.Named.{width_of}
use Rattle.net_graph.specs.Path.{is_select}
use Rattle.net_graph.specs.Signals.{Holds, hold_at}
use Rattle.report.specs.Paths.{register_path}

abbrev pub digit : Bool → ℕ
digit true = 49
digit false = 48

-- a bit that selects in a multiplexer is an s (115)
abbrev pub bit_digit : Net → Holds → BitId → ℕ
bit_digit net holds b = cond (is_select net b) 115 (digit (hold_at holds b))

-- the lowest n bits of a register, the highest first
abbrev pub register_digits : Net → Holds → ℕ → ℕ → List ℕ
register_digits net holds r zero = []
register_digits net holds r (suc n) =
    bit_digit net holds (record { reg = r; pos = n }) ∷ register_digits net holds r n

abbrev pub register_text : Net → Holds → ℕ → List ℕ
register_text net holds r =
    codes "register "
    ++ (register_path net r ++ 32 ∷ (register_digits net holds r (width_of net r) ++ 10 ∷ []))

-- n registers from r on
abbrev pub registers_from : Net → Holds → ℕ → ℕ → List ℕ
registers_from net holds r zero = []
registers_from net holds r (suc n) = register_text net holds r ++ registers_from net holds (suc r) n

abbrev pub registers_text : Net → Holds → List ℕ
registers_text net holds = registers_from net holds 0 (length net.regs.items)
