-- Signals in a run: bits of one register, or of one output, position after position.
use Rattle.std.specs.Prelude.{ℕ, zero, suc, false, List, [], ◌∷◌}
use Rattle.net_graph.specs.declared.net.Sig.{Sig}
use Rattle.net_graph.specs.declared.net.Sig.TheVariants.{Bit, Out}

-- this many bits of a register, from a position on
abbrev pub register_run : ℕ → ℕ → ℕ → List Sig
register_run reg pos zero = []
register_run reg pos (suc n) = Bit (record { reg = reg; pos = pos }) false ∷ register_run reg (suc pos) n

-- this many bits of an instrument's output, from a position on
abbrev pub output_run : ℕ → ℕ → ℕ → ℕ → List Sig
output_run inst port pos zero = []
output_run inst port pos (suc n) = Out inst port pos false ∷ output_run inst port (suc pos) n
