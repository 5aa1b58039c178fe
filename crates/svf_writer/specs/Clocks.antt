-- How many clocks of TCK a player of commands takes (Serial Vector Format, revision E: SIR, SDR, STATE,
-- RUNTEST; IEEE 1149.1-2013).
use Rattle.std.specs.Prelude.{ℕ, suc, ◌+◌, Bool, true, false, cond, List, [], ◌∷◌}
use Rattle.svf_writer.specs.SeenCommands.{SeenCommand, SIR, SDR, Reset, Idle, Run}

-- the clocks of commands, one more where Test-Logic-Reset is left
abbrev pub with_leave : Bool → ℕ → ℕ
with_leave in_reset n = cond in_reset (suc n) n

abbrev pub clocks_from : Bool → List SeenCommand → ℕ
clocks_from in_reset [] = 0
clocks_from in_reset (SIR s ∷ cs) = with_leave in_reset (s.len + 6) + clocks_from false cs
clocks_from in_reset (SDR s ∷ cs) = with_leave in_reset (s.len + 5) + clocks_from false cs
clocks_from in_reset (Reset ∷ cs) = 5 + clocks_from true cs
clocks_from in_reset (Idle ∷ cs) = with_leave in_reset 0 + clocks_from false cs
clocks_from in_reset (Run n ∷ cs) = with_leave in_reset n + clocks_from false cs
