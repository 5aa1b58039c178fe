-- How long a text with notes can become, by the lengths of its scans and the names of the registers alone,
-- without a play (Serial Vector Format, revision E: SIR, SDR).
use Rattle.std.specs.Prelude.{◌≤◌, ◌<◌, ℕ, ◌+◌, ◌*◌, List, [], ◌∷◌, ◌++◌, decimal, length, min}
use Rattle.net_graph.specs.declared.device.Device.{Device}
use Rattle.net_graph.specs.declared.net.Net.{Net}
use Rattle.net_graph.specs.Named.{width_of}
use Rattle.report.specs.Paths.{register_path}
use Rattle.svf_writer.specs.SeenCommands.{SIR, SDR, Reset, Idle, Run, SeenCommand}
use Rattle.svf_notes.specs.Notes.{range_text}

-- a register's path and range
abbrev pub named : Net → ℕ → List ℕ
named net r = register_path net r ++ range_text net r (width_of net r)

-- none of the first this many registers has a longer one
abbrev pub AreNamedWithin : Net → ℕ → ℕ → Type 0
AreNamedWithin net count most = (r : ℕ) → r < count → length (named net r) ≤ most

-- the note of a scan of n bits and the line feed that closes it, in a network of this many registers: the
-- words and numbers of its first line, three digits for each bit, and for each register on the path its
-- positions, its name and the words of its row
unfoldable pub most_of_scan : Device → ℕ → ℕ → ℕ → ℕ
most_of_scan device regs name n =
    57 + length (decimal device.ir) + (length (decimal n) + (3 * n + min n regs * (51 + name)))

abbrev pub most_of_command : Device → ℕ → ℕ → SeenCommand → ℕ
most_of_command device regs name (SIR s) = most_of_scan device regs name s.len
most_of_command device regs name (SDR s) = most_of_scan device regs name s.len
most_of_command device regs name Reset = 0
most_of_command device regs name Idle = 0
most_of_command device regs name (Run n) = 0

-- all notes of a text
abbrev pub most_of : Device → ℕ → ℕ → List SeenCommand → ℕ
most_of device regs name [] = 0
most_of device regs name (c ∷ cs) = most_of_command device regs name c + most_of device regs name cs
