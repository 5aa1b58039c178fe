-- The values that a run finds at register bits.
use Rattle.std.specs.Prelude.{Bool, List, [], map}
use Rattle.instruments.specs.Machine.{count_log}
use Rattle.net_graph.specs.declared.step.ReadBit.{ReadBit}
use Rattle.pdl_meaning.specs.Direct.{found}
use Rattle.pdl_meaning.specs.States.{SeenState, with_reads}
use Rattle.instruments.specs.Runners.{machines_of}

-- a read bit with the value that is found
abbrev pub found_in : SeenState → ReadBit → ReadBit × Bool
found_in s r = found count_log s.net (machines_of s.models) (with_reads s []) r

abbrev pub found_all : SeenState → List ReadBit → List (ReadBit × Bool)
found_all s reads = map (found_in s) reads
