-- What follows for the cells of a network, and for the steps of a procedure.
use Rattle.std.specs.Prelude.{ℕ, ◌≤◌, List, length}
use Rattle.ij_text.specs.Numbering.{AreDistinct}
use Rattle.net_graph.specs.declared.net.Net.{Net}
use Rattle.net_graph.specs.Nets.{IsNet}
use Rattle.pdl_parser.specs.Values.{AProc}
use Rattle.pdl_expand.specs.Values.{ACell, cells_of}
use Rattle.pdl_expand.specs.Expansion.{dotted_paths, expansion}

-- no two cells of a well formed network have one dotted path, so such a path finds the cell that has it
abbrev pub PathsDiffer : Type 0
PathsDiffer = (net : Net) → IsNet net → AreDistinct (dotted_paths (cells_of net))

-- a procedure has at most 100,000 steps, since each executed command gives one at most
abbrev pub StepsAreFew : Type 0
StepsAreFew = (procs : List AProc) (cells : List ACell) (name : List ℕ)
    → length (expansion procs cells name).steps ≤ 100000
