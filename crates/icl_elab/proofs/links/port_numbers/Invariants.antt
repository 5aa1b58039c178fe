use Rattle.std.proofs.Common.{◌≡◌, map, drop}
use Rattle.icl_lexer.specs.Views.{bytes_of}
use Rattle.icl_elab.specs.FoundParts.{port_number}
use Rattle.icl_references.specs.Tables.{frames_of, here_in}
use Rattle.icl_declarations.specs.Faults.{each}
use Rattle.icl_declarations.proofs.Each.{more}
use Rattle.icl_elab.proofs.links.port_numbers.Given as goal

abbrev pub invariant-loop-name : goal.invariant-loop-name
invariant-loop-name l = more (port_number (frames_of l.tables) (here_in l.tables l.here) l.at) l.numbers.items
    (map bytes_of (drop l.name-index l.names))
    ≡ each (port_number (frames_of l.tables) (here_in l.tables l.here) l.at) (map bytes_of l.names)
