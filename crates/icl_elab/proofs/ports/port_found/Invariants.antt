use Rattle.std.proofs.Common.{◌≡◌, map, drop}
use Rattle.icl_lexer.specs.Views.{seen_prop}
use Rattle.icl_elab.specs.FoundParts.{found, port_prop, port_role}
use Rattle.icl_elab.specs.SeenParts.{seen_resolved}
use Rattle.icl_references.specs.Tables.{frames_of, here_in, seen_member}
use Rattle.icl_declarations.specs.Faults.{over}
use Rattle.icl_elab.proofs.ports.port_found.Given as goal

abbrev pub invariant-loop-prop : goal.invariant-loop-prop
invariant-loop-prop l =
    over (port_prop (frames_of l.tables) (here_in l.tables l.here) l.kind (seen_member l.m))
    (seen_resolved l.port) (map seen_prop (drop l.prop-index l.props))
    ≡ over (port_prop (frames_of l.tables) (here_in l.tables l.here) l.kind (seen_member l.m))
    (found (port_role (frames_of l.tables) (here_in l.tables l.here) l.kind)) (map seen_prop l.props)
