use Rattle.std.proofs.Common.{◌≡◌, map, drop}
use Rattle.icl_lexer.specs.Views.{seen_prop}
use Rattle.icl_elab.specs.FoundParts.{nothing_said, register_prop}
use Rattle.icl_elab.specs.SeenParts.{seen_said}
use Rattle.icl_references.specs.Tables.{frames_of, here_in, seen_member}
use Rattle.icl_declarations.specs.Faults.{over}
use Rattle.icl_elab.proofs.registers.register_props.Given as goal

abbrev pub invariant-loop-prop : goal.invariant-loop-prop
invariant-loop-prop l =
    over (register_prop (frames_of l.tables) (here_in l.tables l.here) (seen_member l.m)) (seen_said
    (frames_of l.tables) (here_in l.tables l.here) l.said) (map seen_prop (drop l.prop-index l.props))
    ≡ over (register_prop (frames_of l.tables) (here_in l.tables l.here) (seen_member l.m))
    (nothing_said (frames_of l.tables) (here_in l.tables l.here)) (map seen_prop l.props)
