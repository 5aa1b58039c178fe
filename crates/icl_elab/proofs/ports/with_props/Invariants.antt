use Rattle.std.proofs.Common.{◌≡◌, map, drop}
use Rattle.icl_lexer.specs.Views.{seen_prop}
use Rattle.icl_elab.specs.FoundParts.{alias_prop}
use Rattle.icl_elab.specs.SeenParts.{seen_resolved}
use Rattle.icl_references.specs.Tables.{frames_of, here_in, seen_member}
use Rattle.icl_declarations.specs.Faults.{over}
use Rattle.icl_elab.proofs.ports.with_props.Given as goal

abbrev pub invariant-loop-prop : goal.invariant-loop-prop
invariant-loop-prop l =
    over (alias_prop (frames_of l.tables) (here_in l.tables l.here) (seen_member l.m)) (seen_resolved l.alias)
    (map seen_prop (drop l.prop-index l.props))
    ≡ over (alias_prop (frames_of l.tables) (here_in l.tables l.here) (seen_member l.m))
    (seen_resolved l.fn.start) (map seen_prop l.props)
