use Rattle.std.proofs.Common.{◌≡◌, [], map, drop}
use Rattle.icl_lexer.specs.Views.{seen_bind}
use Rattle.icl_declarations.specs.Faults.{over}
use Rattle.icl_elab.specs.Bindings.{bind}
use Rattle.icl_references.specs.Tables.{frames_of, here_in}
use Rattle.icl_elab.proofs.bindings.bind_all.Given as goal

abbrev pub invariant-loop-binding : goal.invariant-loop-binding
invariant-loop-binding l =
    over (bind (frames_of l.tables) (here_in l.tables l.here) (here_in l.tables l.child).frame) l.bindings
    (map seen_bind (drop l.binding-index l.binds))
    ≡ over (bind (frames_of l.tables) (here_in l.tables l.here) (here_in l.tables l.child).frame)
    [] (map seen_bind l.binds)
