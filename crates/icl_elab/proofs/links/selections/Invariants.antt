use Rattle.std.proofs.Common.{◌≡◌, map, drop}
use Rattle.icl_lexer.specs.Views.{seen_instr}
use Rattle.icl_references.specs.Roles.{seen_selection}
use Rattle.icl_elab.specs.FoundParts.{selection}
use Rattle.icl_references.specs.Tables.{frames_of, here_in}
use Rattle.icl_declarations.specs.Faults.{each}
use Rattle.icl_declarations.proofs.Each.{more}
use Rattle.icl_elab.proofs.links.selections.Given as goal

abbrev pub invariant-loop-instr : goal.invariant-loop-instr
invariant-loop-instr l = more (selection (frames_of l.tables) (here_in l.tables l.here) l.at)
    (map seen_selection l.all.items) (map seen_instr (drop l.instr-index l.instrs))
    ≡ each (selection (frames_of l.tables) (here_in l.tables l.here) l.at) (map seen_instr l.instrs)
