use Rattle.std.proofs.Common.{◌≡◌, map, drop}
use Rattle.icl_lexer.specs.Views.{seen_sig}
use Rattle.icl_declarations.specs.Faults.{each}
use Rattle.icl_declarations.proofs.Each.{more}
use Rattle.icl_references.specs.Signals.{scan_signal}
use Rattle.icl_references.specs.Tables.{frames_of, here_in}
use Rattle.icl_elab.proofs.bindings.scan_signals.Given as goal

abbrev pub invariant-loop-sig : goal.invariant-loop-sig
invariant-loop-sig l = more (scan_signal (frames_of l.tables) (here_in l.tables l.here)) l.refs.items
    (map seen_sig (drop l.sig-index l.sigs))
    ≡ each (scan_signal (frames_of l.tables) (here_in l.tables l.here)) (map seen_sig l.sigs)
