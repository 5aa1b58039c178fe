use Rattle.std.proofs.Common.{◌≡◌, map, drop}
use Rattle.icl_lexer.specs.Views.{seen_sig}
use Rattle.icl_declarations.specs.Faults.{over}
use Rattle.icl_references.specs.Signals.{control_meant}
use Rattle.icl_references.specs.Tables.{frames_of, here_in}
use Rattle.icl_references.proofs.signals.control_signals.Given as goal

abbrev pub invariant-loop-sig : goal.invariant-loop-sig
invariant-loop-sig l = over (λ u s. control_meant (frames_of l.tables) (here_in l.tables l.here) s.at s.what)
    tt (map seen_sig (drop l.sig-index l.sigs)) ≡ over
    (λ u s. control_meant (frames_of l.tables) (here_in l.tables l.here) s.at s.what) tt (map seen_sig l.sigs)
