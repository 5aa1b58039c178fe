use Rattle.std.proofs.Common.{◌≡◌, map, drop}
use Rattle.icl_lexer.specs.Views.{seen_sig}
use Rattle.icl_declarations.specs.Faults.{each}
use Rattle.icl_declarations.proofs.Each.{more}
use Rattle.icl_references.specs.Roles.{seen_refs}
use Rattle.icl_references.specs.Signals.{data_signal}
use Rattle.icl_references.specs.Tables.{frames_of, here_in}
use Rattle.icl_references.proofs.signals.data_parts.Given as goal

abbrev pub invariant-loop-sig : goal.invariant-loop-sig
invariant-loop-sig l = more (data_signal (frames_of l.tables) (here_in l.tables l.here) l.holder l.wanted)
    (map seen_refs l.parts.items) (map seen_sig (drop l.sig-index l.sigs)) ≡ each
    (data_signal (frames_of l.tables) (here_in l.tables l.here) l.holder l.wanted) (map seen_sig l.sigs)
