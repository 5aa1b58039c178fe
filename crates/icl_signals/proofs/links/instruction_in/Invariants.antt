use Rattle.std.proofs.Common.{◌≡◌, map, drop}
use Rattle.std.specs.Prelude.{find}
use Rattle.std.specs.Str.{bytes_eq}
use Rattle.icl_references.specs.Roles.{seen_selection}
use Rattle.icl_signals.proofs.links.instruction_in.Given as goal

abbrev pub invariant-loop-known : goal.invariant-loop-known
invariant-loop-known l =
    find (λ s. bytes_eq l.instr.items s.name) (map seen_selection (drop l.known-index l.instrs))
    ≡ find (λ s. bytes_eq l.instr.items s.name) (map seen_selection l.instrs)
