use Rattle.std.proofs.Common.{◌≡◌, map, drop}
use Rattle.std.specs.List.{list_any}
use Rattle.icl_elab.specs.WellFormed.{is_barred_in_instrument}
use Rattle.icl_references.specs.Roles.{seen_part}
use Rattle.icl_signals.proofs.parts.has_barred_in_instrument.Given as goal

abbrev pub invariant-loop-part : goal.invariant-loop-part
invariant-loop-part l =
    list_any (λ p. is_barred_in_instrument p.role) (map seen_part (drop l.part-index l.parts))
    ≡ list_any (λ p. is_barred_in_instrument p.role) (map seen_part l.parts)
