use Rattle.std.proofs.Common.{◌≡◌, map, drop}
use Rattle.std.specs.List.{list_any}
use Rattle.ij_text.specs.Numbers.{tern_bits}
use Rattle.icl_references.specs.Muxes.{meet}
use Rattle.icl_references.proofs.overlaps.one_meets.Given as goal

abbrev pub invariant-loop-u : goal.invariant-loop-u
invariant-loop-u l = list_any (λ u. meet u (tern_bits l.v))
    (map (λ u. tern_bits u.now) (drop l.u-index l.values))
    ≡ list_any (λ u. meet u (tern_bits l.v)) (map (λ u. tern_bits u.now) l.values)
