-- Bits of one place are one.
use Rattle.std.proofs.Common.{◌≡◌, ◌==◌, ◌&&◌, true, refl, ap, ◌∙◌}
use Rattle.std.proofs.lemmas.Bool.{and_parts, eqb-true, eq-eqb}
use Rattle.net_graph.specs.declared.net.BitId.{BitId}
use Rattle.net_graph.specs.Path.{same_place}
use Rattle.net_graph.proofs.Writing.{same_bit_id}

pub place_self : (b : BitId) → same_place b b ≡ true
place_self b = ap (λ t. t && (b.pos == b.pos)) (eq-eqb b.reg b.reg refl) ∙ eq-eqb b.pos b.pos refl

pub place_is : (a b : BitId) → same_place a b ≡ true → a ≡ b
place_is a b e =
    let both = and_parts (a.reg == b.reg) (a.pos == b.pos) e in
    same_bit_id a b (eqb-true a.reg b.reg both.0) (eqb-true a.pos b.pos both.1)
