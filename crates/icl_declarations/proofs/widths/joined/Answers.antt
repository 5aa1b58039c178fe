use Rattle.std.proofs.Common.{length, refl, arith}
use Rattle.ij_text.specs.Numbers.{tern_bits}
use Rattle.icl_declarations.proofs.Joins.{fits_more}
use Rattle.icl_declarations.proofs.widths.joined.Goals as goal

pub append-requires : goal.append-requires
append-requires c =
    let few = fits_more tern_bits c.args.parts.now c.loop-i.i (length c.args.parts.now) c.index-parts-n.result
    c.loop-i.bits refl c.loop-i-test.true c.index-parts-n.is c.loop-i.invariant in
    omega (arith, few, c.requires)
