use Rattle.std.proofs.Common.{arith, ◌∙◌}
use Rattle.pdl_targets.proofs.Valued.{value_width}
use Rattle.pdl_targets.proofs.naming.named_bits.Goals as goal

pub returns-clause-wide : goal.returns-clause-wide
returns-clause-wide c = value_width _ _ _ c.in_ok-values.values c.in_ok-values.ensures ∙ c.len.ensures

pub returns-clause-few : goal.returns-clause-few
returns-clause-few c =
    let few = c.in_ok-thing.ensures.formed.bits_within_limit in omega (arith, c.in_ok-spots.ensures.few, few)
