use Rattle.std.proofs.Common.{Bool, not, arith, ap, sym, ◌∙◌, get_or, take}
use Rattle.std.specs.Prelude.{◌==◌, ◌||◌}
use Rattle.ij_bits.specs.BitLists.{has_one}
use Rattle.ij_text.specs.Numbers.{hex_value as digit_value}
use Rattle.svf_reader.specs.Values.{hex_bits}
use Rattle.svf_reader.proofs.Putting.{hex_bits-more}
use Rattle.svf_reader.proofs.Packing.{digit_ones}
use Rattle.svf_reader.proofs.hex.have_one.Goals as goal

pub loop-d-preserved : goal.loop-d-preserved
loop-d-preserved c =
    let digits = c.args.digits.now in
    let i = c.loop-d.d-index in
    let v = digit_value (get_or digits i 0) in
    ap (λ (b : Bool). b || not ((c.digit_value.result) == 0)) c.loop-d.invariant
    ∙ ap (λ k. has_one (hex_bits (take i digits)) || not (k == 0)) c.digit_value.ensures.value
    ∙ sym (ap has_one (hex_bits-more digits i (omega arith)) ∙ digit_ones v (hex_bits (take i digits)))
