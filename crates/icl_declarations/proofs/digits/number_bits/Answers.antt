use Rattle.std.proofs.Common.{◌%◌, ◌==◌, ◌∷◌, [], Some, length, map, arith, ap, length-append}
use Rattle.ij_bits.specs.BitLists.{bits_of}
use Rattle.icl_declarations.proofs.DigitLists.{bit_more}
use Rattle.icl_declarations.proofs.digits.number_bits.Goals as goal

pub loop-i-preserved : goal.loop-i-preserved
loop-i-preserved c =
    let pushed = ap length c.in_ok-push.ensures.ok in
    let both = length-append c.loop-i.bits (Some ((c.loop-i.rest % 2) == 1) ∷ []) in
    record {
      long = omega (arith, pushed, both, c.loop-i.invariant.long);
      so_far = bit_more c.loop-i.bits c.push.new.self c.args.width c.loop-i._i c.loop-i.rest
          (map (λ b. Some b) (bits_of c.args.width c.args.n)) c.loop-i-test.true
          c.loop-i.invariant.so_far c.in_ok-push.ensures.ok;
    }
