use Rattle.std.proofs.Common.{◌≡◌, ◌+◌, ◌*◌, ◌%◌, ◌^◌, suc, arith, ap, ◌∙◌, get_or, take}
use Rattle.std.proofs.Math.Nat.{pow-suc}
use Rattle.ij_bits.specs.BitLists.{number_of}
use Rattle.ij_text.specs.Numbers.{hex_value as digit_value}
use Rattle.svf_reader.specs.Values.{hex_bits}
use Rattle.svf_reader.proofs.Putting.{hex_bits-more}
use Rattle.svf_reader.proofs.Packing.{digit_front}
use Rattle.svf_reader.proofs.Digits.{hex_up_to}
use Rattle.svf_reader.proofs.hex.digits_number.Goals as goal

pub overflow_mul-value : goal.overflow_mul-value
overflow_mul-value c = omega (arith, hex_up_to c.loop-d.d-index 15 (omega arith), c.loop-d.invariant.fits)

pub overflow_add-value : goal.overflow_add-value
overflow_add-value c = omega (arith, hex_up_to c.loop-d.d-index 15 (omega arith), c.loop-d.invariant.fits)

pub loop-d-preserved : goal.loop-d-preserved
loop-d-preserved c =
    let digits = c.args.digits.now in
    let i = c.loop-d.d-index in
    let v = digit_value (get_or digits i 0) in
    let more : number_of (hex_bits (take (i + 1) digits))
    ≡ 16 * number_of (hex_bits (take i digits)) + v % 16 =
    ap number_of (hex_bits-more digits i (omega arith)) ∙ digit_front v (hex_bits (take i digits)) in
    let here : c.from.result ≡ v % 16 = c.from.ensures ∙ c.digit_value.ensures.value in
    let one : i + 1 ≡ suc i = omega arith in
    let next : 16 ^ (i + 1) ≡ 16 ^ suc i = ap (λ k. 16 ^ k) one in
    record {
      is = omega (arith, more, here, c.loop-d.invariant.is);
      fits = omega (arith, here, c.loop-d.invariant.fits, next ∙ pow-suc 16 i);
    }
