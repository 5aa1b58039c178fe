use Rattle.std.proofs.Common.{◌≡◌, ◌-◌, ◌+◌, ℕ, suc, List, [], ◌∷◌, ◌++◌, arith, ap, ◌∙◌, subst}
use Rattle.ij_io.proofs.Adding.{at_refusal}
use Rattle.ij_io.proofs.Fronts.{AddsFront, front_next, front_part}
use Rattle.ij_bits.specs.Hex.{hex_code}
use Rattle.std.proofs.Common.{◌*◌, ◌/◌, ◌%◌, ◌^◌}
use Rattle.report.specs.Numbers.{lowest_digits}
use Rattle.report.proofs.Steps.{hex_next}
use Rattle.report.proofs.number.put_hex_number.Goals as goal

pub returns-in_err-write-clause-part : goal.returns-in_err-write-clause-part
returns-in_err-write-clause-part g c =
    let number = c.args.number in
    let all = (c.args.width + 3) / 4 in
    let n = all - c.loop-j.j in
    let m = all - 1 - c.loop-j.j in
    let more : n ≡ suc m = omega arith in
    let here : lowest_digits number n ≡ (c.hex_digit_at.result ∷ []) ++ lowest_digits number m =
    hex_next number n m c.hex_digit_at.result more c.hex_digit_at.ensures in
    at_refusal c.from_residual.result
    (front_part (c.hex_digit_at.result ∷ []) (lowest_digits number m)
    (subst (λ (rest : List ℕ). AddsFront (g.K.Sink.taken c.args.k.now) (g.K.Sink.taken c.loop-j.k) rest
    (lowest_digits number all)) here c.loop-j.invariant.front) c.in_err-write.ensures.part)

pub loop-j-preserved : goal.loop-j-preserved
loop-j-preserved g c =
    let number = c.args.number in
    let all = (c.args.width + 3) / 4 in
    let n = all - c.loop-j.j in
    let m = all - (c.loop-j.j + 1) in
    let more : n ≡ suc m = omega arith in
    let place : all - 1 - c.loop-j.j ≡ m = omega arith in
    let is : c.hex_digit_at.result ≡ hex_code (number / 2 ^ (4 * m) % 16) =
    c.hex_digit_at.ensures ∙ ap (λ p. hex_code (number / 2 ^ (4 * p) % 16)) place in
    let here : lowest_digits number n ≡ (c.hex_digit_at.result ∷ []) ++ lowest_digits number m =
    hex_next number n m c.hex_digit_at.result more is in
    record {
      front = front_next (c.hex_digit_at.result ∷ []) (lowest_digits number m)
          (subst (λ (rest : List ℕ). AddsFront (g.K.Sink.taken c.args.k.now) (g.K.Sink.taken c.loop-j.k) rest
          (lowest_digits number all)) here c.loop-j.invariant.front) c.in_ok-write.ensures.whole;
      later = omega (arith, c.write.ensures.cause.later);
    }
