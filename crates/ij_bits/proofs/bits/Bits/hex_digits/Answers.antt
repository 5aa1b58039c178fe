use Rattle.std.proofs.Common.{◌≡◌, ◌-◌, ◌+◌, ◌*◌, ◌/◌, ◌%◌, ◌^◌, ◌∙◌, ℕ, min, length, inl, inr, ap, arith}
use Rattle.std.proofs.Common.{take, drop}
use Rattle.std.proofs.lemmas.Bool.{cases_lt}
use Rattle.ij_bits.specs.BitLists.{number_of}
use Rattle.ij_bits.specs.Hex.{hex_code}
use Rattle.ij_bits.proofs.Hex.{at_place, part_digit}
use Rattle.ij_bits.proofs.bits.Bits.hex_digits.Goals as goal

pub loop-i-preserved : goal.loop-i-preserved
loop-i-preserved c k below reach =
    let bits = c.args.self.now.items in
    let n = length c.args.to.now in
    let i = c.loop-i.i in
    let from : ℕ = 4 * (c.args.d + 16 * i) in
    let end : ℕ = n - 16 * i in
    let size : c.min.result ≡ min (length bits - from) 64 = omega arith in
    elim (cases_lt k end) [
      | inl inner ↦
          let j : ℕ = end - 1 - k in
          let place : from + 4 * j ≡ 4 * (c.args.d + (n - 1 - k)) = omega arith in
          at_place c.put_digits.new.to _ k _
          (c.put_digits.ensures.at j (omega arith) (omega arith)) (omega arith)
          ∙ ap hex_code (ap (λ v. v / 2 ^ (4 * j) % 16) c.number-value.ensures.value ∙ part_digit bits from
          c.min.result j size (omega arith) ∙ ap (λ p. number_of (take 4 (drop p bits))) place)
      | inr outer ↦ c.put_digits.ensures.following k outer ∙ c.loop-i.invariant k below (omega arith)
    ]
