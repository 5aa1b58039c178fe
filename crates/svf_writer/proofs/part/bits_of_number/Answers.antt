use Rattle.std.proofs.Common.{◌-◌, ◌/◌, ◌^◌, ◌∙◌, ap, arith}
use Rattle.std.specs.Prelude.{◌==◌}
use Rattle.std.specs.Int.{bit_at}
use Rattle.std.proofs.lemmas.Nat.{pow_pos, mod_below}
use Rattle.ij_bits.proofs.Joining.{down, low_bit, lowest}
use Rattle.svf_writer.proofs.part.bits_of_number.Goals as goal

pub returns-clause-bits : goal.returns-clause-bits
returns-clause-bits c k low =
    let x = c.args.number / 2 ^ c.args.from in
    ap (λ y. bit_at y k == 1) (lowest x c.args.n (omega arith))
    ∙ ap (λ y. y == 1) (low_bit x c.args.n k low ∙ down c.args.number c.args.from k)

pub returns-clause-small : goal.returns-clause-small
returns-clause-small c =
    let x = c.args.number / 2 ^ c.args.from in
    omega (arith, lowest x c.args.n (omega arith), mod_below x (2 ^ c.args.n) (pow_pos c.args.n))
