use Rattle.std.proofs.Common.{◌≢◌, ◌<◌, ◌-◌, ◌*◌, ◌/◌, ◌%◌, ◌^◌, ◌∙◌, inl, inr, ap, sym, arith, get_or}
use Rattle.std.proofs.Common.{get_or-set_same, get_or-set_other}
use Rattle.std.specs.Prelude.{slice_set}
use Rattle.std.proofs.lemmas.Bool.Decides.{eqb_tells}
use Rattle.ij_bits.specs.Hex.{hex_code}
use Rattle.ij_bits.proofs.digits.put_digits.Goals as goal

pub loop-i-preserved : goal.loop-i-preserved
loop-i-preserved c =
    let i = c.loop-i.i in
    let end = c.args.end in
    record {
      at = λ j low.
          elim (eqb_tells j i) [
            | inl same ↦
                ap (λ k. get_or (slice_set c.loop-i.to (end - 1 - i) c.hex_digit_of.result) (end - 1 - k) 0)
                same.1 ∙ get_or-set_same c.loop-i.to (end - 1 - i) c.hex_digit_of.result 0
                (omega arith) ∙ c.hex_digit_of.ensures
                ∙ ap (λ k. hex_code (c.args.value / 2 ^ (4 * k) % 16)) (sym same.1)
            | inr apart ↦
                let before : j < i = omega (arith, apart.1) in
                let away : end - 1 - j ≢ end - 1 - i = omega (arith, apart.1) in
                get_or-set_other c.loop-i.to (end - 1 - i) (end - 1 - j) c.hex_digit_of.result 0 away
                ∙ c.loop-i.invariant.at j before
          ];
      following = λ k past.
          let away : k ≢ end - 1 - i = omega arith in
          get_or-set_other c.loop-i.to (end - 1 - i) k c.hex_digit_of.result 0 away
          ∙ c.loop-i.invariant.following k past;
    }
