use Rattle.std.proofs.Common.{◌≡◌, ◌^◌, ◌≤◌, ℕ, suc, drop, get_or, Option, arith, drop-cons, sym, subst, ap}
use Rattle.std.specs.Prelude.{MatchOption}
use Rattle.ij_text.specs.Numbers.{decimal_from, with_decimal_digit}
use Rattle.ij_text.proofs.Numbers.{grows}
use Rattle.ij_text.proofs.digits.decimal.Goals as goal

pub returns-in_err-n : goal.returns-in_err-n
returns-in_err-n c =
    let text = c.args.text.now in
    let b = get_or text c.loop-b.b-index 0 in
    let more = grows (drop (suc c.loop-b.b-index) text) (with_decimal_digit c.loop-b.n b) in
    let e = c.in_err-n.ensures in
    subst (λ (r : Option ℕ). MatchOption r (2 ^ 128 ≤ decimal_from 0 text) (λ n. n ≡ decimal_from 0 text))
    (sym c.from_residual.ensures)
    (let is = ap (decimal_from c.loop-b.n) (drop-cons text c.loop-b.b-index 0 c.loop-b-test.true) in
    omega (arith, more, e, is, c.loop-b.invariant))
