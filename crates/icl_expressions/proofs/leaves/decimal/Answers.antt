use Rattle.std.proofs.Common.{◌≡◌, ◌<◌, ◌≤◌, ◌+◌, ◌*◌, ◌-◌, ◌==◌, ℕ, cond, Bool, true, false, List, [], ◌∷◌}
use Rattle.std.proofs.Common.{None, sym, ap, ◌∙◌, arith, get_or, drop, length}
use Rattle.std.proofs.lemmas.Grind.{common_steps}
use Rattle.std.proofs.lemmas.Bool.Decides.{nat_tests}
use Rattle.ij_text.specs.Numbers.{decimal_from, small}
use Rattle.icl_expressions.proofs.leaves.decimal.Goals as goal

-- further digits make a decimal no smaller
grows_by : (b : Bool) (n d : ℕ) → n ≤ cond b n (10 * n + d)
grows_by true n d = omega arith
grows_by false n d = omega arith

grows : (n : ℕ) (bs : List ℕ) → n ≤ decimal_from n bs
grows n [] = omega arith
grows n (b ∷ bs) =
    omega (arith, grows_by (b == 95) n (b - 48), grows (cond (b == 95) n (10 * n + (b - 48))) bs)

too_large : (n m : ℕ) (bs : List ℕ) → 4294967295 < n → decimal_from n bs ≡ m → small m ≡ None
too_large n m bs h e =
    let large : 4294967295 < m = omega (arith, h, grows n bs, e) in grind (arith, nat_tests, large)

drop_is : (i : ℕ) (bs : List ℕ) → i < length bs → drop i bs ≡ get_or bs i 0 ∷ drop (i + 1) bs
drop_is i bs h = grind (arith, common_steps)

pub returns-then-n-gt4294967295 : goal.returns-then-n-gt4294967295
returns-then-n-gt4294967295 c =
    let i = c.loop-b.b-index in
    let text = c.args.text.now in
    let next : decimal_from c.with_digit-n.result (drop (i + 1) text)
    ≡ decimal_from 0 text = ap (λ n. decimal_from n (drop (i + 1) text)) c.with_digit-n.ensures.value ∙ ap
    (decimal_from c.loop-b.n) (sym (drop_is i text c.loop-b-test.true)) ∙ c.loop-b.invariant.goes_on in
    sym (too_large c.with_digit-n.result (decimal_from 0 text)
    (drop (i + 1) text) c.if-n-gt4294967295.true next)
