use Rattle.std.proofs.Common.{◌≡◌, false, true, arith}
use Rattle.ij_text.proofs.Numbers.{open_length}
use Rattle.ij_text.proofs.fitting.is_wide_tern.Goals as goal

false_is : false ≡ true → ⊥
false_is h = absurd cc

pub returns : goal.returns
returns c =
    let t = c.args.t.now in
    let long = open_length t.value.items t.care.items t.same_length in (
      λ h. absurd (false_is h),
      λ w. absurd (w.3 (c.loop-k.invariant w.0 w.1 (let lt = w.2 in
          omega (arith, lt, long, c.len-k-end.ensures.value, c.loop-k-test.false)))),
    )
