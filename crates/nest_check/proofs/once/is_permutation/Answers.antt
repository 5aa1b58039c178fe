use Rattle.std.proofs.Common.{◌≡◌, ◌<◌, false, get_or, take, sym, ◌∙◌, arith}
use Rattle.std.proofs.lemmas.Bool.{true≢false}
use Rattle.nest_check.proofs.Distinct.{names, route_parts, route_grows, flags_grow, flag_at}
use Rattle.nest_check.proofs.once.is_permutation.Goals as goal
use Rattle.nest_check.proofs.once.is_permutation.Goals.{then-number-n-via-then-number-n}
use Rattle.nest_check.proofs.once.is_permutation.Goals.{then-number-n-via-else-number-n+then-index}

pub returns-then-number-n : goal.returns-then-number-n
returns-then-number-n c =
    let numbers = c.args.numbers.now in
    let i = c.loop-number.number-index in
    let at = get_or numbers i 0 in (
      (λ e. absurd (true≢false (sym e))),
      (λ once. let parts = route_parts c.args.n numbers i c.loop-number-test.true once.different in
          elim c.then-number-n.branch [
            | then-number-n-via-then-number-n w ↦ absurd (omega (arith, parts.0, w.if-number-n.true))
            | then-number-n-via-else-number-n+then-index w ↦
                absurd (true≢false (sym (sym (flag_at c.loop-number.seen.items at w.index.result.now
                (omega (arith, parts.0, c.loop-number.invariant.0, c.loop-number.seen.ok)) w.index.ensures
                ∙ c.loop-number.invariant.2 at parts.0 ∙ parts.1) ∙ w.if-index.true)))
          ]),
    )

pub loop-number-preserved : goal.loop-number-preserved
loop-number-preserved c =
    let numbers = c.args.numbers.now in
    let i = c.loop-number.number-index in
    let at = get_or numbers i 0 in
    let below : at < c.args.n = c.if-number-n.false in
    let fresh : names at (take i numbers) ≡ false =
    sym (c.loop-number.invariant.2 at below) ∙ sym (flag_at c.loop-number.seen.items at c.index.result.now
    (omega (arith, below, c.loop-number.invariant.0, c.loop-number.seen.ok)) c.index.ensures)
    ∙ c.if-index.false in (
      c.loop-number.invariant.0,
      route_grows c.args.n numbers i c.loop-number-test.true below fresh c.loop-number.invariant.1,
      flags_grow c.args.n numbers i c.loop-number.seen.items c.loop-number-test.true
          (omega (arith, c.loop-number.invariant.0, c.loop-number.seen.ok)) below c.loop-number.invariant.2,
    )
