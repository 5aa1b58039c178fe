use Rattle.std.proofs.Common.{◌≡◌, ◌+◌, ◌-◌, ◌<◌, length, sym, ap, ◌∙◌, subst, arith}
use Rattle.std.specs.Prelude.{Some}
use Rattle.nest_check.specs.Fanout.{sources}
use Rattle.nest_check.specs.Nesting.{More, Whole, Stuck, run, step}
use Rattle.nest_check.specs.Seen.{seen, IsTurn}
use Rattle.nest_check.proofs.Going.{goes_on_within, run_more, run_whole, run_stuck}
use Rattle.ij_bits.proofs.Tests.{one_less}
use Rattle.nest_check.proofs.nester.finds_form.Goals as goal

pub returns-in-Whole-clause-found : goal.returns-in-Whole-clause-found
returns-in-Whole-clause-found c _ =
    let net = c.args.net.now in
    let all = length (sources net) + length net.muxes.items in
    let i = c.loop-turn._turn in
    let turn : i < all = omega (arith, c.loop-turn-test.true, c.requires.turns) in
    let whole : step net (seen c.loop-turn.nester) ≡ Whole (seen c.step.new.self).marks = subst (λ t. IsTurn
    (step net (seen c.loop-turn.nester)) t (seen c.step.new.self)) c.in-Whole.is c.in_ok-step.ensures in
    sym c.loop-turn.invariant.1
    ∙ ap (λ k. run net k (seen c.loop-turn.nester)) (one_less all i turn)
    ∙ run_whole net (all - (i + 1)) (seen c.loop-turn.nester) (seen c.step.new.self).marks whole
    ∙ ap Some (sym c.reverse.ensures.items)

pub returns-in-Stuck-clause-none : goal.returns-in-Stuck-clause-none
returns-in-Stuck-clause-none c _ =
    let net = c.args.net.now in
    let all = length (sources net) + length net.muxes.items in
    let i = c.loop-turn._turn in
    let turn : i < all = omega (arith, c.loop-turn-test.true, c.requires.turns) in
    let stuck : step net (seen c.loop-turn.nester) ≡ Stuck = subst (λ t. IsTurn
    (step net (seen c.loop-turn.nester)) t (seen c.step.new.self)) c.in-Stuck.is c.in_ok-step.ensures in
    sym c.loop-turn.invariant.1
    ∙ ap (λ k. run net k (seen c.loop-turn.nester)) (one_less all i turn)
    ∙ run_stuck net (all - (i + 1)) (seen c.loop-turn.nester) stuck

pub loop-turn-preserved : goal.loop-turn-preserved
loop-turn-preserved c =
    let net = c.args.net.now in
    let all = length (sources net) + length net.muxes.items in
    let i = c.loop-turn._turn in
    let turn : i < all = omega (arith, c.loop-turn-test.true, c.requires.turns) in
    let more : step net (seen c.loop-turn.nester) ≡ More (seen c.step.new.self) = subst (λ t. IsTurn
    (step net (seen c.loop-turn.nester)) t (seen c.step.new.self)) c.in-More.is c.in_ok-step.ensures in (
      goes_on_within net c.requires.well_formed (i + 1) (seen c.loop-turn.nester)
          (seen c.step.new.self) c.loop-turn.invariant.0 more,
      sym (run_more net (all - (i + 1)) (seen c.loop-turn.nester) (seen c.step.new.self) more)
          ∙ ap (λ k. run net k (seen c.loop-turn.nester))
          (sym (one_less all i turn)) ∙ c.loop-turn.invariant.1,
    )
