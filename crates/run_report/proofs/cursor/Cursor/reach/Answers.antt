use Rattle.std.proofs.Common.{arith, rules}
use Rattle.run_report.proofs.cursor.Cursor.reach.Goals as goal

pub returns-then-not-branch-clause-stands : goal.returns-then-not-branch-clause-stands
returns-then-not-branch-clause-stands c steps stands =
    c.in_ok-advance_bit_step.ensures.stands steps (c.going.invariant.stands steps stands)

pub going-preserved : goal.going-preserved
going-preserved c =
    let first = c.in_ok-advance_bit_step.ensures.first (search rules) in
    record {
      can = c.in_ok-advance_bit_step.ensures.can;
      stands = λ steps stands. c.in_ok-advance_bit_step.ensures.stands steps (c.going.invariant.stands steps
          stands);
      first = omega (arith, first, c.going-test.true);
    }
