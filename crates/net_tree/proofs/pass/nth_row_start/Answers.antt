use Rattle.std.proofs.Common.{drop, arith, ◌∙◌}
use Rattle.net_tree.proofs.Passed.{enter_turn}
use Rattle.net_tree.proofs.pass.nth_row_start.Goals as goal

pub loop-turn-preserved : goal.loop-turn-preserved
loop-turn-preserved c =
    let es = c.args.entries.now in (
      omega (arith, c.row_end-from.ensures.after, c.loop-turn.invariant.0),
      c.row_end-from.ensures.within,
      enter_turn (drop c.loop-turn.from es) (drop c.row_end-from.result es) c.args.row c.loop-turn._turn
          c.loop-turn-test.true c.row_end-from.ensures.rest ∙ c.loop-turn.invariant.2,
    )
