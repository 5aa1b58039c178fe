use Rattle.std.proofs.Common.{◌+◌, ◌∙◌, ap, subst, sym}
use Rattle.std.specs.Prelude.{All, drop}
use Rattle.net_graph.specs.Held.{IsHeld}
use Rattle.net_graph.specs.Writes.{write_all}
use Rattle.net_graph.proofs.Widths.{held_same, next_widths}
use Rattle.pdl_meaning.proofs.Writing.{next_rest}
use Rattle.least_clocks.proofs.work.write_group.Goals as goal

pub set-requires : goal.set-requires
set-requires c =
    held_same c.args.holds.now c.loop-w.holds _ c.loop-w.invariant.widths
    (subst (All (λ w. IsHeld c.args.holds.now w.bit))
    (sym c.as_slice-w-items.ensures) c.requires c.loop-w.w-index _ c.loop-w-test.true)

pub loop-w-preserved : goal.loop-w-preserved
loop-w-preserved c =
    let same = c.as_slice-w-items.ensures in
    record {
      rest =
          ap (λ l. write_all c.set.new.self (drop (c.loop-w.w-index + 1) l)) (sym same)
          ∙ next_rest c.loop-w.holds c.set.new.self _ c.as_slice-w-items.result.now c.loop-w.w-index _
          c.loop-w-test.true (ap (λ l. write_all c.loop-w.holds (drop c.loop-w.w-index l)) same
          ∙ c.loop-w.invariant.rest) c.set.ensures;
      widths = next_widths c.loop-w.holds c.set.new.self c.args.holds.now _
          c.loop-w.invariant.widths c.set.ensures;
    }
