use Rattle.std.proofs.Common.{◌≡◌, true, sym, ◌∙◌, subst}
use Rattle.std.specs.Prelude.{All}
use Rattle.std.proofs.lemmas.List.{take_all}
use Rattle.net_graph.specs.Path.{rows_of}
use Rattle.nest_check.specs.Flags as flags
use Rattle.nest_check.proofs.Flagging.{mux_rows, row_is_met, rows_more, then_further}
use Rattle.nest_check.proofs.meeting.Walk.reach_rows.Goals as goal

pub loop-row-preserved : goal.loop-row-preserved
loop-row-preserved c =
    let k = c.in_ok-reach.ensures in (
      k.walk,
      then_further (flags.walked c.args.self.now) (flags.walked c.loop-row.self) (flags.walked
          c.reach.new.self) c.loop-row.invariant.1 k.further,
      rows_more (flags.walked c.loop-row.self)
          (flags.walked c.reach.new.self) c.as_slice-row-items.result.now
          c.loop-row.row-index c.row-item.result
          k.further c.loop-row-test.true c.row-item.is c.loop-row.invariant.2 k.flagged,
    )

pub reach-requires-clause-met : goal.reach-requires-clause-met
reach-requires-clause-met c =
    let rows : rows_of c.args.net.now c.args.mux ≡ c.as_slice-row-items.result.now = mux_rows c.args.net.now
    c.args.mux c.get.result.now c.requires.there c.get.ensures ∙ sym c.as_slice-row-items.ensures in
    row_is_met c.args.net.now c.args.mux c.loop-row.row-index c.row-item.result
    c.as_slice-row-items.result.now rows c.loop-row-test.true c.row-item.is c.requires.met

pub returns-clause-passed : goal.returns-clause-passed
returns-clause-passed c =
    let rows : rows_of c.args.net.now c.args.mux ≡ c.as_slice-row-items.result.now = mux_rows c.args.net.now
    c.args.mux c.get.result.now c.requires.there c.get.ensures ∙ sym c.as_slice-row-items.ensures in
    subst (All (λ row. flags.is_flagged (flags.items c.loop-row.self.flags) row.from ≡ true))
    (take_all c.loop-row.row-index c.as_slice-row-items.result.now c.loop-row-test.false ∙ sym rows)
    c.loop-row.invariant.2
