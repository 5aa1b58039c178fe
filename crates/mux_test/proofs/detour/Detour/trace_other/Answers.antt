use Rattle.std.proofs.Common.{Some, refl, sym, arith}
use Rattle.net_graph.specs.MuxesMet.{active_muxes}
use Rattle.net_graph.proofs.Tracing.{reg_count}
use Rattle.path_planner.proofs.Among.{contains_among}
use Rattle.mux_test.proofs.Detours.{has_active, joined, lead_on}
use Rattle.mux_test.proofs.StuckPaths.{before_there}
use Rattle.mux_test.proofs.detour.Detour.trace_other.Goals as goal

pub overflow_add-turn-end : goal.overflow_add-turn-end
overflow_add-turn-end c =
    omega (
      arith,
      reg_count c.args.net.now c.requires.well_formed,
      c.requires.well_formed.few_muxes,
      c.len-count.ensures,
      c.len.ensures,
    )

pub returns-then-is_join-clause-joins : goal.returns-then-is_join-clause-joins
returns-then-is_join-clause-joins c t =
    let net = c.args.net.now in
    let h = c.args.holds.now in
    let row = c.args.row in
    let join = c.if-is_join.ensures refl in
    let (path, e) = has_active net h c.requires.path in
    joined net h row c.loop-turn.self.own.items c.loop-turn.self.other.items c.loop-turn.at
    c.loop-turn.self.ahead path c.requires.well_formed c.requires.row.mux join.0 join.1
    c.loop-turn.invariant.own c.loop-turn.invariant.leads e
    (contains_among row.mux (active_muxes net h) c.requires.met)

pub loop-turn-preserved : goal.loop-turn-preserved
loop-turn-preserved c =
    let net = c.args.net.now in
    let h = c.args.holds.now in
    let row = c.args.row in
    record {
      there = before_there net (Some row) h c.loop-turn.at c.in-Some.before c.requires.well_formed
          c.loop-turn.invariant.there (sym c.in-Some.ensures);
      from = c.loop-turn.invariant.from;
      own = c.loop-turn.invariant.own;
      room = record {
        own = c.loop-turn.invariant.room.own;
        other = omega (arith, c.if-not-push_met_register.ensures.room, c.loop-turn.invariant.room.other);
      };
      few = omega (arith, c.if-not-push_met_register.ensures.few, c.len-count.ensures);
      leads = lead_on net h row c.loop-turn.at c.in-Some.before
          c.loop-turn.self.other.items c.push_met_register.new.into.items c.in-Some.ensures
          (c.if-not-push_met_register.ensures.met refl) c.loop-turn.invariant.leads;
    }
