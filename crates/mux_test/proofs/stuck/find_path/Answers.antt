use Rattle.std.proofs.Common.{◌+◌, ◌-◌, ◌<◌, length, refl, sym, ◌∙◌, arith}
use Rattle.std.proofs.lemmas.Bool.{false≢true}
use Rattle.net_graph.proofs.Tracing.{reg_count}
use Rattle.mux_test.specs.Steps.{source_of}
use Rattle.mux_test.proofs.StuckPaths.{before_there, by_turn, end_where, entry_where, full_where, moves}
use Rattle.mux_test.proofs.StuckPaths.{none_where}
use Rattle.mux_test.proofs.stuck.find_path.Goals as goal

pub overflow_add-turn-end : goal.overflow_add-turn-end
overflow_add-turn-end c =
    omega (
      arith,
      reg_count c.args.net.now c.requires.well_formed,
      c.requires.well_formed.few_muxes,
      c.len-count.ensures,
      c.len.ensures,
    )

pub returns-then-is_entry-clause-path : goal.returns-then-is_entry-clause-path
returns-then-is_entry-clause-path c =
    entry_where c.args.net.now c.args.stuck c.args.holds.now (moves c.args.net.now - c.loop-turn._turn)
    c.loop-turn.at c.loop-turn.path.items (c.if-is_entry.ensures.0 refl) c.loop-turn.invariant.traced

pub returns-then-not-push_met_register-clause-path : goal.returns-then-not-push_met_register-clause-path
returns-then-not-push_met_register-clause-path c =
    let full = c.if-not-push_met_register.ensures.full refl in
    full_where c.args.net.now c.args.stuck c.args.holds.now (moves c.args.net.now - c.loop-turn._turn)
    c.loop-turn.at c.loop-turn.path.items c.clear-then-not-push_met_register.new.self.items
    c.requires.well_formed
    full.1 (full.0 ∙ c.len-count.ensures) c.clear-then-not-push_met_register.ensures.items
    c.loop-turn.invariant.traced

pub returns-in-None-clause-path : goal.returns-in-None-clause-path
returns-in-None-clause-path c =
    let net = c.args.net.now in
    let turn : c.loop-turn._turn < length net.regs.items + length net.muxes.items =
    omega (arith, c.loop-turn-test.true, c.len-count.ensures, c.len.ensures) in
    none_where net c.args.stuck c.args.holds.now c.loop-turn._turn c.loop-turn.at c.loop-turn.path.items
    c.clear-in-None.new.self.items turn c.in-None.ensures
    c.clear-in-None.ensures.items c.loop-turn.invariant.traced

pub returns-then-not-is_entry-clause-path : goal.returns-then-not-is_entry-clause-path
returns-then-not-is_entry-clause-path c =
    end_where c.args.net.now c.args.stuck c.args.holds.now (moves c.args.net.now - c.loop-turn._turn)
    c.loop-turn.at c.loop-turn.path.items c.clear-then-not-is_entry.new.self.items
    (omega (arith, c.loop-turn-test.false, c.len-count.ensures, c.len.ensures)) (λ e. false≢true
    (c.if-not-is_entry.ensures.1 e)) c.clear-then-not-is_entry.ensures.items c.loop-turn.invariant.traced

pub returns-else-not-is_entry-clause-path : goal.returns-else-not-is_entry-clause-path
returns-else-not-is_entry-clause-path c =
    entry_where c.args.net.now c.args.stuck c.args.holds.now (moves c.args.net.now - c.loop-turn._turn)
    c.loop-turn.at c.loop-turn.path.items (c.if-not-is_entry.ensures.0 refl) c.loop-turn.invariant.traced

pub loop-turn-preserved : goal.loop-turn-preserved
loop-turn-preserved c =
    let net = c.args.net.now in
    let source = source_of net c.args.stuck c.args.holds.now in
    let met = c.if-not-push_met_register.ensures.met refl in
    let turn : c.loop-turn._turn < length net.regs.items + length net.muxes.items =
    omega (arith, c.loop-turn-test.true, c.len-count.ensures, c.len.ensures) in
    record {
      there = before_there net c.args.stuck c.args.holds.now c.loop-turn.at c.in-Some.before
          c.requires.well_formed c.loop-turn.invariant.there (sym c.in-Some.ensures);
      few = omega (arith, c.if-not-push_met_register.ensures.few, c.len-count.ensures);
      room = omega (arith, c.if-not-push_met_register.ensures.room, c.loop-turn.invariant.room);
      traced = by_turn net source c.loop-turn._turn c.loop-turn.at c.in-Some.before c.loop-turn.path.items
          c.push_met_register.new.into.items turn c.in-Some.ensures met c.loop-turn.invariant.traced;
    }
