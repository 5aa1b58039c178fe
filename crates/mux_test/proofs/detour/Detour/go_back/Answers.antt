use Rattle.std.proofs.Common.{refl, arith}
use Rattle.mux_test.proofs.Detours.{trace_on}
use Rattle.mux_test.proofs.detour.Detour.go_back.Goals as goal

pub returns-then-push_met_register-clause-own : goal.returns-then-push_met_register-clause-own
returns-then-push_met_register-clause-own c =
    trace_on c.args.net.now c.args.holds.now c.args._mux c.args.self.now.ahead c.in-Some.before
    c.args.self.now.own.items c.push_met_register.new.into.items c.requires.well_formed c.in-Some.ensures
    (c.if-push_met_register.ensures.met refl) (omega (
      arith,
      c.if-push_met_register.ensures.few,
      c.len.ensures,
    )) c.requires.own
