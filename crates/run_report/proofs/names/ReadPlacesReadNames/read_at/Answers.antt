use Rattle.std.proofs.Common.{map, sym, subst}
use Rattle.std.specs.Option.{IfSome}
use Rattle.merge_order.specs.BitSteps.{bit_steps}
use Rattle.pdl_parser.specs.Views.{seen_proc}
use Rattle.run_report.specs.Procedure.{AreReadNames, Procedure}
use Rattle.run_report.specs.Reaching.{IsCursor}
use Rattle.run_report.proofs.Standing.{cursor_after, read_found}
use Rattle.run_report.proofs.names.ReadPlacesReadNames.read_at.Goals as goal

pub invariant_of-self-in-Ok : goal.invariant_of-self-in-Ok
invariant_of-self-in-Ok c =
    let i = c.self.inside in
    let p : Procedure = record {
      net = i.net.now;
      form = i.tree.now;
      steps =
          (bit_steps (map seen_proc i.procs.now) i.net.now i.tree.now i.name.now).steps;
    } in
    record {
      distinct = c.self.invariant.distinct;
      few = c.self.invariant.few;
      can = c.self.invariant.can;
      stands = subst (λ o. IfSome o (IsCursor p.net p.form p.steps)) (sym c.replace.ensures.after)
          (cursor_after p c.in_ok-cursor.cursor c.reach.new.self c.in_ok-cursor.ensures.cursor
          c.in-Ok.ensures.stands c.in-Ok.ensures.can);
    }

pub returns-in-Ok-clause-found : goal.returns-in-Ok-clause-found
returns-in-Ok-clause-found c names are =
    let i = c.self.inside in
    let p : Procedure = record {
      net = i.net.now;
      form = i.tree.now;
      steps =
          (bit_steps (map seen_proc i.procs.now) i.net.now i.tree.now i.name.now).steps;
    } in
    let mine = subst (λ q. AreReadNames q names) (sym c.self.view_is) are in
    read_found p c.in_ok-cursor.cursor c.reach.new.self c.in_ok-cursor.ensures.cursor c.in-Ok.ensures.stands
    names c.args.scan c.args.bit c.find-read.result c.in-Ok.ensures.first
    c.find-read.ensures mine c.in-Ok.ensures.there
