use Rattle.std.specs.Option.{option_map}
use Rattle.std.specs.Prelude.{IfSome}
use Rattle.std.proofs.Common.{Bool, List, ℕ, refl, subst}
use Rattle.ij_io.specs.Files.{file_at}
use Rattle.ijtag_work.specs.Ends.{Done, Says, Stopped, views, world}
use Rattle.ijtag_work.specs.Seen.{seen_stop, differing}
use Rattle.ijtag_work.proofs.Ended.{bound_done, bound_stopped, ends_done, ends_stopped, says_stopped}
use Rattle.ijtag_work.proofs.Statuses.{with_verdict}
use Rattle.ijtag_core.proofs.program.run_program.Goals as goal

pub returns-in-Ok-clause-promise : goal.returns-in-Ok-clause-promise
returns-in-Ok-clause-promise g c =
    with_verdict (λ (differs : Bool). IfSome (option_map g.C.Command.named c.args.command.now)
    (λ command. g.C.Command.promise command (g.S.Shelf.files c.args.shelf.now)
    (file_at (g.S.Shelf.files c.run_if_any.new.shelf)) differs))
    (differing c.in-Ok.verdict) c.status.result c.in-Ok.ensures.promise c.status.ensures

pub returns-in-Ok-clause-run : goal.returns-in-Ok-clause-run
returns-in-Ok-clause-run g c =
    let words = option_map g.C.Command.named c.args.command.now in
    let v = views g.S.Shelf.files g.S.Shelf.load_faults g.S.Shelf.store_faults g.O.Sink.taken g.O.Sink.handed
    g.O.Sink.faults g.E.Sink.taken g.E.Sink.faults in
    let old = world c.args.shelf.now c.args.out.now c.args.err.now in
    let new = world c.run_if_any.new.shelf c.run_if_any.new.out c.args.err.now in
    record {
      end = Done (differing c.in-Ok.verdict);
      ends = ends_done v g.C.Command.task old new words
          (differing c.in-Ok.verdict) c.in-Ok.ensures.some c.in-Ok.ensures.done c.in-Ok.ensures.handed;
      says = (c.status.ensures, refl);
      bound = bound_done v g.C.Command.task old new c.works_settle.ensures c.status.result words
          (differing c.in-Ok.verdict) c.in-Ok.ensures.done c.status.ensures;
      own = record {
        files = c.run_if_any.ensures.files;
        output = c.run_if_any.ensures.out;
        loads = c.run_if_any.ensures.loads;
        stores = c.run_if_any.ensures.stores;
      };
    }

pub returns-in-Err-clause-run : goal.returns-in-Err-clause-run
returns-in-Err-clause-run g c =
    let words = option_map g.C.Command.named c.args.command.now in
    let v = views g.S.Shelf.files g.S.Shelf.load_faults g.S.Shelf.store_faults g.O.Sink.taken g.O.Sink.handed
    g.O.Sink.faults g.E.Sink.taken g.E.Sink.faults in
    let old = world c.args.shelf.now c.args.out.now c.args.err.now in
    let new = world c.run_if_any.new.shelf c.run_if_any.new.out c.report.new.err in
    let stop = seen_stop c.in-Err.stop in
    record {
      end = Stopped stop;
      ends = ends_stopped v g.C.Command.task old new words stop c.in-Err.ensures.stop c.in-Err.ensures.early
          c.in-Err.ensures.silent c.in-Err.ensures.part;
      says = subst (λ (usage : List ℕ). Says g.E.Sink.taken g.E.Sink.faults usage c.args.err.now
          c.report.new.err (Stopped stop) c.report.result) c.usage.ensures
          (says_stopped g.E.Sink.taken g.E.Sink.faults c.usage.result.now c.args.err.now c.report.new.err
          c.report.result stop c.report.ensures.status c.report.ensures.told c.report.ensures.part);
      bound = bound_stopped v g.C.Command.task old new c.works_settle.ensures c.report.result words stop
          c.in-Err.ensures.stop c.report.ensures.status;
      own = record {
        files = c.run_if_any.ensures.files;
        output = c.run_if_any.ensures.out;
        loads = c.run_if_any.ensures.loads;
        stores = c.run_if_any.ensures.stores;
      };
    }
