use Rattle.std.proofs.Common.{refl, sym, subst, ℕ, List, [], ◌++◌, codes}
use Rattle.ij_io.proofs.Adding.{at_refusal}
use Rattle.ijtag_work.specs.Late.{IsPartOf}
use Rattle.ijtag_work.specs.Accepted.{SeenAccepted}
use Rattle.ijtag_work.specs.Order.{made_of}
use Rattle.ijtag_work.specs.Runs.{Counts, Seen, counts, seen}
use Rattle.ijtag_work.specs.Seen.{seen_stop, differing}
use Rattle.ijtag_work.specs.Stops.{Stop}
use Rattle.ijtag_work.specs.Using.{seen_accepted}
use Rattle.ijtag_work.specs.declared.stop.Stop.{Stop as RustStop}
use Rattle.ijtag_core.specs.Svf.{IsPlayStop}
use Rattle.ijtag_core.proofs.Exits.{at_fault}
use Rattle.ijtag_core.proofs.Playing.{line_done, line_part, line_stop, svf_part, svf_stop}
use Rattle.ijtag_core.proofs.made_svf.write_and_play.Goals as goal

pub returns-in_err-commands-clause-stop : goal.returns-in_err-commands-clause-stop
returns-in_err-commands-clause-stop g c =
    let svf : List ℕ = c.args.stem.now ++ codes ".svf" in
    let it : SeenAccepted = seen_accepted c.args.it.now in
    let now : Counts = counts g.S.Shelf.load_faults g.S.Shelf.store_faults g.O.Sink.faults c.args.shelf.now
    c.write_svf.new.shelf c.args.out.now c.args.out.now in
    let fault : RustStop = c.in_err-commands.field-0.0 in
    at_fault (λ (s : RustStop). IsPlayStop (made_of [] svf it) svf now (seen_stop s))
    c.from_residual.result fault c.from_residual.ensures.1
    (svf_stop svf it now (seen_stop fault) c.in_err-commands.ensures.stop)

pub returns-in_err-commands-clause-part : goal.returns-in_err-commands-clause-part
returns-in_err-commands-clause-part g c =
    let svf : List ℕ = c.args.stem.now ++ codes ".svf" in
    let it : SeenAccepted = seen_accepted c.args.it.now in
    let old : Seen = seen g.S.Shelf.files g.O.Sink.taken c.args.shelf.now c.args.out.now in
    let new : Seen = seen g.S.Shelf.files g.O.Sink.taken c.write_svf.new.shelf c.args.out.now in
    let part : IsPartOf (made_of [] svf it) old new =
    svf_part svf it old new refl c.in_err-commands.ensures.part in
    at_refusal _ part

pub returns-in-Ok-clause-done : goal.returns-in-Ok-clause-done
returns-in-Ok-clause-done g c =
    let svf : List ℕ = c.args.stem.now ++ codes ".svf" in
    let it : SeenAccepted = seen_accepted c.args.it.now in
    let old : Seen = seen g.S.Shelf.files g.O.Sink.taken c.args.shelf.now c.args.out.now in
    let new : Seen = seen g.S.Shelf.files g.O.Sink.taken c.write_svf.new.shelf c.put_report.new.out in
    line_done svf it old new c.in_ok-commands.commands c.in_ok-commands.ensures.whole
    (differing c.in-Ok.verdict) c.in-Ok.ensures.printed c.in-Ok.ensures.verdict

pub returns-clause-stop : goal.returns-clause-stop
returns-clause-stop g c =
    let svf : List ℕ = c.args.stem.now ++ codes ".svf" in
    let it : SeenAccepted = seen_accepted c.args.it.now in
    let old : Seen = seen g.S.Shelf.files g.O.Sink.taken c.args.shelf.now c.args.out.now in
    let new : Seen = seen g.S.Shelf.files g.O.Sink.taken c.write_svf.new.shelf c.put_report.new.out in
    let now : Counts = counts g.S.Shelf.load_faults g.S.Shelf.store_faults g.O.Sink.faults c.args.shelf.now
    c.write_svf.new.shelf c.args.out.now c.put_report.new.out in
    subst (λ (s : Stop). IsPlayStop (made_of [] svf it) svf now s) (sym c.of_output.ensures.stop)
    (line_stop svf it old new c.in_ok-commands.commands c.in_ok-commands.ensures.whole now
    c.in-Err.fault c.in-Err.ensures.cause.failed)

pub returns-clause-part : goal.returns-clause-part
returns-clause-part g c =
    let svf : List ℕ = c.args.stem.now ++ codes ".svf" in
    let it : SeenAccepted = seen_accepted c.args.it.now in
    let old : Seen = seen g.S.Shelf.files g.O.Sink.taken c.args.shelf.now c.args.out.now in
    let new : Seen = seen g.S.Shelf.files g.O.Sink.taken c.write_svf.new.shelf c.put_report.new.out in
    line_part svf it old new c.in_ok-commands.commands c.in_ok-commands.ensures.whole c.in-Err.ensures.part
