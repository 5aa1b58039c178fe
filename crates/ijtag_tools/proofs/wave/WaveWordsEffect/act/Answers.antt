use Rattle.std.proofs.Common.{inl, refl, sym, subst, Bool, []}
use Rattle.ijtag_work.specs.Accepted.{SeenAccepted}
use Rattle.ijtag_work.specs.Order.{any_differs, differs_at, ran}
use Rattle.ijtag_work.specs.Runs.{Counts, IsDone, counts}
use Rattle.ijtag_work.specs.Task.{task_of}
use Rattle.ijtag_work.specs.Using.{seen_accepted}
use Rattle.ijtag_work.proofs.Ends.{file_done, file_part}
use Rattle.ijtag_core.proofs.Acting.{file_stops}
use Rattle.ijtag_tools.specs.Command.{Wave}
use Rattle.ijtag_tools.specs.Order.{wave, waved, waves_of}
use Rattle.ijtag_tools.specs.Words.{seen_wave}
use Rattle.ijtag_tools.proofs.wave.WaveWordsEffect.act.Goals as goal

pub returns-in-Err-clause-part : goal.returns-in-Err-clause-part
returns-in-Err-clause-part g c =
    let w : Wave = seen_wave c.args.self.now in
    let it : SeenAccepted = seen_accepted c.args.it.now in
    let window = c.in_ok-window.window in
    file_part (waved w it) (g.S.Shelf.files c.args.shelf.now)
    (g.S.Shelf.files c.write_waves.new.shelf) (g.O.Sink.taken c.args._out.now)
    w.new (waves_of w.kind w.play.network.top window it) (any_differs (differs_at it it.commands))
    (window, c.in_ok-window.ensures, refl) c.in-Err.ensures.part

pub returns-in-Ok-clause-done : goal.returns-in-Ok-clause-done
returns-in-Ok-clause-done g c =
    let w : Wave = seen_wave c.args.self.now in
    let it : SeenAccepted = seen_accepted c.args.it.now in
    let window = c.in_ok-window.window in
    let old = g.S.Shelf.files c.args.shelf.now in
    let new = g.S.Shelf.files c.write_waves.new.shelf in
    let printed = g.O.Sink.taken c.args._out.now in
    subst (λ (d : Bool). IsDone (waved w it) (record { files = old; printed = printed })
    (record { files = new; printed = printed }) d) (sym c.in-Ok.ensures.differs)
    (file_done (waved w it) old new printed w.new (waves_of w.kind w.play.network.top window it)
    (any_differs (differs_at it it.commands))
    (window, c.in_ok-window.ensures, refl) c.in-Ok.ensures.whole)

pub returns-in-Err-clause-stop : goal.returns-in-Err-clause-stop
returns-in-Err-clause-stop g c =
    let w : Wave = seen_wave c.args.self.now in
    let it : SeenAccepted = seen_accepted c.args.it.now in
    let window = c.in_ok-window.window in
    let k : Counts = counts g.S.Shelf.load_faults g.S.Shelf.store_faults g.O.Sink.faults c.args.shelf.now
    c.write_waves.new.shelf c.args._out.now c.args._out.now in
    file_stops (waved w it) (task_of (wave w)) k w.new c.in-Err.fault c.of_file.ensures.stop (λ failed. (
      ran w.new
          (waves_of w.kind w.play.network.top window it) [] (any_differs (differs_at it it.commands)),
      (window, c.in_ok-window.ensures, refl),
    )) (inl refl) c.in-Err.ensures.cause.failed
