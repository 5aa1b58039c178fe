use Rattle.std.proofs.Common.{inl, ⊎_elim, refl, false, ℕ, List, Option}
use Rattle.ij_io.specs.Files.{Files}
use Rattle.ijtag_work.specs.Accepted.{SeenAccepted}
use Rattle.ijtag_work.specs.Filed.{IsPartFiled}
use Rattle.ijtag_work.specs.Late.{IsPartOf}
use Rattle.ijtag_work.specs.Order.{compile, compiled, filed, written_text}
use Rattle.ijtag_work.specs.Runs.{Counts, counts, seen}
use Rattle.ijtag_work.specs.Task.{task_of}
use Rattle.ijtag_work.specs.Using.{seen_accepted}
use Rattle.ijtag_work.specs.Words.{seen_compile}
use Rattle.ijtag_work.proofs.Ends.{file_done, file_part}
use Rattle.ijtag_core.proofs.Acting.{file_stops}
use Rattle.ijtag_core.proofs.compile.CompileWordsEffect.act.Goals as goal

pub returns-in-Ok-clause-done : goal.returns-in-Ok-clause-done
returns-in-Ok-clause-done g c =
    let name : List ℕ = c.args.self.now.svf.now in
    let w = c.in-Ok.ensures.whole in
    file_done (compiled name (seen_accepted c.args.it.now))
    (g.S.Shelf.files c.args.shelf.now) (g.S.Shelf.files c.write_svf.new.shelf)
    (g.O.Sink.taken c.args._out.now) name w.bytes false (w.bytes, w.given, refl) w.held

pub returns-in-Err-clause-stop : goal.returns-in-Err-clause-stop
returns-in-Err-clause-stop g c =
    let name : List ℕ = c.args.self.now.svf.now in
    let part = compiled name (seen_accepted c.args.it.now) in
    let k : Counts = counts g.S.Shelf.load_faults g.S.Shelf.store_faults g.O.Sink.faults c.args.shelf.now
    c.write_svf.new.shelf c.args._out.now c.args._out.now in
    file_stops part (task_of (compile (seen_compile c.args.self.now))) k name c.in-Err.fault
    c.of_file.ensures.stop (λ failed. let text = c.in-Err.ensures.text failed in
    (filed name text.0, (text.0, text.1, refl))) (inl refl) c.in-Err.ensures.cause.failed

pub returns-in-Err-clause-part : goal.returns-in-Err-clause-part
returns-in-Err-clause-part g c = ⊎_elim (λ same. inl (same, refl)) begun c.in-Err.ensures.part
  where
    it : SeenAccepted
    it = seen_accepted c.args.it.now

    files : Option Files
    files = g.S.Shelf.files c.args.shelf.now

    new : Option Files
    new = g.S.Shelf.files c.write_svf.new.shelf

    name : List ℕ
    name = c.args.self.now.svf.now

    begun : IsPartFiled (written_text it) files new name
        → IsPartOf (compiled name it) (seen g.S.Shelf.files g.O.Sink.taken c.args.shelf.now c.args._out.now)
        (seen g.S.Shelf.files g.O.Sink.taken c.write_svf.new.shelf c.args._out.now)
    begun w = file_part (compiled name it) files new
        (g.O.Sink.taken c.args._out.now) name w.bytes false (w.bytes, w.given, refl) w.held
