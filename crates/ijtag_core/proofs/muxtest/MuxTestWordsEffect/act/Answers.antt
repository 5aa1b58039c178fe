use Rattle.std.proofs.Common.{inl, refl, ℕ, List}
use Rattle.ijtag_work.specs.Accepted.{SeenAccepted}
use Rattle.ijtag_work.specs.Order.{mux_test, mux_tested}
use Rattle.ijtag_work.specs.Runs.{Counts, Seen, counts, seen}
use Rattle.ijtag_work.specs.Task.{task_of}
use Rattle.ijtag_work.specs.Using.{seen_accepted}
use Rattle.ijtag_work.specs.Words.{seen_mux_test}
use Rattle.ijtag_core.proofs.Acting.{file_stops}
use Rattle.ijtag_core.proofs.Testing.{can_test, lines_part, test_done, test_part}
use Rattle.ijtag_core.proofs.muxtest.MuxTestWordsEffect.act.Goals as goal

pub returns-in-Err-clause-stop : goal.returns-in-Err-clause-stop
returns-in-Err-clause-stop g c =
    let name : List ℕ = c.args.self.now.svf.now in
    let it : SeenAccepted = seen_accepted c.args.it.now in
    let k : Counts = counts g.S.Shelf.load_faults g.S.Shelf.store_faults g.O.Sink.faults c.args.shelf.now
    c.write_test.new.shelf c.args.out.now c.args.out.now in
    file_stops (mux_tested name it) (task_of (mux_test (seen_mux_test c.args.self.now))) k name
    c.in-Err.fault c.of_file.ensures.stop (λ failed. can_test name it c.in_ok-test.ensures.follows)
    (inl refl) c.in-Err.ensures.cause.failed

pub returns-in-Err-clause-part : goal.returns-in-Err-clause-part
returns-in-Err-clause-part g c =
    let name : List ℕ = c.args.self.now.svf.now in
    let it : SeenAccepted = seen_accepted c.args.it.now in
    let old : Seen = seen g.S.Shelf.files g.O.Sink.taken c.args.shelf.now c.args.out.now in
    let new : Seen = seen g.S.Shelf.files g.O.Sink.taken c.write_test.new.shelf c.args.out.now in
    test_part name it c.in_ok-test.ensures.follows old new c.in-Err.ensures.part refl

pub returns-clause-part : goal.returns-clause-part
returns-clause-part g c =
    let name : List ℕ = c.args.self.now.svf.now in
    let it : SeenAccepted = seen_accepted c.args.it.now in
    let old : Seen = seen g.S.Shelf.files g.O.Sink.taken c.args.shelf.now c.args.out.now in
    let new : Seen = seen g.S.Shelf.files g.O.Sink.taken c.write_test.new.shelf c.print_test.new.out in
    lines_part name it c.in_ok-test.ensures.follows old new
    c.in-Ok.ensures.whole c.in-Err-print_test.ensures.part

pub returns-in-Ok-print_test-clause-done : goal.returns-in-Ok-print_test-clause-done
returns-in-Ok-print_test-clause-done g c =
    let name : List ℕ = c.args.self.now.svf.now in
    let it : SeenAccepted = seen_accepted c.args.it.now in
    let old : Seen = seen g.S.Shelf.files g.O.Sink.taken c.args.shelf.now c.args.out.now in
    let new : Seen = seen g.S.Shelf.files g.O.Sink.taken c.write_test.new.shelf c.print_test.new.out in
    test_done name it c.in_ok-test.ensures.follows old new
    c.in-Ok.ensures.whole c.in-Ok-print_test.ensures.printed
