use Rattle.std.proofs.Common.{◌≡◌, ◌++◌, false, get_or, map, ap}
use Rattle.std.specs.Prelude.{reverse}
use Rattle.net_graph.specs.declared.step.ReadBit.{ReadBit}
use Rattle.run_report.specs.Noting.{place_on}
use Rattle.run_report.specs.declared.place.ReadPlace.{ReadPlace}
use Rattle.run_report.proofs.Looking.{one_more}
use Rattle.run_report.proofs.place.note_reads.Goals as goal

abbrev no_read : ReadBit
no_read = record { bit = record { reg = 0; pos = 0 }; expect = false; read = 0; line = 0; index = 0 }

pub loop-read-preserved : goal.loop-read-preserved
loop-read-preserved c =
    let f = place_on c.args.net.now (reverse c.args.path.now) c.args.scan in
    let i = c.loop-read.read-index in
    let r = get_or c.args.reads.now i no_read in
    let made : ◌≡◌ {A = ReadPlace} (record { scan = c.args.scan; bit = c.position.result; read = r }) (f r) =
    ap (λ k. record { scan = c.args.scan; bit = k; read = r }) c.position.ensures in
    one_more f c.args.reads.now c.loop-read.places.items
    (c.args.places.now.items ++ map f c.args.reads.now) i c.loop-read.invariant no_read _
    c.push.new.self.items c.loop-read-test.true made c.in_ok-push.ensures.ok
