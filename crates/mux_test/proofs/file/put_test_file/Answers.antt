use Rattle.std.proofs.Common.{Some, List, ℕ, subst}
use Rattle.ij_io.specs.Bytes.{Adds}
use Rattle.std.proofs.lemmas.Result.{on_err_weaker}
use Rattle.svf_writer.specs.Written.{preface}
use Rattle.mux_test.proofs.Filed.{part_of}
use Rattle.mux_test.proofs.file.put_test_file.Goals as goal

pub returns-clause-part : goal.returns-clause-part
returns-clause-part g c =
    let front = subst (λ (none : List ℕ). Adds (Some none) (Some c.put_preface.new.k)
    (preface c.args.device.now)) c.new-piece.ensures c.in_ok-put_preface.ensures.whole in
    on_err_weaker c.put_scans.result
    (part_of c.args.net.now c.args.test.now.scans c.args.device.now
    (g.S.Shelf.files c.args.shelf.now) c.args.name.now (g.S.Shelf.files c.begin.new.self)
    c.put_preface.new.k front c.in_ok-begin.ensures.empty (g.S.Shelf.files c.put_scans.new.shelf))
    c.put_scans.ensures.part
