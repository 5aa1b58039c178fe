use Rattle.std.proofs.Common.{Some, List, ℕ, subst}
use Rattle.ij_io.specs.Bytes.{Adds}
use Rattle.svf_writer.specs.Written.{preface}
use Rattle.retargeter.proofs.FileScripts.{part_of}
use Rattle.std.proofs.lemmas.Result.{on_err_weaker}
use Rattle.retargeter.proofs.file_procedure.put_script.Goals as goal

pub returns-clause-part : goal.returns-clause-part
returns-clause-part g c =
    let front = subst (λ (none : List ℕ). Adds (Some none) (Some c.put_preface.new.k)
    (preface c.args.device.now)) c.new-piece.ensures c.in_ok-put_preface.ensures.whole in
    on_err_weaker c.put_steps.result
    (part_of c.args.net.now c.args.tree.now c.args.device.now c.args.steps.now.steps
    (g.S.Shelf.files c.args.shelf.now) c.args.name.now c.in_ok-session.session
    (g.S.Shelf.files c.begin.new.self) c.put_preface.new.k
    c.in_ok-session.ensures front c.in_ok-begin.ensures.empty (g.S.Shelf.files c.put_steps.new.shelf))
    c.put_steps.ensures.part
