use Rattle.std.proofs.Common.{Option, subst, sym}
use Rattle.ij_io.proofs.Adding.{at_refusal}
use Rattle.ij_io.specs.Files.{Files}
use Rattle.retargeter.specs.Files.{HoldsPart}
use Rattle.ijtag_work.proofs.Begun.{not_begun, begun, ended}
use Rattle.ijtag_work.proofs.write.write_file.Goals as goal

pub returns-in_err-begin-clause-part : goal.returns-in_err-begin-clause-part
returns-in_err-begin-clause-part g c =
    at_refusal _ (not_begun (g.S.Shelf.files c.args.shelf.now)
    (g.S.Shelf.files c.begin.new.self) c.args.name.now _ c.in_err-begin.ensures.refused)

pub returns-in_err-append-clause-part : goal.returns-in_err-append-clause-part
returns-in_err-append-clause-part g c =
    at_refusal c.from_residual-in_err-append.result
    (begun (g.S.Shelf.files c.args.shelf.now) (g.S.Shelf.files c.begin.new.self)
    (g.S.Shelf.files c.append.new.self) c.args.name.now c.args.bytes.now
    c.in_ok-begin.ensures.empty c.in_err-append.ensures.part)

pub returns-in_err-finish-clause-part : goal.returns-in_err-finish-clause-part
returns-in_err-finish-clause-part g c =
    at_refusal c.from_residual-in_err-finish.result
    (subst (λ (files : Option Files). HoldsPart (g.S.Shelf.files c.args.shelf.now) files c.args.name.now
    c.args.bytes.now) (sym c.finish.ensures.files)
    (ended (g.S.Shelf.files c.args.shelf.now) (g.S.Shelf.files c.begin.new.self)
    (g.S.Shelf.files c.append.new.self) c.args.name.now c.args.bytes.now
    c.in_ok-begin.ensures.empty c.in_ok-append.ensures.whole))
