use Rattle.std.proofs.Common.{List, ℕ, subst}
use Rattle.ij_io.specs.Files.{GrowsPart}
use Rattle.ij_io.proofs.Pieces.{grown_part}
use Rattle.std.proofs.lemmas.Result.{on_err_weaker}
use Rattle.ij_io.proofs.file_piece.put_piece.Goals as goal

pub returns-clause-part : goal.returns-clause-part
returns-clause-part g c =
    on_err_weaker c.append.result
    (λ p. grown_part (g.S.Shelf.files c.args.shelf.now)
    (g.S.Shelf.files c.append.new.self) c.args.name.now c.args.piece.now
    (subst (λ (piece : List ℕ). GrowsPart (g.S.Shelf.files c.args.shelf.now)
    (g.S.Shelf.files c.append.new.self) c.args.name.now piece) c.bytes.ensures p))
    c.append.ensures.part
