use Rattle.tap_machine.proofs.Pieces.{piece_at}
use Rattle.tap_machine.proofs.Piece.at.Goals as goal

pub returns : goal.returns
returns c =
    rw (
      c.tms_of.ensures,
      c.expect_of.ensures,
      c.bit_of_number-compared.ensures,
      c.bit_of_number-expected.ensures,
      c.bit_of_number.ensures,
    )
    (piece_at c.args.self.now c.args.i c.requires.there)
