use Rattle.std.proofs.Common.{arith}
use Rattle.ij_bits.proofs.WordBits.{first_bits-none}
use Rattle.ij_bits.proofs.bits.Bits.with_room.Goals as goal

pub returns-clause-empty : goal.returns-clause-empty
returns-clause-empty c = first_bits-none c.in_ok-words.words.items

pub returns-clause-room : goal.returns-clause-room
returns-clause-room c = omega (arith, c.in_ok-words.ensures.exact, c.div_ceil.ensures)
