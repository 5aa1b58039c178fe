use Rattle.std.proofs.Common.{◌++◌}
use Rattle.std.specs.Prelude.{codes}
use Rattle.ij_bits.specs.BitLists.{bits_of}
use Rattle.ij_io.proofs.Adding.{adds_front, adds_then_part, at_refusal}
use Rattle.ij_io.specs.Words.{hex_text}
use Rattle.svf_writer.proofs.write.put_number_part.Goals as goal

pub returns-in_err-write-clause-part : goal.returns-in_err-write-clause-part
returns-in_err-write-clause-part g c =
    at_refusal c.from_residual.result
    (adds_front (hex_text (bits_of c.args.count c.args.bits) ++ codes ")") c.in_err-write.ensures.part)

pub returns-in_err-put_opcode-clause-part : goal.returns-in_err-put_opcode-clause-part
returns-in_err-put_opcode-clause-part g c =
    at_refusal c.from_residual-in_err-put_opcode.result
    (adds_then_part c.in_ok-write.ensures.whole (adds_front (codes ")") c.in_err-put_opcode.ensures.part))

pub returns-in_err-write-2-clause-part : goal.returns-in_err-write-2-clause-part
returns-in_err-write-2-clause-part g c =
    at_refusal c.from_residual-in_err-write-2.result
    (adds_then_part c.in_ok-write.ensures.whole
    (adds_then_part c.in_ok-put_opcode.ensures.whole c.in_err-write-2.ensures.part))
