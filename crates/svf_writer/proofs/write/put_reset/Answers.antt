use Rattle.std.proofs.Common.{[], ◌∷◌, ◌++◌}
use Rattle.std.specs.Prelude.{codes}
use Rattle.ij_bits.specs.BitLists.{bits_of}
use Rattle.ij_io.proofs.Adding.{adds_both, adds_front, adds_then_part, at_refusal, adds_as, adds_part_as}
use Rattle.ij_io.specs.Words.{hex_text, words_text}
use Rattle.svf_writer.proofs.Texts.{reset_is}
use Rattle.svf_writer.proofs.write.put_reset.Goals as goal

pub returns-in_err-put_words-clause-part : goal.returns-in_err-put_words-clause-part
unfolding words_text
returns-in_err-put_words-clause-part g c =
    let device = c.args.device.now in
    at_refusal c.from_residual.result
    (adds_part_as (reset_is device) (adds_front (hex_text (bits_of device.ir device.opcode)
    ++ (codes ");" ++ 10 ∷ [])) c.in_err-put_words.ensures.part))

pub returns-in_err-put_opcode-clause-part : goal.returns-in_err-put_opcode-clause-part
unfolding words_text
returns-in_err-put_opcode-clause-part g c =
    at_refusal c.from_residual-in_err-put_opcode.result
    (adds_part_as (reset_is c.args.device.now)
    (adds_then_part c.in_ok-put_words.ensures.whole
    (adds_front (codes ");" ++ 10 ∷ []) c.in_err-put_opcode.ensures.part)))

pub returns-in_err-write-clause-part : goal.returns-in_err-write-clause-part
unfolding words_text
returns-in_err-write-clause-part g c =
    at_refusal c.from_residual-in_err-write.result
    (adds_part_as (reset_is c.args.device.now)
    (adds_then_part c.in_ok-put_words.ensures.whole
    (adds_then_part c.in_ok-put_opcode.ensures.whole c.in_err-write.ensures.part)))

pub returns-clause-whole : goal.returns-clause-whole
unfolding words_text
returns-clause-whole g c =
    adds_as (reset_is c.args.device.now)
    (adds_both c.in_ok-put_words.ensures.whole
    (adds_both c.in_ok-put_opcode.ensures.whole c.in_ok-write.ensures.whole))
