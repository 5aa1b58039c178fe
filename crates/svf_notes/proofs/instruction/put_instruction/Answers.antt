use Rattle.std.proofs.Common.{◌≡◌, false, ℕ, cond, length, arith, ap, sym, ◌∙◌}
use Rattle.std.specs.Prelude.{◌==◌, Some, codes}
use Rattle.std.proofs.lemmas.Bool.Decides.{nat_tests}
use Rattle.ij_io.proofs.Adding.{whole_as}
use Rattle.svf_notes.specs.Notes.{opcode_text, other_length, tdi_bits}
use Rattle.svf_notes.proofs.instruction.put_instruction.Goals as goal

pub returns-else-count-ir : goal.returns-else-count-ir
returns-else-count-ir c =
    let device = c.args.device.now in
    let bits = c.args.bits.now.items in
    let register = codes "instruction register " in
    let other : (length bits == device.ir) ≡ false = grind (arith, nat_tests) in
    let count : c.from-count.result ≡ length bits = grind (arith, nat_tests) in
    let same : c.from-ir.result ≡ device.ir = grind (arith, nat_tests) in
    whole_as c.put_other_length.result (Some c.args.note.now) (Some c.put_other_length.new.note)
    (ap (λ (n : ℕ). other_length register n c.from-ir.result) count
    ∙ ap (λ (n : ℕ). other_length register (length bits) n) same ∙ sym (ap (λ k. cond k
    (opcode_text device (tdi_bits bits)) (other_length register (length bits) device.ir)) other))
    c.put_other_length.ensures
