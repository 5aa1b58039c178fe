use Rattle.std.proofs.Common.{◌≡◌, ◌+◌, ◌/◌, ℕ, Some, List, length, arith, ap, ◌∙◌, subst}
use Rattle.ij_io.specs.Bytes.{Adds}
use Rattle.ij_io.proofs.Adding.{adds_both}
use Rattle.svf_notes.specs.Notes.{hex_digits, selected_name}
use Rattle.svf_notes.proofs.instruction.put_opcode.Goals as goal

pub returns : goal.returns
returns c =
    let bits = c.args.opcode.now.items in
    let n : c.div_ceil.result ≡ (length bits + 3) / 4 = omega (arith, c.div_ceil.ensures, c.len.ensures) in
    let digits : Adds (Some c.write.new.self) (Some c.put_hex_digits.new.note)
    (hex_digits bits ((length bits + 3) / 4)) = subst (λ (k : ℕ). Adds (Some c.write.new.self)
    (Some c.put_hex_digits.new.note) (hex_digits bits k)) n c.in_ok-put_hex_digits.ensures in
    let name = c.register_name.ensures ∙ ap selected_name c.selected_by.ensures in
    let selected = subst (λ (l : List ℕ). Adds (Some c.put_hex_digits.new.note) (Some c.write-2.new.self) l)
    name c.in_ok-write-2.ensures.whole in
    adds_both c.in_ok-write.ensures.whole (adds_both digits selected)
