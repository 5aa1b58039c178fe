use Rattle.std.proofs.Common.{◌≡◌, ◌-◌, ◌+◌, ℕ, suc, Some, List, [], ◌∷◌, ◌++◌, arith, ap, sym, ◌∙◌, subst}
use Rattle.ij_bits.specs.Hex.{hex_digit}
use Rattle.ij_io.proofs.Fronts.{AddsFront, front_next}
use Rattle.svf_notes.specs.Notes.{hex_digits}
use Rattle.svf_notes.proofs.instruction.put_hex_digits.Goals as goal

pub loop-j-preserved : goal.loop-j-preserved
loop-j-preserved c =
    let bits = c.args.bits.now.items in
    let n = c.args.n - c.loop-j.j in
    let m = c.args.n - (c.loop-j.j + 1) in
    let more : n ≡ suc m = omega arith in
    let place : c.args.n - 1 - c.loop-j.j ≡ m = omega arith in
    let is : c.hex_digit.result ≡ hex_digit bits m = c.hex_digit.ensures ∙ ap (hex_digit bits) place in
    let here : hex_digits bits n ≡ (c.hex_digit.result ∷ []) ++ hex_digits bits m =
    ap (hex_digits bits) more ∙ ap (λ (d : ℕ). d ∷ hex_digits bits m) (sym is) in
    front_next (c.hex_digit.result ∷ []) (hex_digits bits m)
    (subst (λ (r : List ℕ). AddsFront (Some c.args.note.now) (Some c.loop-j.note) r
    (hex_digits bits c.args.n)) here c.loop-j.invariant) c.in_ok-write.ensures.whole
