use Rattle.std.proofs.Common.{◌≡◌, ◌+◌, ◌-◌, ◌++◌, ap, sym, ◌∙◌, arith, drop, take}
use Rattle.std.proofs.lemmas.List.{take-take}
use Rattle.ij_io.proofs.Adding.{adds_as, adds_both}
use Rattle.svf_notes.specs.Notes.{digits}
use Rattle.svf_notes.proofs.DigitParts.{digits-part}
use Rattle.svf_notes.proofs.Packed.{chunk}
use Rattle.svf_notes.proofs.digits.put_digits.Goals as goal

pub loop-left-preserved : goal.loop-left-preserved
loop-left-preserved c =
    let shown = c.args.shown in
    let items = c.args.bits.now.items in
    let bits = take c.args.width (drop c.args.at items) in
    let left = c.loop-left.left in
    let at = left - 64 in
    let up : at + 64 ≡ left = omega (arith, c.loop-left-test.true) in
    let some = ap (digits shown) (c.part.ensures.bits ∙ chunk items c.args.at c.args.width at 64
    (omega (arith, c.loop-left.invariant.within, c.loop-left-test.true))) in
    let text = ap (λ t. digits shown (drop left bits) ++ t) some ∙ sym (digits-part shown bits at 64
    ∙ ap (λ k. digits shown (drop k bits) ++ digits shown (take 64 (drop at bits))) up) in
    record {
      within = omega (arith, c.loop-left.invariant.within);
      adds = adds_as text (adds_both c.loop-left.invariant.adds c.in_ok-put_some_digits.ensures);
    }

pub returns : goal.returns
returns c =
    let shown = c.args.shown in
    let ys = drop c.args.at c.args.bits.now.items in
    let bits = take c.args.width ys in
    let left = c.loop-left.left in
    let none : 0 + left ≡ left = omega arith in
    let some = ap (digits shown)
    (c.part-2.ensures.bits ∙ sym (take-take left c.args.width ys c.loop-left.invariant.within)) in
    let text = ap (λ t. digits shown (drop left bits) ++ t) some ∙ sym (digits-part shown bits 0 left
    ∙ ap (λ k. digits shown (drop k bits) ++ digits shown (take left bits)) none) in
    adds_as text (adds_both c.loop-left.invariant.adds c.in_ok-put_some_digits-2.ensures)
