use Rattle.std.proofs.Common.{◌≡◌, ◌≤◌, ◌+◌, ◌∙◌, Bool, true, false, List, ap, sym, arith, drop, take}
use Rattle.std.specs.Prelude.{◌==◌, ◌||◌, not, bit_and, bit_xor}
use Rattle.std.proofs.lemmas.Bool.Decides.{nat_tests}
use Rattle.ij_bits.specs.BitLists.{has_one}
use Rattle.svf_notes.specs.Packed.{differing}
use Rattle.svf_notes.proofs.Packed.{differ_end, differ_step}
use Rattle.svf_notes.proofs.bits.differ_where_set.Goals as goal

pub returns-then-number-mark-ne0 : goal.returns-then-number-mark-ne0
returns-then-number-mark-ne0 c =
    let cs : List Bool = c.args.marks.now.items in
    let es : List Bool = c.args.bits.now.items in
    let fs : List Bool = c.args.others.now.items in
    let at = c.args.at in
    let k = c.loop-done.done in
    let n = c.min-n.result in
    let w = c.args.width in
    let d = differing (take w (drop at cs)) (take w (drop at es)) (take w (drop at fs)) in
    let z = bit_and (bit_xor c.number.result c.number-in-loop-done.result) c.number-mark.result in
    let one : not (z == 0) ≡ true = grind (arith, nat_tests) in
    let step = differ_step cs es fs at w k n c.number-mark.result c.number-in-loop-done.result c.number.result
    (omega (arith, c.min-n.ensures, c.loop-done.invariant.within))
    c.requires.marks c.requires.bits c.requires.others
    c.number-mark.ensures.value c.number-in-loop-done.ensures.value c.number.ensures.value in
    sym (sym c.loop-done.invariant.left ∙ step ∙ ap (λ b. b || has_one (drop (k + n) d)) one)

pub loop-done-preserved : goal.loop-done-preserved
loop-done-preserved c =
    let cs : List Bool = c.args.marks.now.items in
    let es : List Bool = c.args.bits.now.items in
    let fs : List Bool = c.args.others.now.items in
    let at = c.args.at in
    let k = c.loop-done.done in
    let n = c.min-n.result in
    let w = c.args.width in
    let d = differing (take w (drop at cs)) (take w (drop at es)) (take w (drop at fs)) in
    let z = bit_and (bit_xor c.number.result c.number-in-loop-done.result) c.number-mark.result in
    let none : not (z == 0) ≡ false = grind (arith, nat_tests) in
    let within : k + n ≤ w = omega (arith, c.min-n.ensures, c.loop-done.invariant.within) in
    let step = differ_step cs es fs at w k n c.number-mark.result c.number-in-loop-done.result c.number.result
    within c.requires.marks c.requires.bits c.requires.others
    c.number-mark.ensures.value c.number-in-loop-done.ensures.value c.number.ensures.value in
    record {
      within = within;
      left = sym (step ∙ ap (λ b. b || has_one (drop (k + n) d)) none) ∙ c.loop-done.invariant.left;
    }

pub returns : goal.returns
returns c =
    let cs : List Bool = c.args.marks.now.items in
    let es : List Bool = c.args.bits.now.items in
    let fs : List Bool = c.args.others.now.items in
    sym (ap has_one (differ_end cs es fs c.args.at c.args.width c.loop-done.done c.requires.marks
    c.requires.bits c.requires.others (omega (arith, c.loop-done-test.false))))
    ∙ c.loop-done.invariant.left
