use Rattle.std.proofs.Common.{◌≡◌, ◌≤◌, ◌+◌, ◌∙◌, Bool, true, false, List, ap, sym, arith, drop, take}
use Rattle.std.specs.Prelude.{◌==◌, ◌||◌, not}
use Rattle.std.proofs.lemmas.Bool.Decides.{nat_tests}
use Rattle.ij_bits.specs.BitLists.{has_one}
use Rattle.svf_notes.proofs.Packed.{one_step}
use Rattle.svf_notes.proofs.bits.any_bit_set.Goals as goal

pub returns-then-number-ne0 : goal.returns-then-number-ne0
returns-then-number-ne0 c =
    let xs : List Bool = c.args.bits.now.items in
    let k = c.loop-done.done in
    let n = c.min-n.result in
    let w = c.args.width in
    let p = take w (drop c.args.at xs) in
    let one : not (c.number.result == 0) ≡ true = grind (arith, nat_tests) in
    sym (sym c.loop-done.invariant.left ∙ one_step xs c.args.at w k n c.number.result
    (omega (arith, c.min-n.ensures, c.loop-done.invariant.within)) c.number.ensures.value
    ∙ ap (λ b. b || has_one (drop (k + n) p)) one)

pub loop-done-preserved : goal.loop-done-preserved
loop-done-preserved c =
    let xs : List Bool = c.args.bits.now.items in
    let k = c.loop-done.done in
    let n = c.min-n.result in
    let w = c.args.width in
    let p = take w (drop c.args.at xs) in
    let within : k + n ≤ w = omega (arith, c.min-n.ensures, c.loop-done.invariant.within) in
    let none : not (c.number.result == 0) ≡ false = grind (arith, nat_tests) in
    record {
      within = within;
      left = sym (one_step xs c.args.at w k n c.number.result within c.number.ensures.value
          ∙ ap (λ b. b || has_one (drop (k + n) p)) none) ∙ c.loop-done.invariant.left;
    }
