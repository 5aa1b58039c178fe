use Rattle.std.proofs.Common.{◌≡◌, ◌∙◌, Bool, List, sym, arith}
use Rattle.std.proofs.lemmas.Bool.Decides.{nat_tests}
use Rattle.svf_notes.proofs.Packed.{other_step, same_step}
use Rattle.svf_notes.proofs.bits.are_same.Goals as goal

pub returns-then-number : goal.returns-then-number
returns-then-number c =
    let xs : List Bool = c.args.bits.now.items in
    let ys : List Bool = c.args.other.now.items in
    let k = c.loop-done.done in
    let n = c.min-n.result in
    let apart : c.number.result ≡ c.number-in-loop-done.result → ⊥ = λ same. grind (arith, nat_tests, same) in
    sym (sym c.loop-done.invariant.left
    ∙ other_step xs ys c.args.at k n c.number.result c.number-in-loop-done.result
    (omega (arith, c.min-n.ensures, c.loop-done.invariant.within, c.len-width.ensures)) c.requires
    c.number.ensures.value c.number-in-loop-done.ensures.value apart)

pub loop-done-preserved : goal.loop-done-preserved
loop-done-preserved c =
    let xs : List Bool = c.args.bits.now.items in
    let ys : List Bool = c.args.other.now.items in
    let k = c.loop-done.done in
    let n = c.min-n.result in
    let same : c.number.result ≡ c.number-in-loop-done.result = grind (arith, nat_tests) in
    record {
      within = omega (arith, c.min-n.ensures, c.loop-done.invariant.within);
      left = sym (same_step xs ys c.args.at k n c.number.result c.number-in-loop-done.result
          (omega (arith, c.min-n.ensures, c.loop-done.invariant.within, c.len-width.ensures)) c.requires
          c.number.ensures.value c.number-in-loop-done.ensures.value same) ∙ c.loop-done.invariant.left;
    }
