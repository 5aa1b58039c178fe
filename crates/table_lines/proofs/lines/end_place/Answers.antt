use Rattle.std.proofs.Common.{ap, ◌∙◌, ◌∷◌, [], List, ℕ, arith}
use Rattle.table_lines.proofs.Lined.{end_next, end_last}
use Rattle.table_lines.proofs.lines.end_place.Goals as goal

pub loop-after-preserved : goal.loop-after-preserved
loop-after-preserved c =
    let one = rw c.in-Some.is at c.cut_at.ensures.pieces in
    let whole = rw c.in-Some.is at c.cut_at.ensures.whole in
    record {
      so_far = end_next c.loop-after.line c.loop-after.rest.now c.cut_at.result.front.now
          c.in-Some.after.now one ∙ c.loop-after.invariant.so_far;
      fits = omega (arith, whole, c.loop-after.invariant.fits);
    }

pub returns : goal.returns
returns c =
    let one = rw c.in_default.is at c.cut_at.ensures.pieces in
    let all = rw c.in_default.is at c.cut_at.ensures.whole in
    end_last c.loop-after.line c.loop-after.rest.now c.args.text.now
    (one ∙ ap (λ (front : List ℕ). front ∷ []) all) c.loop-after.invariant.so_far
