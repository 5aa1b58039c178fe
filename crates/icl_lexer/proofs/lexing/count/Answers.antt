use Rattle.std.proofs.Common.{ℕ, ◌+◌, ◌≤◌, List, [], ◌++◌, refl, take, drop, length, sym, ap, subst, ◌∙◌}
use Rattle.std.proofs.Common.{arith, length-drop, length-append}
use Rattle.ij_text.specs.Places.{first_place, place_after}
use Rattle.icl_lexer.specs.Cutting.{IsPiece, NoPiece, fault_of, token_of}
use Rattle.icl_lexer.proofs.Cuts.{cut_more, nothing_cut, place_of_cut, rest_is}
use Rattle.icl_lexer.proofs.Unique.{piece_some}
use Rattle.icl_lexer.proofs.Fronts.{counted, count_few}
use Rattle.icl_lexer.proofs.lexing.count.Goals as goal

pub returns-in_default : goal.returns-in_default
returns-in_default c =
    let src = c.args.src.now in
    let start = c.loop-start.start in
    let so_far = c.loop-start.invariant.cut.2 in
    let left = length-drop start src in
    let at = c.place_at.ensures ∙ sym (place_of_cut src c.loop-start.invariant.cut.0 start
    c.loop-start.invariant.cut.1 so_far) ∙ so_far.at_is in
    record {
      pieces = so_far.pieces;
      rest = drop start src;
      cut = so_far.cut;
      some = λ none. let e = ap length none in omega (arith, e, left, c.loop-start-test.true);
      stuck = subst NoPiece (rest_is src start) c.in_default.ensures.none;
      is = c.fault_at.ensures ∙ ap (λ (l : List ℕ). fault_of l c.place_at.result) (rest_is src start)
          ∙ ap (fault_of (drop start src)) at;
    }

pub loop-start-preserved : goal.loop-start-preserved
loop-start-preserved c =
    let src = c.args.src.now in
    let start = c.loop-start.start in
    let tokens = c.loop-start.invariant.cut.0 in
    let at = c.loop-start.invariant.cut.1 in
    let kind = c.in-Some.found.kind in
    let len = c.in-Some.found.len in
    let piece : IsPiece (drop start src) kind len =
    subst (λ l. IsPiece l kind len) (rest_is src start) c.in-Some.ensures.some in
    let within = piece.within in
    let fits : start + len ≤ length src =
    omega (arith, within, length-drop start src, c.loop-start.invariant.within) in
    let some = piece_some (drop start src) kind len piece in
    let one = count_few kind in
    let count = c.count_of-count.ensures in
    record {
      within = fits;
      few = omega (arith, some, one, count, c.loop-start.invariant.few);
      cut = (
        tokens ++ token_of kind at start (start + len),
        place_after at (take len (drop start src)),
        cut_more src tokens start at kind len c.loop-start.invariant.cut.2 piece,
        let all = length-append tokens (token_of kind at start (start + len)) in
            let added = counted kind at start (start + len) in
            omega (arith, all, added, count, c.loop-start.invariant.cut.3),
      );
    }

pub loop-start-init : goal.loop-start-init
loop-start-init c = record {
  within = omega arith;
  few = omega arith;
  cut =
      ([], first_place, nothing_cut c.args.src.now, refl);
}

pub loop-start-smaller : goal.loop-start-smaller
loop-start-smaller c =
    let src = c.args.src.now in
    let start = c.loop-start.start in
    let piece = subst (λ l. IsPiece l c.in-Some.found.kind c.in-Some.found.len)
    (rest_is src start) c.in-Some.ensures.some in
    let some = piece_some (drop start src) c.in-Some.found.kind c.in-Some.found.len piece in
    omega (arith, some, c.loop-start-test.true)
