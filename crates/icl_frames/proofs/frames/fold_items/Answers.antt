use Rattle.std.proofs.Common.{◌+◌, ◌++◌, ◌∷◌, [], List, map, take, drop, sym, ap, subst, ◌∙◌}
use Rattle.std.proofs.lemmas.Result.{err_from_is_err_and}
use Rattle.icl_lexer.specs.Values.{SeenItem}
use Rattle.icl_lexer.specs.Views.{seen_item, seen_module}
use Rattle.icl_declarations.specs.Faults.{seen_fault, over, Answer}
use Rattle.icl_declarations.specs.Tables.{seen_table}
use Rattle.icl_declarations.proofs.Each.{over_goes, over_stops}
use Rattle.icl_frames.specs.FirstPass.{Passed, fold_item}
use Rattle.icl_declarations.specs.Taken.{AreTaken}
use Rattle.icl_frames.specs.SeenFrames.{names_of, seen_passed}
use Rattle.icl_frames.proofs.Passing.{taken_more}
use Rattle.icl_frames.proofs.frames.fold_items.Goals as goal

pub returns-in_err-state-clause-gives : goal.returns-in_err-state-clause-gives
returns-in_err-state-clause-gives c =
    let p = err_from_is_err_and c.from_residual.result c.from_residual.ensures.1 in
    let before : List SeenItem = map seen_item (take c.loop-item.item-index c.args.items.now) in
    let f : Passed → SeenItem → Answer Passed = fold_item (map seen_module c.args.modules.now)
    (names_of c.args.above.now) (seen_table c.args.params.now) in
    rw (p.1, p.2)
    (over_stops seen_item f c.args.items.now c.loop-item.item-index c.item-item.result (seen_passed before
    c.loop-item.state) (seen_fault c.in_err-state.field-0.0) _ c.loop-item-test.true c.item-item.is
    (c.in_err-state.ensures.gives before c.loop-item.invariant.taken) c.loop-item.invariant.goes_on)

pub loop-item-preserved : goal.loop-item-preserved
loop-item-preserved c =
    let before : List SeenItem = map seen_item (take c.loop-item.item-index c.args.items.now) in
    let f : Passed → SeenItem → Answer Passed = fold_item (map seen_module c.args.modules.now)
    (names_of c.args.above.now) (seen_table c.args.params.now) in
    let more = taken_more seen_item c.args.items.now c.loop-item.item-index
    c.item-item.result c.loop-item-test.true c.item-item.is in
    let next = c.in_ok-state.state in
    let g = c.in_ok-state.ensures.gives before c.loop-item.invariant.taken in
    record {
      few = c.in_ok-state.ensures.few;
      taken = subst (AreTaken next.taken) (sym more)
          (c.in_ok-state.ensures.taken before c.loop-item.invariant.taken);
      goes_on = ap (λ (l : List SeenItem). over f (seen_passed l next)
          (map seen_item (drop (c.loop-item.item-index + 1) c.args.items.now))) more
          ∙ over_goes seen_item f c.args.items.now c.loop-item.item-index c.item-item.result
          (seen_passed before c.loop-item.state) (seen_passed
          (before ++ seen_item c.item-item.result ∷ []) next) c.loop-item-test.true c.item-item.is g
          ∙ c.loop-item.invariant.goes_on;
    }
