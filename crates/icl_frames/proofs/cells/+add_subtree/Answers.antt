use Rattle.std.proofs.Common.{◌-◌, ◌<◌, ℕ, List, map, length, Some, sym, ap, subst, ◌∙◌, arith}
use Rattle.std.proofs.lemmas.Result.{err_from_is_err_and}
use Rattle.icl_lexer.specs.Views.{seen_module}
use Rattle.icl_declarations.specs.Faults.{seen_fault, over, Answer, Fails}
use Rattle.icl_declarations.proofs.Each.{over_goes, over_stops}
use Rattle.icl_frames.specs.declared.frames.Request.{Request as RequestAt}
use Rattle.icl_frames.specs.FirstPass.{Progress, Request, add_subtree}
use Rattle.icl_frames.specs.SeenFrames.{names_of, seen_request, seen_progress, seen_stepped, add_cell}
use Rattle.icl_frames.proofs.Levels.{no_level, a_level, below_fails, below_goes}
use Rattle.icl_frames.proofs.cells.+add_subtree.Goals as goal

pub returns-then-levels-eq0-clause-gives : goal.returns-then-levels-eq0-clause-gives
returns-then-levels-eq0-clause-gives t c =
    no_level c.args.levels (map seen_module c.args.modules.now) (names_of c.args.above.now) c.args.parent
    (seen_progress c.args.state) (seen_request c.args.request.now) c.if-levels-eq0.true

pub returns-in_err-stepped-clause-gives : goal.returns-in_err-stepped-clause-gives
returns-in_err-stepped-clause-gives t c =
    let p = err_from_is_err_and c.from_residual-in_err-stepped.result
    c.from_residual-in_err-stepped.ensures.1 in
    let blocks = map seen_module c.args.modules.now in
    let inside = names_of c.as_slice.result.now in
    let s = seen_progress c.args.state in
    let r = seen_request c.args.request.now in
    let levels : 0 < c.args.levels = omega (arith, c.if-levels-eq0.false) in
    let whole = a_level c.args.levels blocks (names_of c.args.above.now) inside c.args.parent s r levels
    (ap names_of c.as_slice.ensures.value ∙ c.in_ok-inside.ensures.ok) in
    rw (p.1, p.2) (below_fails (c.args.levels - 1) blocks inside (length s.frames) (add_cell blocks inside
    c.args.parent s r) (seen_fault c.in_err-stepped.field-0.0) _ whole c.in_err-stepped.ensures.gives)

pub loop-wanted-init : goal.loop-wanted-init
loop-wanted-init t c =
    let blocks = map seen_module c.args.modules.now in
    let inside = names_of c.in_ok-inside.inside.items in
    let s = seen_progress c.args.state in
    let r = seen_request c.args.request.now in
    let stepped = c.in_ok-stepped.stepped in
    let levels : 0 < c.args.levels = omega (arith, c.if-levels-eq0.false) in
    let whole = a_level c.args.levels blocks
    (names_of c.args.above.now) inside c.args.parent s r levels c.in_ok-inside.ensures.ok in
    let gives = ap (λ l. add_cell blocks (names_of l) c.args.parent s r) (sym c.as_slice.ensures.value)
    ∙ c.in_ok-stepped.ensures.gives in
    record {
      few = c.in_ok-stepped.ensures.few;
      goes_on = ap (λ (l : List RequestAt). over (add_subtree (c.args.levels - 1) blocks inside (Some
          stepped.cell))
          (seen_progress stepped.progress) (map seen_request l)) c.as_slice-wanted-items.ensures.value
          ∙ ap (λ (n : ℕ). over (add_subtree (c.args.levels - 1) blocks inside (Some n)) (seen_progress
          stepped.progress) (map seen_request stepped.requests.items)) c.in_ok-stepped.ensures.number
          ∙ below_goes (c.args.levels - 1) blocks inside (length s.frames)
          (add_cell blocks inside c.args.parent s r) (seen_stepped stepped) _ whole gives;
    }

pub returns-in_err-cells-clause-gives : goal.returns-in_err-cells-clause-gives
returns-in_err-cells-clause-gives t c =
    let p = err_from_is_err_and c.from_residual-in_err-cells.result c.from_residual-in_err-cells.ensures.1 in
    let blocks = map seen_module c.args.modules.now in
    let f : Progress → Request → Answer Progress = add_subtree (c.args.levels - 1) blocks
    (names_of c.in_ok-inside.inside.items) (Some c.in_ok-stepped.stepped.cell) in
    let s = seen_progress c.loop-wanted.cells in
    let e = seen_fault c.in_err-cells.field-0.0 in
    let fails = subst (λ l. Fails e (add_subtree (c.args.levels - 1) blocks (names_of l)
    (Some c.in_ok-stepped.stepped.cell) s (seen_request c.wanted-item.result)))
    c.as_slice-in-loop-wanted.ensures.value c.in_err-cells.ensures.gives in
    rw (p.1, p.2) (over_stops seen_request f c.as_slice-wanted-items.result.now c.loop-wanted.wanted-index
    c.wanted-item.result s e _ c.loop-wanted-test.true
    c.wanted-item.is fails c.loop-wanted.invariant.goes_on)

pub loop-wanted-preserved : goal.loop-wanted-preserved
loop-wanted-preserved t c =
    let blocks = map seen_module c.args.modules.now in
    let f : Progress → Request → Answer Progress = add_subtree (c.args.levels - 1) blocks
    (names_of c.in_ok-inside.inside.items) (Some c.in_ok-stepped.stepped.cell) in
    let s = seen_progress c.loop-wanted.cells in
    let gives = ap (λ l. add_subtree (c.args.levels - 1) blocks (names_of l) (Some
    c.in_ok-stepped.stepped.cell) s
    (seen_request c.wanted-item.result)) (sym c.as_slice-in-loop-wanted.ensures.value)
    ∙ c.in_ok-cells.ensures.gives in
    record {
      few = c.in_ok-cells.ensures.few;
      goes_on = over_goes seen_request f c.as_slice-wanted-items.result.now
          c.loop-wanted.wanted-index c.wanted-item.result s
          (seen_progress c.in_ok-cells.cells) c.loop-wanted-test.true c.wanted-item.is gives
          ∙ c.loop-wanted.invariant.goes_on;
    }
