use Rattle.std.proofs.Common.{◌<◌, ◌∙◌, ◌+◌, ◌∷◌, ◌++◌, [], List, map, drop, take, length, sym, ap, arith}
use Rattle.std.proofs.lemmas.List.{map-append, take_more, drop_all, take_all}
use Rattle.std.proofs.lemmas.Result.{err_from_is_err_and}
use Rattle.icl_declarations.specs.Faults.{seen_fault}
use Rattle.icl_declarations.proofs.Each.{more, more_next, more_fails, more_end, fails_along}
use Rattle.icl_elab.specs.SecondPass.{cell_found, cells_of, second_pass}
use Rattle.icl_elab.specs.SeenCells.{PartHead, heads_of_cell, heads_of_frame, seen_cell_parts, seen_pass}
use Rattle.icl_references.specs.Tables.{frames_of, here_at, no_frame}
use Rattle.icl_elab.proofs.Cells.{cells_next, cells_long, here_is}
use Rattle.icl_elab.proofs.pass.add_cells.Goals as goal

pub cell_found-requires : goal.cell_found-requires
cell_found-requires c = here_is c.args.tables.now c.loop-here.here c.requires.tables (omega arith)

pub returns-in_err-cell-clause-gives : goal.returns-in_err-cell-clause-gives
unfolding second_pass
returns-in_err-cell-clause-gives c =
    let p = err_from_is_err_and c.from_residual.result c.from_residual.ensures.1 in
    let frames = frames_of c.args.tables.now in
    let f = cell_found frames in
    let here = c.loop-here.here in
    let e = seen_fault c.in_err-cell.field-0.0 in
    let next = cells_next frames here (omega arith) in
    let fails = more_fails f (seen_pass c.loop-here.cells.items) (here_at frames here)
    (drop (here + 1) (cells_of frames)) e c.in_err-cell.ensures.gives in
    rw (p.1, p.2) (fails_along e _ _
    (sym (ap (more f (seen_pass c.loop-here.cells.items)) next) ∙ c.loop-here.invariant.goes_on) fails)

pub loop-here-preserved : goal.loop-here-preserved
loop-here-preserved c =
    let frames = frames_of c.args.tables.now in
    let f = cell_found frames in
    let here = c.loop-here.here in
    let cell = c.in_ok-cell.cell in
    let lt : here < length frames = omega arith in
    let outs = seen_pass c.loop-here.cells.items in
    let pushed = ap seen_pass c.in_ok-push.ensures.items
    ∙ map-append seen_cell_parts c.loop-here.cells.items (cell ∷ []) in
    record {
      heads = ap (map heads_of_cell) c.in_ok-push.ensures.items
          ∙ map-append heads_of_cell c.loop-here.cells.items (cell ∷ [])
          ∙ ap (λ (l : List (List PartHead)). l ++ heads_of_cell cell ∷ []) c.loop-here.invariant.heads
          ∙ ap (λ (h : List PartHead). map heads_of_frame (take here frames) ++ h ∷ [])
          c.in_ok-cell.ensures.heads
          ∙ sym (ap (map heads_of_frame) (take_more frames here no_frame lt)
          ∙ map-append heads_of_frame (take here frames) ((here_at frames here).frame ∷ []));
      goes_on = ap (λ l. more f l (drop (here + 1) (cells_of frames))) pushed
          ∙ more_next f outs (here_at frames here) (drop (here + 1) (cells_of frames))
          (seen_cell_parts cell) c.in_ok-cell.ensures.gives
          ∙ sym (ap (more f outs) (cells_next frames here lt))
          ∙ c.loop-here.invariant.goes_on;
    }

pub returns-clause-heads : goal.returns-clause-heads
returns-clause-heads c =
    let frames = frames_of c.args.tables.now in
    c.loop-here.invariant.heads ∙ ap (map heads_of_frame) (take_all c.loop-here.here frames (omega arith))

pub returns-clause-gives : goal.returns-clause-gives
unfolding second_pass
returns-clause-gives c =
    let frames = frames_of c.args.tables.now in
    let outs = seen_pass c.loop-here.cells.items in
    sym c.loop-here.invariant.goes_on
    ∙ ap (more (cell_found frames) outs)
    (drop_all c.loop-here.here (cells_of frames) (omega (arith, cells_long frames 0)))
    ∙ more_end (cell_found frames) outs
