use Rattle.std.proofs.Common.{◌++◌, ◌∷◌, [], List, map, take, sym, ap, subst, ◌∙◌}
use Rattle.std.proofs.lemmas.List.{map-append}
use Rattle.icl_frames.specs.FirstPass.{Frame}
use Rattle.icl_frames.specs.SeenFrames.{seen_frame}
use Rattle.icl_frames.proofs.Passing.{taken_more}
use Rattle.icl_references.specs.declared.tables.CellTable.{CellTable}
use Rattle.icl_references.specs.Tables.{AreCellTables, IsCellTable, frames_in}
use Rattle.icl_references.proofs.Everywhere.{one_more}
use Rattle.icl_references.proofs.tables.cell_tables.Goals as goal

pub loop-frame-preserved : goal.loop-frame-preserved
loop-frame-preserved c =
    let cells = c.loop-frame.cells.items in
    let cell = c.in_ok-cell.cell in
    let frames = c.args.frames.now in
    let i = c.loop-frame.frame-index in
    record {
      tables = subst AreCellTables (sym c.in_ok-push.ensures.items)
          (one_more IsCellTable cells cell c.loop-frame.invariant.tables c.in_ok-cell.ensures.table);
      frames = ap frames_in c.in_ok-push.ensures.items
          ∙ map-append (λ (x : CellTable). seen_frame x.frame.now) cells (cell ∷ [])
          ∙ ap (λ (l : List Frame). l ++ seen_frame cell.frame.now ∷ []) c.loop-frame.invariant.frames
          ∙ ap (λ (f : Frame). map seen_frame (take i frames) ++ f ∷ []) c.in_ok-cell.ensures.frame
          ∙ sym (taken_more seen_frame frames i c.frame-item.result c.loop-frame-test.true c.frame-item.is);
    }
