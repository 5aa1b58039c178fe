use Rattle.std.proofs.Common.{◌∙◌, List, ap}
use Rattle.icl_elab.specs.declared.pass.CellParts.{CellParts}
use Rattle.icl_elab.specs.Placing.{made, ports_from}
use Rattle.icl_elab.specs.SeenCells.{seen_pass}
use Rattle.icl_references.specs.Tables.{frames_of}
use Rattle.icl_elab.proofs.Placement.{cells_are}
use Rattle.icl_elab.proofs.hierarchy.put_together.Goals as goal

pub returns-in_ok-cells-in-Ok-clause-ok : goal.returns-in_ok-cells-in-Ok-clause-ok
returns-in_ok-cells-in-Ok-clause-ok c =
    let frames = frames_of c.args.tables.now in
    let cells = c.args.cells.items in
    c.in_ok-cells-in-Ok.ensures
    ∙ ap (made frames cells) (c.in-Ok.ensures.ok
    ∙ ap (λ (cs : List CellParts). ports_from (seen_pass cs) 0 frames cs) c.deref.ensures.value)
    ∙ cells_are (seen_pass cells) 0 frames cells c.requires.heads
