use Rattle.std.proofs.Common.{◌≡◌, ◌++◌, drop}
use Rattle.net_picture.specs.Layout.{row_closes}
use Rattle.net_picture.proofs.draw.draw_rows_to_funnel.Given as goal

abbrev pub invariant-loop-q : goal.invariant-loop-q
invariant-loop-q l =
    l.shapes.items
    ++ row_closes l.funnel.active l.row l.funnel.mux l.q l.funnel.x l.funnel.y (drop l.q l.ends)
    ≡ l.fn.shapes.items ++ row_closes l.funnel.active l.row l.funnel.mux 0 l.funnel.x l.funnel.y l.ends
