use Rattle.std.proofs.Common.{[], sym, subst, map}
use Rattle.icl_references.specs.Overlaps.{AreRowsAlike}
use Rattle.icl_references.specs.Roles.{seen_row}
use Rattle.icl_references.specs.Tables.{frames_of, here_in}
use Rattle.icl_lexer.specs.Views.{seen_row as seen_text}
use Rattle.icl_references.proofs.RowWidths.{rows_alike}
use Rattle.icl_references.proofs.muxes.mux_role.Goals as goal

pub some_meet-requires : goal.some_meet-requires
some_meet-requires c =
    let t = c.args.tables.now in
    subst (λ l. AreRowsAlike [] (map seen_row l)) (sym c.as_slice.ensures)
    (rows_alike (frames_of t) (here_in t c.args.here) c.args.at c.in_ok-width.width
    (map seen_text c.args.rows.now) (map seen_row c.in_ok-rows.rows.items) c.in_ok-rows.ensures)
