use Rattle.std.proofs.Common.{◌+◌, ◌*◌, arith}
use Rattle.pdl_targets.proofs.Tables.{place_in}
use Rattle.pdl_targets.proofs.rows.RowSets.other_rows_word.Goals as goal

pub returns-then-at-len : goal.returns-then-at-len
returns-then-at-len c j low =
    place_in c.self.inside.stamp c.args.branch.mux c.args.branch.row
    (64 * c.args.w + j) c.self.inside.muxes.items c.args.self.now c.index.result.now _
    (omega arith) c.self.view_is c.index.ensures (c.other_rows_word.ensures j low)
