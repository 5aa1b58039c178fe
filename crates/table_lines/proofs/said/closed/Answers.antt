use Rattle.std.proofs.Common.{◌≤◌, length, ap, sym, ◌∙◌, arith}
use Rattle.std.proofs.lemmas.Bool.Decides.{nat_tests}
use Rattle.table_lines.specs.Words.{closed}
use Rattle.table_lines.proofs.Closing.{not_closed}
use Rattle.table_lines.proofs.said.closed.Goals as goal

pub returns-else-is_empty : goal.returns-else-is_empty
returns-else-is_empty c =
    let some : 1 ≤ length c.in_ok-after.after.now = grind (arith, nat_tests) in
    let pieces = rw c.in_ok-after.was at c.cut_at-cut.ensures.pieces in
    sym (ap closed pieces ∙ not_closed c.cut_at-cut.result.front.now c.in_ok-after.after.now some)
