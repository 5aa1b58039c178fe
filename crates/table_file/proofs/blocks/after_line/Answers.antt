use Rattle.std.proofs.Common.{subst, sym}
use Rattle.instruments.specs.Seen.{SeenModel, seen_model}
use Rattle.table_lines.specs.SeenSaid.{seen_said}
use Rattle.table_file.specs.Small.{IsSmall}
use Rattle.table_file.proofs.Within.{small_after}
use Rattle.table_file.proofs.blocks.after_line.Goals as goal

pub returns-clause-small : goal.returns-clause-small
returns-clause-small c =
    let m = seen_model c.args.b.now.model in
    subst (λ (after : SeenModel). IsSmall after) (sym c.in_ok-with_line.ensures)
    (small_after m (seen_said c.args.l.now) c.requires (c.line_fault.ensures.limit c.in_default.is))
