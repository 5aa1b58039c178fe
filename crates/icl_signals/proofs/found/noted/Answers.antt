use Rattle.std.proofs.Common.{◌≡◌, ◌≤◌, ◌+◌, ℕ, List, Option, Some, None, sym, subst}
use Rattle.std.specs.Prelude.{IfSome}
use Rattle.icl_references.specs.Roles.{CellOf}
use Rattle.icl_signals.specs.declared.wires.Wire.{Wire}
use Rattle.icl_signals.specs.declared.found.FoundRun.{FoundRun}
use Rattle.icl_signals.specs.declared.found.Note.{Note}
use Rattle.icl_signals.specs.Wirings.{cells_of}
use Rattle.icl_signals.specs.Alike.{wire_after}
use Rattle.icl_signals.specs.Found.{AreFoundFrom, found_after}
use Rattle.icl_signals.proofs.Beside.{found_on}
use Rattle.icl_signals.proofs.found.noted.Goals as goal

by_part : (cells : List CellOf) (entry wire : Wire) (note : Note) (o : Option FoundRun)
    → AreFoundFrom cells entry note.wire note.run → IfSome o (λ r. 1 ≤ r.count)
    → IfSome o (λ r. (n : ℕ) × (wire ≡ wire_after n note.wire) × (n + r.count ≡ note.run.count)
    × (r.found ≡ found_after n note.run.found)) → IfSome o (λ r. AreFoundFrom cells entry wire r)
by_part cells entry wire note None h some each = tt
by_part cells entry wire note (Some r) h some each =
    subst (λ w. AreFoundFrom cells entry w r) (sym each.1)
    (found_on cells entry each.0 note.wire note.run r h some each.2 each.3)

pub returns : goal.returns
returns c =
    let w = c.args.wiring.now in
    by_part (cells_of w) w.entry c.args.wire c.args.note.now c.part_from.result c.requires
    c.part_from.ensures.count c.part_from.ensures.each
