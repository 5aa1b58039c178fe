use Rattle.std.proofs.Common.{List, ℕ, subst}
use Rattle.std.proofs.lemmas.Result.{err_from_is_err_and}
use Rattle.icl_declarations.specs.Faults.{Fails, seen_fault}
use Rattle.icl_references.specs.Tables.{frames_of, here_in}
use Rattle.icl_references.specs.Targets.{child_named}
use Rattle.icl_references.proofs.Steps.{stops_at}
use Rattle.icl_references.proofs.paths.path_from.Goals as goal

pub returns-in_err-cell : goal.returns-in_err-cell
returns-in_err-cell c =
    let p = err_from_is_err_and c.from_residual.result c.from_residual.ensures.1 in
    let t = c.args.tables.now in
    let e = seen_fault c.in_err-cell.field-0.0 in
    let here = here_in t c.loop-name.cell in
    let h = subst (λ (n : List ℕ). Fails e (child_named (frames_of t) here c.args.at n))
    c.as_slice.ensures c.in_err-cell.ensures.gives in
    rw (p.1, p.2)
    (stops_at (frames_of t) here c.args.at c.in-Some.parts.1.now c.loop-name.name-index c.name-item.result
    c.in-Some.parts.0.now.items e _ c.loop-name-test.true c.name-item.is h c.loop-name.invariant.goes_on)
