use Rattle.std.proofs.lemmas.Result.{err_from_is_err_and}
use Rattle.icl_lexer.specs.Views.{seen_bind}
use Rattle.icl_declarations.specs.Faults.{seen_fault}
use Rattle.icl_declarations.proofs.Each.{over_stops}
use Rattle.icl_elab.specs.Bindings.{bind}
use Rattle.icl_references.specs.Tables.{frames_of, here_in}
use Rattle.icl_elab.proofs.bindings.bind_all.Goals as goal

pub returns-in_err-bindings : goal.returns-in_err-bindings
returns-in_err-bindings c =
    let p = err_from_is_err_and c.from_residual.result c.from_residual.ensures.1 in
    let f = bind (frames_of c.args.tables.now) (here_in c.args.tables.now c.args.here)
    (here_in c.args.tables.now c.args.child).frame in
    rw (p.1, p.2)
    (over_stops seen_bind f c.args.binds.now c.loop-binding.binding-index c.binding-item.result
    c.loop-binding.bindings (seen_fault c.in_err-bindings.field-0.0) _ c.loop-binding-test.true
    c.binding-item.is c.in_err-bindings.ensures c.loop-binding.invariant)
