use Rattle.std.proofs.lemmas.Result.{err_from_is_err_and}
use Rattle.icl_lexer.specs.Views.{seen_prop}
use Rattle.icl_elab.specs.FoundParts.{port_prop}
use Rattle.icl_elab.specs.SeenParts.{seen_resolved}
use Rattle.icl_references.specs.Tables.{frames_of, here_in, seen_member}
use Rattle.icl_declarations.specs.Faults.{seen_fault}
use Rattle.icl_declarations.proofs.Each.{over_stops}
use Rattle.icl_elab.proofs.ports.port_found.Goals as goal

pub returns-in_err-port : goal.returns-in_err-port
returns-in_err-port c =
    let p = err_from_is_err_and c.from_residual.result c.from_residual.ensures.1 in
    let f = port_prop (frames_of c.args.tables.now)
    (here_in c.args.tables.now c.args.here) c.args.kind (seen_member c.args.m.now) in
    rw (p.1, p.2)
    (over_stops seen_prop f c.args.props.now c.loop-prop.prop-index c.prop-item.result
    (seen_resolved c.loop-prop.port) (seen_fault c.in_err-port.field-0.0) _ c.loop-prop-test.true
    c.prop-item.is c.in_err-port.ensures c.loop-prop.invariant)
