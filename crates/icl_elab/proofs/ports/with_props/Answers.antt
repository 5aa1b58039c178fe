use Rattle.std.proofs.lemmas.Result.{err_from_is_err_and}
use Rattle.icl_lexer.specs.Views.{seen_prop}
use Rattle.icl_elab.specs.FoundParts.{alias_prop}
use Rattle.icl_elab.specs.SeenParts.{seen_resolved}
use Rattle.icl_references.specs.Tables.{frames_of, here_in, seen_member}
use Rattle.icl_declarations.specs.Faults.{seen_fault}
use Rattle.icl_declarations.proofs.Each.{over_stops}
use Rattle.icl_elab.proofs.ports.with_props.Goals as goal

pub returns-in_err-alias : goal.returns-in_err-alias
returns-in_err-alias c =
    let p = err_from_is_err_and c.from_residual.result c.from_residual.ensures.1 in
    let f = alias_prop (frames_of c.args.tables.now)
    (here_in c.args.tables.now c.args.here) (seen_member c.args.m.now) in
    rw (p.1, p.2)
    (over_stops seen_prop f c.args.props.now c.loop-prop.prop-index c.prop-item.result
    (seen_resolved c.loop-prop.alias) (seen_fault c.in_err-alias.field-0.0) _ c.loop-prop-test.true
    c.prop-item.is c.in_err-alias.ensures c.loop-prop.invariant)
