use Rattle.std.proofs.Common.{◌∙◌}
use Rattle.std.proofs.lemmas.Result.{err_from_is_err_and}
use Rattle.icl_lexer.specs.Views.{bytes_of}
use Rattle.icl_elab.specs.FoundParts.{port_number}
use Rattle.icl_references.specs.Tables.{frames_of, here_in}
use Rattle.icl_declarations.specs.Faults.{seen_fault}
use Rattle.icl_elab.proofs.Rounds.{plain_goes, plain_fails}
use Rattle.icl_elab.proofs.links.port_numbers.Goals as goal

pub returns-in_err-number : goal.returns-in_err-number
returns-in_err-number c =
    let p = err_from_is_err_and c.from_residual.result c.from_residual.ensures.1 in
    let f = port_number (frames_of c.args.tables.now) (here_in c.args.tables.now c.args.here) c.args.at in
    rw (p.1, p.2)
    (plain_fails bytes_of f c.args.names.now c.loop-name.name-index c.name-item.result
    c.loop-name.numbers.items (seen_fault c.in_err-number.field-0.0) _ c.loop-name-test.true
    c.name-item.is c.in_err-number.ensures c.loop-name.invariant)

pub loop-name-preserved : goal.loop-name-preserved
loop-name-preserved c =
    let f = port_number (frames_of c.args.tables.now) (here_in c.args.tables.now c.args.here) c.args.at in
    plain_goes bytes_of f c.args.names.now c.loop-name.name-index c.name-item.result c.loop-name.numbers.items
    c.push.new.self.items c.in_ok-number.number c.loop-name-test.true c.name-item.is
    c.in_ok-number.ensures c.in_ok-push.ensures.ok
    ∙ c.loop-name.invariant
