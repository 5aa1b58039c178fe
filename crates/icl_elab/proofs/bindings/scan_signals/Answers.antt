use Rattle.std.proofs.Common.{◌∙◌}
use Rattle.std.proofs.lemmas.Result.{err_from_is_err_and}
use Rattle.icl_lexer.specs.Views.{seen_sig}
use Rattle.icl_declarations.specs.Faults.{seen_fault}
use Rattle.icl_references.specs.Signals.{scan_signal}
use Rattle.icl_references.specs.Tables.{frames_of, here_in}
use Rattle.icl_elab.proofs.Rounds.{plain_goes, plain_fails}
use Rattle.icl_elab.proofs.bindings.scan_signals.Goals as goal

pub returns-in_err-bit : goal.returns-in_err-bit
returns-in_err-bit c =
    let p = err_from_is_err_and c.from_residual.result c.from_residual.ensures.1 in
    let f = scan_signal (frames_of c.args.tables.now) (here_in c.args.tables.now c.args.here) in
    rw (p.1, p.2)
    (plain_fails seen_sig f c.args.sigs.now c.loop-sig.sig-index c.sig-item.result c.loop-sig.refs.items
    (seen_fault c.in_err-bit.field-0.0) _ c.loop-sig-test.true c.sig-item.is
    c.in_err-bit.ensures c.loop-sig.invariant)

pub loop-sig-preserved : goal.loop-sig-preserved
loop-sig-preserved c =
    let f = scan_signal (frames_of c.args.tables.now) (here_in c.args.tables.now c.args.here) in
    plain_goes seen_sig f c.args.sigs.now c.loop-sig.sig-index c.sig-item.result c.loop-sig.refs.items
    c.push.new.self.items c.in_ok-bit.bit c.loop-sig-test.true c.sig-item.is
    c.in_ok-bit.ensures c.in_ok-push.ensures.ok
    ∙ c.loop-sig.invariant
