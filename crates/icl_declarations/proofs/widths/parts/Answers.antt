use Rattle.std.proofs.lemmas.Result.{err_from_is_err_and}
use Rattle.ij_text.specs.Numbers.{tern_bits}
use Rattle.icl_lexer.specs.Views.{seen_expr}
use Rattle.std.proofs.Common.{◌∙◌}
use Rattle.icl_declarations.specs.Faults.{seen_fault}
use Rattle.icl_declarations.specs.Tables.{seen_table}
use Rattle.icl_declarations.specs.Widths.{one_part}
use Rattle.icl_declarations.proofs.Each.{round_goes, round_fails}
use Rattle.icl_declarations.proofs.widths.parts.Goals as goal

pub returns-in_err-part : goal.returns-in_err-part
returns-in_err-part c =
    let p = err_from_is_err_and c.from_residual.result c.from_residual.ensures.1 in
    rw (p.1, p.2)
    (round_fails seen_expr tern_bits (one_part (seen_table c.args.params.now) c.args.holder) c.args.es.now
    c.loop-e.e-index c.e-item.result c.loop-e.parts.items (seen_fault c.in_err-part.field-0.0) _
    c.loop-e-test.true c.e-item.is c.in_err-part.ensures c.loop-e.invariant)

pub loop-e-preserved : goal.loop-e-preserved
loop-e-preserved c =
    round_goes seen_expr tern_bits (one_part (seen_table c.args.params.now) c.args.holder) c.args.es.now
    c.loop-e.e-index c.e-item.result c.loop-e.parts.items c.push.new.self.items c.in_ok-part.part
    c.loop-e-test.true c.e-item.is c.in_ok-part.ensures c.in_ok-push.ensures.items
    ∙ c.loop-e.invariant
