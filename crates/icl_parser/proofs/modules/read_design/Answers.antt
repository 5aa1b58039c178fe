use Rattle.std.proofs.Common.{◌∙◌}
use Rattle.std.proofs.lemmas.Result.{err_from_is_err_and}
use Rattle.ij_bits.specs.Room.{seen_list}
use Rattle.icl_lexer.specs.Views.{seen_module}
use Rattle.icl_expressions.specs.Seen.{seen_read}
use Rattle.icl_parser.proofs.Verdicts.{begins_any, begins_none, modules_go_on, design_fails, design_ends}
use Rattle.icl_parser.proofs.modules.read_design.Goals as goal

pub loop-alloc-preserved : goal.loop-alloc-preserved
loop-alloc-preserved c =
    modules_go_on (seen_list seen_module c.loop-alloc.modules.value) c.loop-alloc.modules.rest
    (seen_read (seen_list seen_module) c.in_ok-modules.modules)
    (begins_any c.is_empty.result c.loop-alloc.modules.rest c.is_empty.ensures c.loop-alloc-test.true)
    c.in_ok-modules.ensures.gives
    ∙ c.loop-alloc.invariant

pub returns-in_err-modules : goal.returns-in_err-modules
returns-in_err-modules c =
    let p = err_from_is_err_and c.from_residual.result c.from_residual.ensures.1 in
    rw (p.1, p.2)
    (design_fails c.args.tokens (seen_list seen_module c.loop-alloc.modules.value)
    c.loop-alloc.modules.rest c.in_err-modules.field-0.0
    (begins_any c.is_empty.result c.loop-alloc.modules.rest c.is_empty.ensures c.loop-alloc-test.true)
    c.in_err-modules.ensures.gives c.loop-alloc.invariant)

pub returns : goal.returns
returns c =
    design_ends c.args.tokens (seen_list seen_module c.loop-alloc.modules.value) c.loop-alloc.modules.rest
    (begins_none c.is_empty.result c.loop-alloc.modules.rest c.is_empty.ensures c.loop-alloc-test.false)
    c.loop-alloc.invariant
