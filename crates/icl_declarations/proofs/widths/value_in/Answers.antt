use Rattle.icl_lexer.specs.Views.{seen_expr}
use Rattle.icl_declarations.specs.Tables.{seen_table}
use Rattle.icl_declarations.proofs.OneOrSeveral.{of_one, of_several}
use Rattle.icl_declarations.proofs.widths.value_in.Goals as goal

pub returns-then-es-eq1 : goal.returns-then-es-eq1
returns-then-es-eq1 c = rw (of_one seen_expr (seen_table c.args.params.now) c.args.holder c.args.width
    c.args.es.now c.index-es-0.result c.if-es-eq1.true c.index-es-0.is) c.lone_value.ensures

pub returns-else-es-eq1 : goal.returns-else-es-eq1
returns-else-es-eq1 c = rw (of_several seen_expr (seen_table c.args.params.now) c.args.holder c.args.width
    c.args.es.now c.if-es-eq1.false) c.parts_value.ensures
