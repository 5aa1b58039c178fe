use Rattle.std.proofs.Common.{◌∙◌, arith}
use Rattle.icl_parser.proofs.Verdicts.{rest_later}
use Rattle.icl_parser.proofs.parsing.rest_of.Goals as goal

pub loop-rest-preserved : goal.loop-rest-preserved
loop-rest-preserved c = rest_later c.loop-rest.rest c.after_first-rest.result c.args.left
    (omega (arith, c.len.ensures, c.loop-rest-test.true)) c.after_first-rest.ensures ∙ c.loop-rest.invariant
