use Rattle.std.proofs.Common.{◌∙◌, arith}
use Rattle.pdl_expand.proofs.Walking.{names_but_last, last_name}
use Rattle.pdl_expand.proofs.calls.split_call_path.Goals as goal

pub returns-else-n-eq0-clause-instances : goal.returns-else-n-eq0-clause-instances
returns-else-n-eq0-clause-instances c = names_but_last c.args.names.now

pub returns-else-n-eq0-clause-last : goal.returns-else-n-eq0-clause-last
returns-else-n-eq0-clause-last c = c.as_slice.ensures
    ∙ last_name c.args.names.now c.index-names-n.result (omega (arith, c.if-n-eq0.false)) c.index-names-n.is
