use Rattle.std.proofs.Common.{arith}
use Rattle.pdl_targets.proofs.Kept.{with_rows}
use Rattle.pdl_targets.proofs.gather.Gathered.apply.Goals as goal

pub returns-clause-kept : goal.returns-clause-kept
returns-clause-kept c = λ net kept. c.applied.ensures.kept net
    (with_rows net c.args.self.now c.groups.new.rows kept) (omega arith)
