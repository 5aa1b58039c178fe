use Rattle.net_bench.proofs.Pieces.{none_differ, not_zero}
use Rattle.net_bench.proofs.bench.Played.may_differ.Goals as goal

pub returns : goal.returns
returns c none = none_differ c.args.self.now.piece c.args.self.now.found (not_zero _ none)
