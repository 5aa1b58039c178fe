use Rattle.std.proofs.Common.{sym}
use Rattle.bench_file.proofs.Misfits.{other_length}
use Rattle.bench_file.proofs.fitting.same_path.Goals as goal

pub returns-then-path-other : goal.returns-then-path-other
returns-then-path-other c = sym (other_length c.args.path.now c.args.other.now c.if-path-other.true)
