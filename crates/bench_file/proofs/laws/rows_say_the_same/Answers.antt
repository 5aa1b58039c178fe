use Rattle.bench_file.proofs.Arranging.{rows_say_the_same}
use Rattle.bench_file.proofs.laws.rows_say_the_same.Goals as goal

pub returns : goal.returns
returns c = rows_say_the_same
