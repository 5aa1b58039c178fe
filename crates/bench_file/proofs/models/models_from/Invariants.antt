use Rattle.std.proofs.Common.{◌≡◌, ◌+◌, ◌≤◌, length, map, drop}
use Rattle.instruments.specs.Seen.{seen_model}
use Rattle.table_file.specs.Tables.{seen_table}
use Rattle.bench_file.specs.Fits.{models_from}
use Rattle.bench_file.proofs.Modelling.{with_front}
use Rattle.bench_file.proofs.models.models_from.Given as goal

abbrev pub invariant-loop-i : goal.invariant-loop-i
invariant-loop-i l = record {
  same : with_front (map seen_model l.models.items)
      (models_from l.net (map seen_table l.tables) l.i (drop l.i l.net.insts.items))
      ≡ models_from l.net (map seen_table l.tables) 0 l.net.insts.items;
  room : length l.net.insts.items ≤ l.models.spare + l.i;
}
