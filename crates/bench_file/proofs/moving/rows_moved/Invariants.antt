use Rattle.std.proofs.Common.{◌≡◌, map, take}
use Rattle.instruments.specs.Seen.{seen_port, seen_row}
use Rattle.bench_file.specs.Fits.{in_port, row_moved}
use Rattle.bench_file.proofs.moving.rows_moved.Given as goal

abbrev pub invariant-loop-row : goal.invariant-loop-row
invariant-loop-row l = map seen_row l.all.items
    ≡ map (row_moved (map seen_port l.old) (map in_port l.new)) (map seen_row (take l.row-index l.rows))
