use Rattle.std.proofs.Common.{◌≡◌, map, take}
use Rattle.instruments.specs.Seen.{seen_port}
use Rattle.bench_file.specs.Fits.{in_port, cond_moved}
use Rattle.bench_file.proofs.moving.conds_moved.Given as goal

abbrev pub invariant-loop-c : goal.invariant-loop-c
invariant-loop-c l = l.all.items
    ≡ map (cond_moved (map seen_port l.old) (map in_port l.new)) (take l.c-index l.conds)
