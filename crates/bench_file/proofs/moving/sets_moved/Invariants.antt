use Rattle.std.proofs.Common.{◌≡◌, map, take}
use Rattle.instruments.specs.Seen.{seen_port}
use Rattle.bench_file.specs.Fits.{in_port, set_moved}
use Rattle.bench_file.proofs.moving.sets_moved.Given as goal

abbrev pub invariant-loop-x : goal.invariant-loop-x
invariant-loop-x l = l.all.items
    ≡ map (set_moved (map seen_port l.old) (map in_port l.new)) (take l.x-index l.sets)
