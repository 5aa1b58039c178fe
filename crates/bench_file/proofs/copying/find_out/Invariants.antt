use Rattle.std.proofs.Common.{◌≡◌, map, drop}
use Rattle.instruments.specs.Seen.{seen_out}
use Rattle.table_file.specs.Tables.{named_from, named}
use Rattle.bench_file.proofs.copying.find_out.Given as goal

abbrev pub invariant-loop-i : goal.invariant-loop-i
invariant-loop-i l =
    named_from l.i l.name (map (λ d. d.name) (map seen_out (drop l.i l.outs)))
    ≡ named l.name (map (λ d. d.name) (map seen_out l.outs))
