use Rattle.std.proofs.Common.{◌≡◌, map, drop}
use Rattle.instruments.specs.Seen.{seen_out}
use Rattle.table_file.specs.Tables.{stands_in}
use Rattle.table_file.proofs.names.has_out.Given as goal

abbrev pub invariant-loop-d : goal.invariant-loop-d
invariant-loop-d l =
    stands_in l.name (map (λ d. d.name) (map seen_out (drop l.d-index l.outs)))
    ≡ stands_in l.name (map (λ d. d.name) (map seen_out l.outs))
