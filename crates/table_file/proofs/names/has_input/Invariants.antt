use Rattle.std.proofs.Common.{◌≡◌, map, drop}
use Rattle.instruments.specs.Seen.{seen_port}
use Rattle.table_file.specs.Tables.{stands_in}
use Rattle.table_file.proofs.names.has_input.Given as goal

abbrev pub invariant-loop-d : goal.invariant-loop-d
invariant-loop-d l =
    stands_in l.name (map (λ d. d.name) (map seen_port (drop l.d-index l.ins)))
    ≡ stands_in l.name (map (λ d. d.name) (map seen_port l.ins))
