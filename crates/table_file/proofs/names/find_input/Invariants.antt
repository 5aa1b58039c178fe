use Rattle.std.proofs.Common.{◌≡◌, map, drop}
use Rattle.instruments.specs.Seen.{seen_port}
use Rattle.table_file.specs.Tables.{named_from, named}
use Rattle.table_file.proofs.names.find_input.Given as goal

abbrev pub invariant-loop-i : goal.invariant-loop-i
invariant-loop-i l =
    named_from l.i l.name (map (λ d. d.name) (map seen_port (drop l.i l.ins)))
    ≡ named l.name (map (λ d. d.name) (map seen_port l.ins))
