use Rattle.std.proofs.Common.{◌≡◌, ◌++◌, map, take}
use Rattle.pdl_parser.specs.Views.{bytes_of}
use Rattle.pdl_expand.specs.SeenWays.{names_of}
use Rattle.pdl_expand.proofs.ways.full_path.Given as goal

abbrev pub invariant-loop-name : goal.invariant-loop-name
invariant-loop-name l = names_of l.names.items ≡ map bytes_of (take l.name-index l.prefix)

abbrev pub invariant-loop-name-2 : goal.invariant-loop-name-2
invariant-loop-name-2 l = names_of l.names.items
    ≡ map bytes_of l.prefix ++ map bytes_of (take l.name-index l.path)
