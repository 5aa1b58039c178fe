use Rattle.std.proofs.Common.{◌≡◌, ◌++◌, map, drop}
use Rattle.pdl_parser.specs.Views.{bytes_of}
use Rattle.pdl_expand.specs.Expansion.{dotted}
use Rattle.pdl_expand.proofs.indices.put_names.Given as goal

abbrev pub invariant-loop-name : goal.invariant-loop-name
invariant-loop-name l = l.text.items ++ dotted (map bytes_of (drop l.name-index l.names))
    ≡ l.fn.text.items ++ dotted (map bytes_of l.names)
