use Rattle.std.proofs.Common.{◌≡◌, ◌+◌, ◌++◌, take}
use Rattle.std.specs.Prelude.{map}
use Rattle.instruments.specs.Machine.{count_log}
use Rattle.pdl_meaning.specs.Direct.{found}
use Rattle.pdl_meaning.specs.States.{with_reads}
use Rattle.instruments.specs.Runners.{machines_of}
use Rattle.pdl_meaning.proofs.direct.read_all.Given as goal

abbrev pub invariant-loop-read : goal.invariant-loop-read
invariant-loop-read l = record {
  items : l.into.items ≡ l.fn.into.items ++ map (found count_log l.values.net (machines_of l.values.models)
      (with_reads l.values l.fn.into.items)) (take l.read-index l.reads);
  spare : l.into.spare + l.read-index ≡ l.fn.into.spare;
}
