-- What is left to do gives what all rounds give, and there is room for what is left to read.
use Rattle.std.proofs.Common.{◌≡◌, ◌≤◌, drop}
use Rattle.std.specs.Prelude.{map}
use Rattle.instruments.specs.Machine.{count_log}
use Rattle.net_graph.specs.SeenSteps.{seen_group}
use Rattle.pdl_meaning.specs.Direct.{do_rounds}
use Rattle.pdl_meaning.specs.States.{reads_of, with_reads}
use Rattle.instruments.specs.Runners.{machines_of}
use Rattle.pdl_meaning.proofs.direct.do_all_rounds.Given as goal

abbrev pub invariant-loop-group : goal.invariant-loop-group
invariant-loop-group l =
    let machines = machines_of l.fn.values.models in
    record {
      net : l.values.net ≡ l.fn.values.net;
      models : l.values.models ≡ l.fn.values.models;
      room : reads_of (map seen_group (drop l.group-index l.rounds)) ≤ l.reads.spare;
      state : do_rounds count_log l.fn.values.net machines (with_reads l.values l.reads.items)
          (map seen_group (drop l.group-index l.rounds))
          ≡ do_rounds count_log l.fn.values.net machines
          (with_reads l.fn.values l.fn.reads.items) (map seen_group l.rounds);
    }
