use Rattle.std.proofs.Common.{◌≡◌, ◌+◌, ◌++◌, length, drop}
use Rattle.net_graph.specs.Chain.{IsRoute, chain}
use Rattle.net_bench.proofs.network.load_path.Given as goal

abbrev pub invariant-loop-reg : goal.invariant-loop-reg
invariant-loop-reg l = record {
  items : l.into.items ++ chain (drop l.reg-index l.path) l.stages ≡ chain l.path l.stages;
  route : IsRoute (length l.stages) (drop l.reg-index l.path);
  room : length l.into.items + l.into.spare ≡ length l.fn.into.items + l.fn.into.spare;
}
