use Rattle.std.proofs.Common.{◌≡◌, ◌+◌, length, drop}
use Rattle.net_graph.specs.Chain.{IsRoute, chain, put_chain}
use Rattle.net_bench.proofs.network.unload_path.Given as goal

abbrev pub invariant-loop-reg : goal.invariant-loop-reg
invariant-loop-reg l = record {
  rest : put_chain (drop l.reg-index l.path) (drop l.at l.from.items) l.into
      ≡ put_chain l.path l.from.items l.fn.into;
  route : IsRoute (length l.into) (drop l.reg-index l.path);
  fits : l.at + length (chain (drop l.reg-index l.path) l.into) ≡ length l.from.items;
}
