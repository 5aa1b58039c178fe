use Rattle.std.proofs.Common.{◌≡◌, ◌+◌, ◌++◌, length, drop}
use Rattle.net_graph.specs.Chain.{IsRoute, chain}
use Rattle.svf_audit.proofs.registers.find_chain.Given as goal

abbrev pub invariant-loop-reg : goal.invariant-loop-reg
invariant-loop-reg l =
    record {
      items : l.into.items ++ chain (drop l.reg-index l.path) l.holds ≡ chain l.path l.holds;
      route : IsRoute (length l.holds) (drop l.reg-index l.path);
      room : length l.into.items + l.into.spare ≡ length l.fn.into.items + l.fn.into.spare;
    }
