use Rattle.std.proofs.Common.{ap, sym, ◌∙◌}
use Rattle.ij_bits.specs.BitLists.{bit}
use Rattle.net_bench.proofs.Packing.{packed_chain}
use Rattle.net_bench.proofs.network.Network.first.Goals as goal

pub returns : goal.returns
returns c = c.first_of_ring.ensures ∙ sym (ap (λ b. bit b 0) (packed_chain c.args.self.now c.requires))
