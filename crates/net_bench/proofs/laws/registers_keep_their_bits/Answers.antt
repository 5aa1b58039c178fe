use Rattle.net_bench.proofs.PublicLaws.{is_shaped_first, shaped_is_ready, stays_shaped}
use Rattle.net_bench.proofs.laws.registers_keep_their_bits.Goals as goal

pub returns : goal.returns
returns c = record { power_up = is_shaped_first; clocks = stays_shaped; ready = shaped_is_ready }
