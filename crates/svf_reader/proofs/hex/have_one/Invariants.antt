use Rattle.std.proofs.Common.{◌≡◌, take}
use Rattle.ij_bits.specs.BitLists.{has_one}
use Rattle.svf_reader.specs.Values.{hex_bits}
use Rattle.svf_reader.proofs.hex.have_one.Given as goal

abbrev pub invariant-loop-d : goal.invariant-loop-d
invariant-loop-d l = l.one ≡ has_one (hex_bits (take l.d-index l.digits))
