use Rattle.std.proofs.Common.{◌≡◌, ◌<◌, ◌^◌, take}
use Rattle.ij_bits.specs.BitLists.{number_of}
use Rattle.svf_reader.specs.Values.{hex_bits}
use Rattle.svf_reader.proofs.hex.digits_number.Given as goal

abbrev pub invariant-loop-d : goal.invariant-loop-d
invariant-loop-d l =
    record { is : l.value ≡ number_of (hex_bits (take l.d-index l.digits)); fits : l.value < 16 ^ l.d-index }
