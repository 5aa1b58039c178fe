-- How the bits of a part of a scan lie.
use Rattle.std.specs.Prelude.{Bool, ◌<◌, ◌≤◌, ◌^◌, List, Option, Some, None}
use Rattle.std.specs.Coded.{Coded, coded_bool, coded_list, coded_option}
use Rattle.ij_bits.specs.BitLists.{bits_of}
use Rattle.svf_writer.specs.declared.part.Stored.{Stored}
use Rattle.svf_writer.specs.declared.part.Stored.TheVariants.{Absent, Word, List as Listing}

abbrev pub seen_part : Stored → Option (List Bool)
seen_part Absent = None
seen_part (Word count bits) = Some (bits_of count bits)
seen_part (Listing bits) = Some bits.value.items

-- a number has no bit above
abbrev pub IsStored : Stored → Type 0
IsStored Absent = Unit {0}
IsStored (Word count bits) = (count ≤ 64) × (bits < 2 ^ count)
IsStored (Listing bits) = Unit {0}

abbrev pub bits_code : Coded (Option (List Bool))
bits_code = coded_option (coded_list coded_bool)
