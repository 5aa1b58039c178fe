-- The scan of three lists of bits.
use Rattle.std.specs.Prelude.{Bool, List, length, Some, None}
use Rattle.svf_writer.specs.SeenCommands.{SeenScan}

-- what is shifted in, and nothing is compared
abbrev pub quiet_scan : List Bool → SeenScan
quiet_scan tdi = record { len = length tdi; tdi = Some tdi; tdo = None; mask = None; smask = None }

-- what is shifted in, what is expected, and where that is compared
abbrev pub comparing_scan : List Bool → List Bool → List Bool → SeenScan
comparing_scan tdi tdo mask =
    record { len = length tdi; tdi = Some tdi; tdo = Some tdo; mask = Some mask; smask = None }
