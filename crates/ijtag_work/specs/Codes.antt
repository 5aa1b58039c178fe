-- The exit status of the process: 0 to 6 in the order of the variants.
use Rattle.std.specs.Prelude.{ℕ}
use Rattle.ijtag_work.specs.declared.status.Status.{Status}
use Rattle.ijtag_work.specs.declared.status.Status.TheVariants.{Good, Differs, Usage, Refused, ReadFault}
use Rattle.ijtag_work.specs.declared.status.Status.TheVariants.{WriteFault, OutOfMemory}

abbrev pub code_of : Status → ℕ
code_of Good = 0
code_of Differs = 1
code_of Usage = 2
code_of Refused = 3
code_of ReadFault = 4
code_of WriteFault = 5
code_of OutOfMemory = 6
