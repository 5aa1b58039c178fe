-- What a scan goes through, as the code has it.
use Rattle.net_bench.specs.Board.{seen_register}
use Rattle.svf_notes.specs.declared.note.ScanTarget.{ScanTarget}
use Rattle.svf_notes.specs.declared.note.ScanTarget.TheVariants.{Instruction as IsInstruction, Data as IsData}
use Rattle.svf_notes.specs.Notes.{Target, Instruction, Data}

abbrev pub seen_target : ScanTarget → Target
seen_target IsInstruction = Instruction
seen_target (IsData register) = Data (seen_register register)
