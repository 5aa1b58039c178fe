-- Loads, stops and verdicts as contracts see them: with plain lists.
use Rattle.std.specs.Prelude.{◌++◌, ℕ, Bool, true, false, List}
use Rattle.ij_io.specs.declared.fault.StoreFault.{StoreFault}
use Rattle.ij_io.specs.declared.fault.StoreFault.TheVariants.{Failed, OutOfMemory as NoStore}
use Rattle.ijtag_stages.specs.Seen.{seen_refusal}
use Rattle.ijtag_stages.specs.declared.refusal.StageFault.{StageFault}
use Rattle.ijtag_stages.specs.declared.refusal.StageFault.TheVariants.{Refused as RefusedStage}
use Rattle.ijtag_stages.specs.declared.refusal.StageFault.TheVariants.{OutOfMemory as MemoryStage}
use Rattle.ijtag_work.specs.Loads.{Load, source, svf_file}
use Rattle.ijtag_work.specs.Stops.{Stop, Usage, Refuses, ReadFault, WriteFault, OutputFault, NoMemory}
use Rattle.ijtag_work.specs.declared.load.Load.{Load as LoadWords}
use Rattle.ijtag_work.specs.declared.load.Load.TheVariants.{Source as SourceLoad, Svf as SvfLoad}
use Rattle.ijtag_work.specs.declared.names.MadeName.{MadeName}
use Rattle.ijtag_work.specs.declared.status.Verdict.{Verdict}
use Rattle.ijtag_work.specs.declared.status.Verdict.TheVariants.{Agrees as Agreeing, Differs as Differing}
use Rattle.ijtag_work.specs.declared.stop.Stop.{Stop as RustStop}
use Rattle.ijtag_work.specs.declared.stop.Stop.TheVariants.{Usage as UsageStop, Refused as RefusedStop}
use Rattle.ijtag_work.specs.declared.stop.Stop.TheVariants.{ReadFault as ReadStop, WriteFault as WriteStop}
use Rattle.ijtag_work.specs.declared.stop.Stop.TheVariants.{WriteMade as WriteMadeStop}
use Rattle.ijtag_work.specs.declared.stop.Stop.TheVariants.{OutputFault as OutputStop}
use Rattle.ijtag_work.specs.declared.stop.Stop.TheVariants.{OutOfMemory as MemoryStop}

abbrev pub seen_load : LoadWords → Load
seen_load (SourceLoad name) = source name.now
seen_load (SvfLoad name) = svf_file name.now

abbrev pub seen_made_name : MadeName → List ℕ
seen_made_name name = name.stem.now ++ name.ending.now

abbrev pub seen_stop : RustStop → Stop
seen_stop UsageStop = Usage
seen_stop (RefusedStop refusal) = Refuses (seen_refusal refusal)
seen_stop (ReadStop name) = ReadFault name.now
seen_stop (WriteStop name) = WriteFault name.now
seen_stop (WriteMadeStop name) = WriteFault (seen_made_name name)
seen_stop OutputStop = OutputFault
seen_stop MemoryStop = NoMemory

-- a stage's fault as a stop
abbrev pub stop_from : StageFault → RustStop
stop_from (RefusedStage refusal) = RefusedStop refusal
stop_from MemoryStage = MemoryStop

-- a refused write of a file, or of the output, as a stop
abbrev pub file_stop : List ℕ → StoreFault → Stop
file_stop name Failed = WriteFault name
file_stop name NoStore = NoMemory

abbrev pub output_stop : StoreFault → Stop
output_stop Failed = OutputFault
output_stop NoStore = NoMemory

-- whether a compare differs
abbrev pub differing : Verdict → Bool
differing Agreeing = false
differing Differing = true
