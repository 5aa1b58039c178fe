-- The stage of the device's text (IEEE 1149.1-2013; IEEE 1687-2014, ICL: AccessLink).
use Rattle.std.specs.Prelude.{ℕ, List, Option, Some, None, codes}
use Rattle.bench_file.specs.Device.{device}
use Rattle.net_graph.specs.declared.device.Device.{Device as TheDevice}
use Rattle.bench_file.specs.declared.fault.DeviceFault.{DeviceFault}
use Rattle.bench_file.specs.declared.fault.DeviceFault.TheVariants.{DevSyntax, OpcodeWide, OpcodeOnes}
use Rattle.bench_file.specs.declared.fault.DeviceFault.TheVariants.{OpcodeTwice, OutOfMemory}
use Rattle.ijtag_stages.specs.Refusals.{Part, Refusal, refused_at}
use Rattle.ijtag_stages.specs.Work.{reported}
use Rattle.ijtag_stages.specs.declared.refusal.Stage.TheVariants.{Device}

-- how a fault is reported; want of memory is no refusal
abbrev pub device_fault : DeviceFault → Option Refusal
device_fault (DevSyntax at) = Some (refused_at Device (codes "DevSyntax") at)
device_fault (OpcodeWide at) = Some (refused_at Device (codes "OpcodeWide") at)
device_fault (OpcodeOnes at) = Some (refused_at Device (codes "OpcodeOnes") at)
device_fault (OpcodeTwice at) = Some (refused_at Device (codes "OpcodeTwice") at)
device_fault OutOfMemory = None

-- what the lines say
unfoldable pub device_text : List ℕ → Part TheDevice
device_text text = reported (device text) device_fault
