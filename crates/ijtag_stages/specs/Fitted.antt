-- The stage that looks whether the tables fit the network: a table for each instrument, with the ports of the
-- instrument (IEEE 1687-2014, ICL: Instance, DataInPort, DataOutPort).
use Rattle.std.specs.Prelude.{List, Option, Some, None, codes}
use Rattle.bench_file.specs.Fits.{fitted}
use Rattle.bench_file.specs.declared.fault.FitsFault.{FitsFault}
use Rattle.bench_file.specs.declared.fault.FitsFault.TheVariants.{NoTable, ExtraTable, PortWidth, OutOfMemory}
use Rattle.instruments.specs.Seen.{SeenModel}
use Rattle.net_graph.specs.declared.net.Net.{Net}
use Rattle.table_file.specs.Tables.{SeenTable}
use Rattle.ijtag_stages.specs.NetNames.{inst_name}
use Rattle.ijtag_stages.specs.Refusals.{Part, Refusal, refused_at, refused_name}
use Rattle.ijtag_stages.specs.Work.{reported}
use Rattle.ijtag_stages.specs.declared.refusal.Stage.TheVariants.{Fit}

-- how a fault is reported; want of memory is no refusal
abbrev pub fit_refusal : Net → FitsFault → Option Refusal
fit_refusal net (NoTable inst) = Some (refused_name Fit (codes "NoTable") (inst_name net inst))
fit_refusal net (ExtraTable at) = Some (refused_at Fit (codes "ExtraTable") at)
fit_refusal net (PortWidth inst) = Some (refused_name Fit (codes "PortWidth") (inst_name net inst))
fit_refusal net OutOfMemory = None

-- the models of the network's instruments, in its order
unfoldable pub models_of : Net → List SeenTable → Part (List SeenModel)
models_of net tables = reported (fitted net tables) (fit_refusal net)
