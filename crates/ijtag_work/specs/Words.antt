-- The words of the program as contracts see them: with plain lists.
use Rattle.ijtag_work.specs.Command.{Command, Network, Procedure, Compile, Play, Direct, Run, Make, Migrate}
use Rattle.ijtag_work.specs.Command.{Audit, MuxTest, Compiles, Plays, Directs, Runs, Makes, Migrates, Audits}
use Rattle.ijtag_work.specs.Command.{MuxTests}
use Rattle.ijtag_work.specs.declared.inputs.NetworkWords.{NetworkWords}
use Rattle.ijtag_work.specs.declared.inputs.ProcedureWords.{ProcedureWords}
use Rattle.ijtag_work.specs.declared.inputs.DirectWords.{DirectWords}
use Rattle.ijtag_work.specs.declared.inputs.PlayWords.{PlayWords}
use Rattle.ijtag_work.specs.declared.inputs.AuditWords.{AuditWords}
use Rattle.ijtag_work.specs.declared.words.CompileWords.{CompileWords}
use Rattle.ijtag_work.specs.declared.words.RunWords.{RunWords}
use Rattle.ijtag_work.specs.declared.words.MakeWords.{MakeWords}
use Rattle.ijtag_work.specs.declared.words.MigrateWords.{MigrateWords}
use Rattle.ijtag_work.specs.declared.words.MuxTestWords.{MuxTestWords}
use Rattle.ijtag_work.specs.declared.words.CommandWords.{CommandWords}
use Rattle.ijtag_work.specs.declared.words.CommandWords.TheVariants.{Compile as CompileCommand}
use Rattle.ijtag_work.specs.declared.words.CommandWords.TheVariants.{Play as PlayCommand}
use Rattle.ijtag_work.specs.declared.words.CommandWords.TheVariants.{Direct as DirectCommand}
use Rattle.ijtag_work.specs.declared.words.CommandWords.TheVariants.{Run as RunCommand, Make as MakeCommand}
use Rattle.ijtag_work.specs.declared.words.CommandWords.TheVariants.{Migrate as MigrateCommand}
use Rattle.ijtag_work.specs.declared.words.CommandWords.TheVariants.{Audit as AuditCommand}
use Rattle.ijtag_work.specs.declared.words.CommandWords.TheVariants.{MuxTest as MuxTestCommand}

abbrev pub seen_network : NetworkWords → Network
seen_network words = record { icl = words.icl.now; device = words.device.now; top = words.top.now }

abbrev pub seen_procedure : ProcedureWords → Procedure
seen_procedure words =
    record { network = seen_network words.network; pdl = words.pdl.now; name = words.name.now }

abbrev pub seen_compile : CompileWords → Compile
seen_compile words = record { procedure = seen_procedure words.procedure; svf = words.svf.now }

abbrev pub seen_play : PlayWords → Play
seen_play words =
    record { svf = words.svf.now; network = seen_network words.network; tables = words.tables.now }

abbrev pub seen_direct : DirectWords → Direct
seen_direct words = record { procedure = seen_procedure words.procedure; tables = words.tables.now }

abbrev pub seen_run : RunWords → Run
seen_run words = record { direct = seen_direct words.direct; svf = words.svf.now }

abbrev pub seen_make : MakeWords → Make
seen_make words = record { seed = words.seed; size = words.size; stem = words.stem.now }

abbrev pub seen_migrate : MigrateWords → Migrate
seen_migrate words = record { tables = words.tables.now; written = words.written.now }

abbrev pub seen_audit : AuditWords → Audit
seen_audit words = record { svf = words.svf.now; procedure = seen_procedure words.procedure }

abbrev pub seen_mux_test : MuxTestWords → MuxTest
seen_mux_test words = record { network = seen_network words.network; svf = words.svf.now }

abbrev pub seen_command : CommandWords → Command
seen_command (CompileCommand words) = Compiles (seen_compile words)
seen_command (PlayCommand words) = Plays (seen_play words)
seen_command (DirectCommand words) = Directs (seen_direct words)
seen_command (RunCommand words) = Runs (seen_run words)
seen_command (MakeCommand words) = Makes (seen_make words)
seen_command (MigrateCommand words) = Migrates (seen_migrate words)
seen_command (AuditCommand words) = Audits (seen_audit words)
seen_command (MuxTestCommand words) = MuxTests (seen_mux_test words)
