-- The words of commands as contracts see them.
use Rattle.ijtag_tools.specs.Command.{Command, Explain, Explains, Listing, Lists, Graphs, Lookup, LooksUp}
use Rattle.ijtag_tools.specs.Command.{Picture, PictureAt, Pictures, PicturesAt, Tighten, Tightens, Wave}
use Rattle.ijtag_tools.specs.Command.{Waves}
use Rattle.ijtag_tools.specs.declared.words.ExplainWords.{ExplainWords}
use Rattle.ijtag_tools.specs.declared.words.GraphWords.{GraphWords}
use Rattle.ijtag_tools.specs.declared.words.PictureWords.{PictureWords}
use Rattle.ijtag_tools.specs.declared.words.PictureAtWords.{PictureAtWords}
use Rattle.ijtag_tools.specs.declared.words.WaveWords.{WaveWords}
use Rattle.ijtag_tools.specs.declared.words.WhereWords.{WhereWords}
use Rattle.ijtag_tools.specs.declared.words.ListWords.{ListWords}
use Rattle.ijtag_tools.specs.declared.words.TightenWords.{TightenWords}
use Rattle.ijtag_tools.specs.declared.words.ToolWords.{ToolWords}
use Rattle.ijtag_tools.specs.declared.words.ToolWords.TheVariants.{List as ListCommand}
use Rattle.ijtag_tools.specs.declared.words.ToolWords.TheVariants.{Explain as ExplainCommand}
use Rattle.ijtag_tools.specs.declared.words.ToolWords.TheVariants.{Where as WhereCommand}
use Rattle.ijtag_tools.specs.declared.words.ToolWords.TheVariants.{Picture as PictureCommand}
use Rattle.ijtag_tools.specs.declared.words.ToolWords.TheVariants.{Graph as GraphCommand}
use Rattle.ijtag_tools.specs.declared.words.ToolWords.TheVariants.{PictureAt as PictureAtCommand}
use Rattle.ijtag_tools.specs.declared.words.ToolWords.TheVariants.{Tighten as TightenCommand}
use Rattle.ijtag_tools.specs.declared.words.ToolWords.TheVariants.{Wave as WaveCommand}
use Rattle.ijtag_work.specs.Words.{seen_network, seen_play, seen_procedure}

abbrev pub seen_list : ListWords → Listing
seen_list words = record { format = words.format; network = seen_network words.network }

abbrev pub seen_tighten : TightenWords → Tighten
seen_tighten words =
    record { how = words.how; procedure = seen_procedure words.procedure; svf = words.svf.now }

abbrev pub seen_explain : ExplainWords → Explain
seen_explain words = record { play = seen_play words.play; new = words.new_svf.now }

abbrev pub seen_where : WhereWords → Lookup
seen_where words = record { play = seen_play words.play; scan = words.scan; bit = words.bit }

abbrev pub seen_picture : PictureWords → Picture
seen_picture words = record { network = seen_network words.network; new = words.picture.now }

abbrev pub seen_graph_words : GraphWords → Picture
seen_graph_words words = record { network = seen_network words.network; new = words.graph.now }

abbrev pub seen_picture_at : PictureAtWords → PictureAt
seen_picture_at words =
    record { format = words.format; play = seen_play words.play; new = words.picture.now; scan = words.scan }

abbrev pub seen_wave : WaveWords → Wave
seen_wave words =
    record { kind = words.kind; play = seen_play words.play; new = words.waves.now; window = words.window }

abbrev pub seen_command : ToolWords → Command
seen_command (ListCommand words) = Lists (seen_list words)
seen_command (ExplainCommand words) = Explains (seen_explain words)
seen_command (WhereCommand words) = LooksUp (seen_where words)
seen_command (PictureCommand words) = Pictures (seen_picture words)
seen_command (GraphCommand words) = Graphs (seen_graph_words words)
seen_command (PictureAtCommand words) = PicturesAt (seen_picture_at words)
seen_command (TightenCommand words) = Tightens (seen_tighten words)
seen_command (WaveCommand words) = Waves (seen_wave words)
