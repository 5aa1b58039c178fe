-- Graphs as contracts see them: with plain lists.
use Rattle.std.specs.Option.{option_map}
use Rattle.ijtag_stages.specs.Seen.{seen_refusal}
use Rattle.ijtag_tools.specs.Graphs.{Graph, Unnested}
use Rattle.ijtag_tools.specs.declared.unnested.Graph.{Graph as RustGraph}
use Rattle.ijtag_tools.specs.declared.unnested.Unnested.{Unnested as RustUnnested}

abbrev pub seen_unnested : RustUnnested → Unnested
seen_unnested why = record { refusal = seen_refusal why.refusal; cell = why.cell }

abbrev pub seen_graph : RustGraph → Graph
seen_graph graph = record { net = graph.net; unnested = option_map seen_unnested graph.unnested }
