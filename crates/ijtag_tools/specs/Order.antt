-- The table of commands of the second program: what each loads, writes and prints, and what it leaves of what
-- its texts are accepted as. The texts are accepted as those of the first program.
use Rattle.std.specs.Prelude.{◌≡◌, ◌<◌, ◌≤◌, ◌-◌, ℕ, min, nat_lt, Bool, false, true, List, length, [], ◌∷◌}
use Rattle.std.specs.Prelude.{◌++◌, Option, Some, None, codes, decimal}
use Rattle.ijtag_stages.specs.DeviceText.{device_text}
use Rattle.ijtag_tools.specs.Graphs.{Graph, Unnested, graph_below}
use Rattle.ijtag_stages.specs.IclText.{icl_text}
use Rattle.ijtag_stages.specs.Refusals.{Part, refusal_text, refused, refused_number}
use Rattle.ijtag_stages.specs.Work.{give, never, refuse, ◌>>=◌}
use Rattle.ijtag_stages.specs.declared.refusal.Stage.TheVariants.{Explain as ExplainStage}
use Rattle.ijtag_stages.specs.declared.refusal.Stage.TheVariants.{Where as WhereStage}
use Rattle.ijtag_stages.specs.declared.refusal.Stage.TheVariants.{Picture as PictureStage, Wave as WaveStage}
use Rattle.ijtag_work.specs.Accepted.{SeenAccepted}
use Rattle.ijtag_work.specs.Leaves.{Leaves}
use Rattle.ijtag_work.specs.Inputs.{OfNetwork, OfPlay, OfProcedure, loads_of}
use Rattle.ijtag_work.specs.Order.{any_differs, differs_at, filed, ran, told}
use Rattle.ijtag_work.specs.Task.{Row, Task, task_of}
use Rattle.net_graph.specs.declared.net.Net.{Net}
use Rattle.net_graph.specs.declared.net.Point.{Point}
use Rattle.net_graph.specs.Resets.{start_holds}
use Rattle.net_graph.specs.Signals.{Holds}
use Rattle.net_tree.specs.Form.{Items}
use Rattle.net_list.specs.Listing.{list_text}
use Rattle.net_list.specs.declared.format.ListFormat.{ListFormat}
use Rattle.net_picture.specs.Dot.{dot_text}
use Rattle.net_picture.specs.Svg.{svg_text}
use Rattle.net_wave.specs.Wave.{wave_text}
use Rattle.net_wave.specs.declared.var.WaveKind.{WaveKind}
use Rattle.net_wave.specs.declared.var.Window.{Window}
use Rattle.svf_notes.specs.Before.{holds_before}
use Rattle.svf_notes.specs.Explained.{explained_text}
use Rattle.svf_notes.specs.Places.{where_answer, where_text}
use Rattle.svf_notes.specs.declared.place.BitAnswer.{BitAnswer}
use Rattle.svf_notes.specs.declared.place.BitAnswer.TheVariants.{Same, Differs, NoScan, NoBit}
use Rattle.tap_machine.specs.declared.Stable.TheVariants.{Reset as InReset}
use Rattle.tap_machine.specs.Play.{pins}
use Rattle.ijtag_tools.specs.Command.{Command, Explain, Explains, Graphs, Listing, Lists, Lookup, LooksUp}
use Rattle.ijtag_tools.specs.Command.{Picture, PictureAt, Pictures, PicturesAt, Tighten, Tightens, Wave}
use Rattle.ijtag_tools.specs.Command.{Waves}
use Rattle.ijtag_tools.specs.declared.words.PictureFormat.{PictureFormat}
use Rattle.ijtag_tools.specs.declared.words.PictureFormat.TheVariants.{Svg, Dot}
use Rattle.ijtag_tools.specs.Tight.{Cost, IsTight, cost_of, least_of}

-- ---- list: the registers, multiplexers and instruments of the network are printed

unfoldable pub listed : ListFormat → SeenAccepted → List ℕ
listed format it = list_text format it.network.net it.network.form

abbrev pub list : Listing → Row
list l = record {
  inputs = OfNetwork l.network;
  writes = [];
  prints = true;
  leaves = λ it. give (told (listed l.format it) false);
}

-- ---- explain: the SVF file is written once more, with notes on its scans; the text must be one that can be
-- read again

unfoldable pub explained_of : SeenAccepted → List ℕ
explained_of it = explained_text it.network.net it.device it.models it.commands it.svf

-- it isn't too long
unfoldable pub is_readable : SeenAccepted → Part (Unit {0})
is_readable it = record {
  gives = λ _. length (explained_of it) ≤ 134217728;
  refuses = λ r. (134217728 < length (explained_of it)) × (r ≡ refused ExplainStage (codes "TooLong"));
}

abbrev pub explained : List ℕ → SeenAccepted → Part Leaves
explained name it = do
  short ← is_readable it
  give (filed name (explained_of it))

abbrev pub explain : Explain → Row
explain e = record {
  inputs = OfPlay e.play;
  writes = e.new ∷ [];
  prints = false;
  leaves = explained e.new;
}

-- ---- where: what is at one position of one scan is printed, and whether its compare differs

unfoldable pub place_line : ℕ → ℕ → SeenAccepted → List ℕ
place_line scan bit it = where_text it.network.net it.device it.models it.commands scan bit

-- whether there is such a scan, and such a position in it
abbrev pub answered : ℕ → ℕ → BitAnswer → Part Bool
answered scan bit Same = give false
answered scan bit Differs = give true
answered scan bit NoScan = refuse (refused_number WhereStage (codes "NoScan") scan)
answered scan bit NoBit = refuse (refused_number WhereStage (codes "NoBit") bit)

unfoldable pub answer_at : ℕ → ℕ → SeenAccepted → Part Bool
answer_at scan bit it =
    answered scan bit (where_answer it.network.net it.device it.models it.commands scan bit)

abbrev pub looked_up : ℕ → ℕ → SeenAccepted → Part Leaves
looked_up scan bit it = do
  differs ← answer_at scan bit it
  give (told (place_line scan bit it) differs)

abbrev pub look_up : Lookup → Row
look_up l = record {
  inputs = OfPlay l.play;
  writes = [];
  prints = true;
  leaves = looked_up l.scan l.bit;
}

-- ---- picture: the file has a drawing of the network, in which the active path at power-up is marked

abbrev pub picture_text : PictureFormat → Net → Items → Holds → List ℕ
picture_text Svg net form holds = svg_text net form holds
picture_text Dot net form holds = dot_text net holds None

unfoldable pub drawing_of : PictureFormat → SeenAccepted → Holds → List ℕ
drawing_of format it holds = picture_text format it.network.net it.network.form holds

abbrev pub first_drawing : SeenAccepted → List ℕ
first_drawing it = drawing_of Svg it (start_holds it.network.net)

abbrev pub picture : Picture → Row
picture p = record {
  inputs = OfNetwork p.network;
  writes = p.new ∷ [];
  prints = false;
  leaves = λ it. give (filed p.new (first_drawing it));
}

-- the graph of a network, which may have no nested form: then its first line says why, and the register or
-- multiplexer is marked that the reason names
abbrev pub comment : Option Unnested → List ℕ
comment None = []
comment (Some why) = codes "// " ++ refusal_text why.refusal

abbrev pub cell_of : Option Unnested → Option Point
cell_of None = None
cell_of (Some why) = why.cell

unfoldable pub graph_text : Graph → List ℕ
graph_text g = comment g.unnested ++ dot_text g.net (start_holds g.net) (cell_of g.unnested)

unfoldable pub graph_of : List ℕ → List ℕ → List ℕ → Part Graph
graph_of top icl device = do
  modules ← icl_text icl
  device ← device_text device
  graph_below modules top device

abbrev pub graph_in : List ℕ → List (List ℕ) → Part Graph
graph_in top (icl ∷ device ∷ []) = graph_of top icl device
graph_in top _ = never

abbrev pub graph_work : Picture → List (List ℕ) → Part Leaves
graph_work p texts = do
  graph ← graph_in p.network.top texts
  give (filed p.new (graph_text graph))

abbrev pub graph : Picture → Task
graph p = record {
  loads = loads_of (OfNetwork p.network);
  begins = never;
  first_writes =
      [];
  writes = p.new ∷ [];
  prints = false;
  work_on = graph_work p;
}

-- the same, with the active path before a scan of a play, or at its end; there must be such a scan
abbrev pub held : ℕ → Option Holds → Part Holds
held scan (Some holds) = give holds
held scan None = refuse (refused_number PictureStage (codes "NoScan") scan)

unfoldable pub held_before : ℕ → SeenAccepted → Part Holds
held_before scan it = held scan (holds_before it.network.net it.device it.models it.commands scan)

abbrev pub pictured_at : PictureAt → SeenAccepted → Part Leaves
pictured_at p it = do
  holds ← held_before p.scan it
  give (filed p.new (drawing_of p.format it holds))

abbrev pub picture_at : PictureAt → Row
picture_at p = record {
  inputs = OfPlay p.play;
  writes = p.new ∷ [];
  prints = false;
  leaves = pictured_at p;
}

-- ---- tighten: the SVF file has a text that is planned as a whole, and it is printed what it takes, and what
-- any takes at least

unfoldable pub cost_line : Cost → Cost → ℕ → List ℕ
cost_line now before least =
    codes "scans " ++ (decimal now.scans ++ (codes " clocks " ++ (decimal now.clocks
    ++ (codes " were scans " ++ (decimal before.scans ++ (codes " clocks " ++ (decimal before.clocks
    ++ (codes " least " ++ (decimal least ++ codes "\n")))))))))

abbrev pub left_of : List ℕ → List ℕ → Cost → Cost → ℕ → Leaves
left_of name bytes now before least = ran name bytes (cost_line now before least) false

unfoldable pub tightened : List ℕ → SeenAccepted → Part Leaves
tightened name it = record {
  gives = λ leaves. (bytes : List ℕ) × (tight : IsTight it bytes)
      × (leaves ≡ left_of name bytes (cost_of tight.commands) (cost_of tight.before) (least_of it));
  refuses = λ r. ⊥;
}

abbrev pub tighten : Tighten → Row
tighten t = record {
  inputs = OfProcedure t.procedure;
  writes = t.svf ∷ [];
  prints = true;
  leaves = tightened t.svf;
}

-- ---- wave: the file has the waves of a play, of all its clocks or of some, and it is reported whether a
-- compare of the play differs

-- no more clocks are written than a procedure may run
abbrev pub within_if : Bool → Window → Part Window
within_if true w = give w
within_if false w = refuse (refused_number WaveStage (codes "TooLong") w.count)

abbrev pub within : Window → Part Window
within w = within_if (nat_lt w.count 4000001) w

-- the first clock must be one of the play's
abbrev pub window_if : Bool → Window → ℕ → Part Window
window_if true w clocks = within (record { from = w.from; count = min w.count (clocks - w.from) })
window_if false w clocks = refuse (refused_number WaveStage (codes "BadWindow") w.from)

abbrev pub window_in : Option Window → ℕ → Part Window
window_in None clocks = within (record { from = 0; count = clocks })
window_in (Some w) clocks = window_if (nat_lt w.from clocks) w clocks

unfoldable pub window_of : Option Window → SeenAccepted → Part Window
window_of window it = window_in window (length (pins InReset 0 it.commands))

unfoldable pub waves_of : WaveKind → List ℕ → Window → SeenAccepted → List ℕ
waves_of kind top window it = wave_text kind it.network.net it.device it.models top it.commands window

abbrev pub waved : Wave → SeenAccepted → Part Leaves
waved w it = do
  window ← window_of w.window it
  give (ran w.new (waves_of w.kind w.play.network.top window it) [] (any_differs (differs_at it it.commands)))

abbrev pub wave : Wave → Row
wave w = record {
  inputs = OfPlay w.play;
  writes = w.new ∷ [];
  prints = false;
  leaves = waved w;
}

-- ---- the table

abbrev pub task : Command → Task
task (Lists l) = task_of (list l)
task (Explains e) = task_of (explain e)
task (LooksUp l) = task_of (look_up l)
task (Pictures p) = task_of (picture p)
task (Graphs p) = graph p
task (PicturesAt p) = task_of (picture_at p)
task (Tightens t) = task_of (tighten t)
task (Waves w) = task_of (wave w)
