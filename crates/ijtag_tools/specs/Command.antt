-- The words that the second program is called with.
use Rattle.std.specs.Prelude.{ℕ, true, false, cond, List, [], ◌∷◌, ◌++◌, Option, Some, None, map, option_map}
use Rattle.std.specs.Prelude.{codes}
use Rattle.std.specs.Str.{bytes_eq}
use Rattle.std.specs.String.{string_bytes}
use Rattle.std.specs.declared.string.String.{String}
use Rattle.std.specs.declared.alloc.Global.{Global}
use Rattle.net_list.specs.declared.format.ListFormat.{ListFormat}
use Rattle.net_list.specs.declared.format.ListFormat.TheVariants.{Text, Json}
use Rattle.ijtag_work.specs.Command.{Network, Play, Procedure, network_of, number_of, procedure_of}
use Rattle.net_wave.specs.declared.var.WaveKind.{WaveKind}
use Rattle.net_wave.specs.declared.var.WaveKind.TheVariants.{Pins, State, All}
use Rattle.net_wave.specs.declared.var.Window.{Window}
use Rattle.tight_planner.specs.declared.how.How.{How}
use Rattle.tight_planner.specs.declared.how.How.TheVariants.{Full, Lean, Late}
use Rattle.ijtag_tools.specs.declared.words.PictureFormat.{PictureFormat}
use Rattle.ijtag_tools.specs.declared.words.PictureFormat.TheVariants.{Svg, Dot}

-- `list FORMAT ICL DEVICE TOP`: how it is printed, and a network
pub record Listing : Type 0 where
  pub format : ListFormat
  pub network : Network

-- `tighten HOW ICL PDL DEVICE TOP PROC NEW`: how it is planned, a procedure, and the file that is written
pub record Tighten : Type 0 where
  pub how : How
  pub procedure : Procedure
  pub svf : List ℕ

-- `explain SVF ICL DEVICE TABLES TOP NEW`: the words of a play, and the file that is written
pub record Explain : Type 0 where
  pub play : Play
  pub new : List ℕ

-- `where SVF ICL DEVICE TABLES TOP SCAN BIT`: the words of a play, a scan, counted from 1, and a position of
-- it
pub record Lookup : Type 0 where
  pub play : Play
  pub scan : ℕ
  pub bit : ℕ

-- `picture svg ICL DEVICE TOP NEW`, and the same with dot: a network, and the file that is written
pub record Picture : Type 0 where
  pub network : Network
  pub new : List ℕ

-- `picture FORMAT ICL DEVICE TOP NEW SVF TABLES SCAN`: how it is drawn, the words of a play, the file that is
-- written, and a scan, counted from 1
pub record PictureAt : Type 0 where
  pub format : PictureFormat
  pub play : Play
  pub new : List ℕ
  pub scan : ℕ

-- `wave KIND SVF ICL DEVICE TABLES TOP NEW`, and with FROM COUNT: which variables there are, the words of a
-- play, the file that is written, and the clocks that are written, where not all are
pub record Wave : Type 0 where
  pub kind : WaveKind
  pub play : Play
  pub new : List ℕ
  pub window : Option Window

pub data Command : Type 0 where
  Lists : (words : Listing) → Command
  Explains : (words : Explain) → Command
  LooksUp : (words : Lookup) → Command
  Pictures : (words : Picture) → Command
  Graphs : (words : Picture) → Command
  PicturesAt : (words : PictureAt) → Command
  Tightens : (words : Tighten) → Command
  Waves : (words : Wave) → Command

-- the word for a format, for one of a picture, for a way of planning, and for variables
abbrev pub format_named : List ℕ → Option ListFormat
format_named word = elim (bytes_eq word (codes "text")) [
  | true ↦ Some Text
  | false ↦ elim (bytes_eq word (codes "json")) [ true ↦ Some Json | false ↦ None ]
]

abbrev pub picture_format_named : List ℕ → Option PictureFormat
picture_format_named word = elim (bytes_eq word (codes "svg")) [
  | true ↦ Some Svg
  | false ↦ elim (bytes_eq word (codes "dot")) [ true ↦ Some Dot | false ↦ None ]
]

abbrev pub how_named : List ℕ → Option How
how_named word = elim (bytes_eq word (codes "full")) [
  | true ↦ Some Full
  | false ↦ elim (bytes_eq word (codes "lean")) [
    | true ↦ Some Lean
    | false ↦ elim (bytes_eq word (codes "late")) [ true ↦ Some Late | false ↦ None ]
  ]
]

abbrev pub kind_named : List ℕ → Option WaveKind
kind_named word = elim (bytes_eq word (codes "pins")) [
  | true ↦ Some Pins
  | false ↦ elim (bytes_eq word (codes "state")) [
    | true ↦ Some State
    | false ↦ elim (bytes_eq word (codes "all")) [ true ↦ Some All | false ↦ None ]
  ]
]

-- no words for all clocks, or two numbers
abbrev pub window_at : Option ℕ → Option ℕ → Option (Option Window)
window_at (Some from) (Some count) = Some (Some (record { from = from; count = count }))
window_at _ _ = None

abbrev pub window_named : List (List ℕ) → Option (Option Window)
window_named [] = Some None
window_named (from ∷ count ∷ []) = window_at (number_of from) (number_of count)
window_named _ = None

-- the words of a play
abbrev pub play_on : List ℕ → List ℕ → List ℕ → List ℕ → List ℕ → Play
play_on svf icl device tables top = record { svf = svf; network = network_of icl device top; tables = tables }

-- ---- the words after a command's name

abbrev pub list_of : List (List ℕ) → Option Command
list_of (format ∷ icl ∷ device ∷ top ∷ []) =
    option_map (λ f. Lists (record { format = f; network = network_of icl device top })) (format_named format)
list_of _ = None

abbrev pub explain_of : List (List ℕ) → Option Command
explain_of (svf ∷ icl ∷ device ∷ tables ∷ top ∷ new ∷ []) =
    Some (Explains (record { play = play_on svf icl device tables top; new = new }))
explain_of _ = None

abbrev pub look_up_at : Option ℕ → Option ℕ → Play → Option Command
look_up_at (Some scan) (Some bit) play = Some (LooksUp (record { play = play; scan = scan; bit = bit }))
look_up_at _ _ play = None

abbrev pub where_of : List (List ℕ) → Option Command
where_of (svf ∷ icl ∷ device ∷ tables ∷ top ∷ scan ∷ bit ∷ []) =
    look_up_at (number_of scan) (number_of bit) (play_on svf icl device tables top)
where_of _ = None

abbrev pub drawn : Picture → PictureFormat → Command
drawn p Svg = Pictures p
drawn p Dot = Graphs p

abbrev pub drawn_at : Option PictureFormat → Option ℕ → Play → List ℕ → Option Command
drawn_at (Some format) (Some scan) play new =
    Some (PicturesAt (record { format = format; play = play; new = new; scan = scan }))
drawn_at _ _ play new = None

abbrev pub picture_of : List (List ℕ) → Option Command
picture_of (format ∷ icl ∷ device ∷ top ∷ new ∷ []) =
    option_map (drawn (record { network = network_of icl device top; new = new }))
    (picture_format_named format)
picture_of (format ∷ icl ∷ device ∷ top ∷ new ∷ svf ∷ tables ∷ scan ∷ []) =
    drawn_at (picture_format_named format) (number_of scan) (play_on svf icl device tables top) new
picture_of _ = None

abbrev pub waved_by : Option WaveKind → Option (Option Window) → Play → List ℕ → Option Command
waved_by (Some kind) (Some window) play new =
    Some (Waves (record { kind = kind; play = play; new = new; window = window }))
waved_by _ _ play new = None

abbrev pub wave_of : List (List ℕ) → Option Command
wave_of (kind ∷ svf ∷ icl ∷ device ∷ tables ∷ top ∷ new ∷ clocks) =
    waved_by (kind_named kind) (window_named clocks) (play_on svf icl device tables top) new
wave_of _ = None

abbrev pub tighten_of : List (List ℕ) → Option Command
tighten_of (how ∷ icl ∷ pdl ∷ device ∷ top ∷ name ∷ svf ∷ []) =
    option_map (λ h. Tightens
    (record { how = h; procedure = procedure_of icl pdl device top name; svf = svf })) (how_named how)
tighten_of _ = None

-- the command that the first word names
abbrev pub command_of : List (List ℕ) → Option Command
command_of [] = None
command_of (name ∷ words) =
    cond (bytes_eq name (codes "list")) (list_of words)
    (cond (bytes_eq name (codes "explain")) (explain_of words)
    (cond (bytes_eq name (codes "where")) (where_of words)
    (cond (bytes_eq name (codes "picture")) (picture_of words)
    (cond (bytes_eq name (codes "tighten")) (tighten_of words)
    (cond (bytes_eq name (codes "wave")) (wave_of words) None)))))

-- the command that the words of the command line are, where they are one
abbrev pub command_in : List (String Global) → Option Command
command_in words = command_of (map string_bytes words)

-- the usage text: the words of each command
abbrev pub usage_text : List ℕ
usage_text =
    codes "usage: ijtag-tools list text|json ICL DEVICE TOP\n"
    ++ codes "       ijtag-tools explain SVF ICL DEVICE TABLES TOP NEW\n"
    ++ codes "       ijtag-tools where SVF ICL DEVICE TABLES TOP SCAN BIT\n"
    ++ codes "       ijtag-tools picture svg|dot ICL DEVICE TOP NEW [SVF TABLES SCAN]\n"
    ++ codes "       ijtag-tools tighten full|lean|late ICL PDL DEVICE TOP PROC NEW\n"
    ++ codes "       ijtag-tools wave pins|state|all SVF ICL DEVICE TABLES TOP NEW [FROM COUNT]\n"
