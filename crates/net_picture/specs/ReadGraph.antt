-- A reader of the text of a graph (Graphviz, DOT). It knows of lines and of words with blanks between, and
-- takes a line as a whole or not at all: a node with its attributes, an edge with two nodes and its
-- attributes, a setting, or a comment.
use Rattle.std.specs.Prelude.{◌≡◌, ℕ, ◌==◌, Bool, true, false, ◌&&◌, ◌||◌, cond, List, [], ◌∷◌, ◌++◌, All}
use Rattle.std.specs.Prelude.{codes, drop, filter, length, not, Option, Some, None}
use Rattle.std.specs.List.{flat_map, list_all, take_while}
use Rattle.std.specs.Option.{option_map, option_and_then}
use Rattle.std.specs.Str.{all_ascii_digits, bytes_eq}
use Rattle.std.specs.Str.Parse.{digits_value}
use Rattle.ij_text.specs.Parts.{split}
use Rattle.ij_text.specs.Words.{in_name}
use Rattle.net_graph.specs.declared.net.Net.{Net}
use Rattle.net_graph.specs.declared.net.Point.{Point}
use Rattle.net_graph.specs.Nets.{IsNet}
use Rattle.net_graph.specs.Signals.{Holds}
use Rattle.net_picture.specs.Dot.{dot_text}
use Rattle.net_picture.specs.Edges.{Node, Tdi, Tdo, Register, Multiplexer, Link, Source, Row, Select}
use Rattle.net_picture.specs.Said.{Colour, Plain, Orange, Red, Other, Said, Begins, Ends, HasNode, HasEdge}
use Rattle.net_picture.specs.Said.{Comment, Unread, said}

abbrev pub has_bytes : List ℕ → Bool
has_bytes [] = false
has_bytes (b ∷ bs) = true

-- between blanks (32)
abbrev pub words : List ℕ → List (List ℕ)
words line = filter has_bytes (split 32 line)

-- ---- nodes

abbrev pub number : List ℕ → Option ℕ
number digits = cond (has_bytes digits && all_ascii_digits digits) (Some (digits_value 10 digits)) None

-- r (114) and a number is a register, m (109) and a number a multiplexer
abbrev pub numbered : List ℕ → Option Node
numbered [] = None
numbered (letter ∷ digits) =
    cond (letter == 114) (option_map Register (number digits))
    (cond (letter == 109) (option_map Multiplexer (number digits)) None)

abbrev pub node_named : List ℕ → Option Node
node_named word =
    cond (bytes_eq word (codes "tdi")) (Some Tdi)
    (cond (bytes_eq word (codes "tdo")) (Some Tdo) (numbered word))

-- ---- attributes: a list in brackets, KEY=VALUE or KEY="VALUE" with commas between, and a semicolon after it

pub record Attribute : Type 0 where
  pub key : List ℕ
  pub value : List ℕ
  pub is_last : Bool

-- what comes after an attribute: a comma, or the end of the list
abbrev pub is_last_before : List ℕ → Option Bool
is_last_before end = cond (bytes_eq end (codes ",")) (Some false)
    (cond (bytes_eq end (codes "];")) (Some true) None)

-- a style that is known: others may hide a node or an edge
abbrev pub is_known : List ℕ → List ℕ → Bool
is_known key value =
    cond (bytes_eq key (codes "style"))
    (bytes_eq value (codes "filled") || bytes_eq value (codes "dashed")) true

abbrev pub attribute_if : Bool → List ℕ → List ℕ → List ℕ → Option Attribute
attribute_if allowed key value end =
    cond allowed
    (option_map (λ last. record { key = key; value = value; is_last = last }) (is_last_before end)) None

-- letters and digits without quotes
abbrev pub bare : List ℕ → List ℕ → Option Attribute
bare key text =
    let value = take_while in_name text in
    attribute_if (list_all in_name key && (is_known key value && has_bytes value)) key value
    (drop (length value) text)

-- by the parts before and after the sign of equality (61)
abbrev pub bare_by : List (List ℕ) → Option Attribute
bare_by (key ∷ text ∷ []) = bare key text
bare_by parts = None

-- between quotes, with no backslash (92)
abbrev pub quoted_by : List (List ℕ) → List ℕ → List ℕ → Option Attribute
quoted_by (key ∷ [] ∷ []) value end =
    attribute_if
    (list_all in_name key && (is_known key value && list_all (λ b. not (b == 92)) value)) key value end
quoted_by parts value end = None

-- by the parts between quotes (34)
abbrev pub attribute_by : List (List ℕ) → Option Attribute
attribute_by (word ∷ []) = bare_by (split 61 word)
attribute_by (key ∷ value ∷ end ∷ []) = quoted_by (split 61 key) value end
attribute_by parts = None

abbrev pub alone : Attribute → List (List ℕ) → Option (List Attribute)
alone a [] = Some (a ∷ [])
alone a (word ∷ others) = None

-- the line ends with the last one
abbrev pub attributes : List (List ℕ) → Option (List Attribute)
attributes [] = None
attributes (word ∷ others) =
    option_and_then (λ a. cond a.is_last (alone a others) (option_map (λ rest. a ∷ rest) (attributes others)))
    (attribute_by (split 34 word))

-- after a bracket (91)
abbrev pub attributes_in : List (List ℕ) → Option (List Attribute)
attributes_in [] = None
attributes_in ([] ∷ others) = None
attributes_in ((b ∷ word) ∷ others) = cond (b == 91) (attributes (word ∷ others)) None

-- the value of the last attribute of this key, or else one that was found before
abbrev pub value_after : List ℕ → List ℕ → List Attribute → List ℕ
value_after key found [] = found
value_after key found (a ∷ others) = value_after key (cond (bytes_eq a.key key) a.value found) others

abbrev pub value_of : List ℕ → List Attribute → List ℕ
value_of key attributes = value_after key [] attributes

abbrev pub has_key : List ℕ → List Attribute → Bool
has_key key [] = false
has_key key (a ∷ others) = bytes_eq a.key key || has_key key others

abbrev pub colour_named : List ℕ → Colour
colour_named value =
    cond (bytes_eq value (codes "#d55e00")) Orange (cond (bytes_eq value (codes "#e00000")) Red
    (cond (bytes_eq value (codes "#868e96") || bytes_eq value []) Plain Other))

abbrev pub colour_in : List Attribute → Colour
colour_in attributes = colour_named (value_of (codes "color") attributes)

-- a label is that of a row, a dashed edge that of a select bit
abbrev pub link_in : List Attribute → Link
link_in attributes =
    cond (has_key (codes "label") attributes) (Row (value_of (codes "label") attributes))
    (cond (bytes_eq (value_of (codes "style") attributes) (codes "dashed")) Select Source)

-- ---- lines

abbrev pub node_said : Option Node → Option (List Attribute) → Option (List Said)
node_said (Some node) (Some attributes) =
    Some (HasNode node (value_of (codes "label") attributes) (colour_in attributes) ∷ [])
node_said found attributes = None

abbrev pub edge_said : Option Node → Option Node → Option (List Attribute) → Option (List Said)
edge_said (Some from) (Some to) (Some attributes) =
    Some (HasEdge (record { from = from; to = to; link = link_in attributes }) (colour_in attributes) ∷ [])
edge_said from to attributes = None

-- what comes after an arrow
abbrev pub edge_from : List ℕ → List (List ℕ) → Option (List Said)
edge_from from [] = None
edge_from from (to ∷ others) = edge_said (node_named from) (node_named to) (attributes_in others)

-- a setting, KEY=VALUE and a semicolon (59)
abbrev pub setting_by : List (List ℕ) → Option (List Said)
setting_by (key ∷ value ∷ []) = cond (list_all in_name key && list_all in_name value) (Some []) None
setting_by parts = None

abbrev pub setting_in : List (List ℕ) → Option (List Said)
setting_in (setting ∷ [] ∷ []) = setting_by (split 61 setting)
setting_in parts = None

-- what comes after the first word, which isn't a keyword; one word alone may be a setting
abbrev pub thing_said : List ℕ → List (List ℕ) → Option (List Said)
thing_said word [] = setting_in (split 59 word)
thing_said word (next ∷ others) =
    cond (bytes_eq next (codes "->")) (edge_from word others)
    (node_said (node_named word) (attributes_in (next ∷ others)))

-- a graph begins with its name and a brace
abbrev pub begin_said : List (List ℕ) → Option (List Said)
begin_said (name ∷ brace ∷ []) =
    cond (list_all in_name name && bytes_eq brace (codes "{")) (Some (Begins ∷ [])) None
begin_said others = None

abbrev pub end_said : List (List ℕ) → Option (List Said)
end_said [] = Some (Ends ∷ [])
end_said (word ∷ others) = None

-- the words that are no names of nodes: what begins and ends the graph, and what is set for all nodes or
-- edges
abbrev pub is_keyword : List ℕ → Bool
is_keyword word =
    bytes_eq word (codes "digraph") ||
    (bytes_eq word (codes "}") || (bytes_eq word (codes "node") || bytes_eq word (codes "edge")))

-- what is set for all nodes or edges is neither read of one nor hides it
abbrev pub default_said : List Attribute → Option (List Said)
default_said attributes =
    cond (has_key (codes "label") attributes ||
    (has_key (codes "color") attributes || has_key (codes "style") attributes)) None (Some [])

abbrev pub keyword_said : List ℕ → List (List ℕ) → Option (List Said)
keyword_said word others =
    cond (bytes_eq word (codes "digraph")) (begin_said others) (cond (bytes_eq word (codes "}"))
    (end_said others) (option_and_then default_said (attributes_in others)))

abbrev pub words_said : List (List ℕ) → Option (List Said)
words_said [] = Some []
words_said (word ∷ others) = cond (is_keyword word) (keyword_said word others) (thing_said word others)

-- what comes after two slashes (47) and a blank
abbrev pub comment_in : List ℕ → Option (List ℕ)
comment_in (a ∷ b ∷ c ∷ text) = cond ((a == 47) && ((b == 47) && (c == 32))) (Some text) None
comment_in line = None

abbrev pub found_or : List ℕ → Option (List Said) → List Said
found_or line (Some found) = found
found_or line None = Unread line ∷ []

abbrev pub comment_or : List ℕ → Option (List ℕ) → List Said
comment_or line (Some text) = Comment text ∷ []
comment_or line None = found_or line (words_said (words line))

abbrev pub line_said : List ℕ → List Said
line_said line = comment_or line (comment_in line)

-- a text has lines with line feeds (10) between
abbrev pub read_graph : List ℕ → List Said
read_graph text = flat_map line_said (split 10 text)

-- the text of a network's graph says exactly what it has, and no line of it can't be read
abbrev pub GraphsAreRead : Type 0
GraphsAreRead =
    (net : Net) (holds : Holds) (marked : Option Point) → IsNet net
    → read_graph (dot_text net holds marked) ≡ said net holds marked

-- a first line that is a comment is read as it is
abbrev pub CommentsAreRead : Type 0
CommentsAreRead =
    (comment text : List ℕ) → All (λ b. (b == 10) ≡ false) comment
    → read_graph (codes "// " ++ (comment ++ 10 ∷ text)) ≡ Comment comment ∷ read_graph text
