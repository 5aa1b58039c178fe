-- The bits that select a row of a mux, marked in a table.
use Rattle.std.specs.Prelude.{◌≡◌, ◌==◌, not, Bool}
use Rattle.net_graph.specs.declared.net.BitId.{BitId}
use Rattle.net_graph.specs.declared.net.Net.{Net}
use Rattle.net_graph.specs.Path.{is_select}
use Rattle.net_graph.specs.Marks.{Marks, mark_at}

abbrev pub is_marked : Marks → BitId → Bool
is_marked marks b = not (mark_at marks b == 0)

-- just the bits that select are marked
abbrev pub AreSelects : Net → Marks → Type 0
AreSelects net marks = (b : BitId) → is_marked marks b ≡ is_select net b
