use Rattle.std.proofs.Common.{◌≡◌, ◌≤◌, ◌+◌, ◌-◌, ◌*◌, ℕ, List, drop, length}
use Rattle.net_tree.specs.declared.entry.Entry.{Entry}
use Rattle.net_picture.specs.declared.pen.Pen.{Pen}
use Rattle.net_picture.specs.declared.pen.Fan.{Fan}
use Rattle.net_picture.specs.declared.shape.Shape.{Shape}
use Rattle.net_picture.specs.declared.shape.RowEnd.{RowEnd}
use Rattle.net_picture.specs.Plan.{seen_plan}
use Rattle.net_picture.specs.Walk.{ItemsAreLeft, RowsAreLeft}
use Rattle.net_picture.proofs.layout.+form.Given as goal

abbrev pub decreases-draw_items : goal.decreases-draw_items
decreases-draw_items l = 4 * length l.entries.now + 3

abbrev pub decreases-draw_item : goal.decreases-draw_item
decreases-draw_item l = 4 * (length l.entries.now - l.done.at) + 2

abbrev pub decreases-draw_mux : goal.decreases-draw_mux
decreases-draw_mux l = 4 * (length l.entries.now - l.done.at) + 1

abbrev pub decreases-draw_rows : goal.decreases-draw_rows
decreases-draw_rows l = 4 * (length l.entries.now - l.begun.at) + 2

abbrev pub decreases-draw_row : goal.decreases-draw_row
decreases-draw_row l = 4 * (length l.entries.now - l.done.at) + 1

abbrev pub decreases-draw_items-loop-done : goal.decreases-draw_items-loop-done
decreases-draw_items-loop-done l = length l.entries - l.done.at

abbrev pub invariant-draw_items-loop-done : goal.invariant-draw_items-loop-done
invariant-draw_items-loop-done l = record {
  within : l.done.at ≤ length l.entries;
  left : (end : Pen) (all : List Shape)
      → ItemsAreLeft (seen_plan l.plan) l.active (drop 0 l.entries) l.fn.pen l.fn.shapes.items end all
      → ItemsAreLeft (seen_plan l.plan) l.active (drop l.done.at l.entries) l.done.pen l.shapes.items end all;
}

abbrev pub invariant-draw_rows-loop-q : goal.invariant-draw_rows-loop-q
invariant-draw_rows-loop-q l = record {
  later : l.fn.begun.at ≤ l.done.at;
  within : l.done.at ≤ length l.entries;
  left : (k : ℕ) (after : List Entry) (end : Fan) (all : List Shape) (all_ends : List RowEnd)
      → l.q + k ≡ l.count
      → RowsAreLeft (seen_plan l.plan) l.parting.active l.parting.row l.parting.pen 0 l.count (drop
      l.fn.begun.at l.entries) after l.fn.begun.fan l.fn.shapes.items l.fn.ends.items end all all_ends
      → RowsAreLeft (seen_plan l.plan) l.parting.active l.parting.row l.parting.pen l.q k
      (drop l.done.at l.entries) after l.done.fan l.shapes.items l.ends.items end all all_ends;
}
