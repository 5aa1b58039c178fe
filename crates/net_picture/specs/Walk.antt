-- What is left to draw, while the entries of a nested form are walked.
use Rattle.std.specs.Prelude.{◌≡◌, ℕ, Bool, List, ◌++◌, Option}
use Rattle.net_tree.specs.declared.entry.Entry.{Entry}
use Rattle.net_tree.specs.Entries.{entries_of, row_entries, row_count}
use Rattle.net_tree.specs.Form.{Items, Rows}
use Rattle.net_picture.specs.declared.pen.Pen.{Pen}
use Rattle.net_picture.specs.declared.pen.Fan.{Fan}
use Rattle.net_picture.specs.declared.shape.Shape.{Shape}
use Rattle.net_picture.specs.declared.shape.RowEnd.{RowEnd}
use Rattle.net_picture.specs.Layout.{drawn, pen_after, fan_after, row_ends, rows_drawn}
use Rattle.net_picture.specs.Plan.{Plan}

-- the entries are those of items that end with this pen, and whose shapes follow those that are drawn
pub record ItemsAreLeft (plan : Plan) (active : Bool) (entries : List Entry) (p : Pen) (shapes : List Shape)
    (end : Pen) (all : List Shape) : Type 0 where
  pub items : Items
  pub entries_are : entries ≡ entries_of items
  pub end_is : pen_after plan p items ≡ end
  pub shapes_are : shapes ++ drawn plan active p items ≡ all

-- the same of rows from number q on, with other entries after theirs
pub record RowsAreLeft (plan : Plan) (active : Bool) (row : Option ℕ) (from : Pen) (q : ℕ) (count : ℕ)
    (entries after : List Entry) (f : Fan) (shapes : List Shape) (ends : List RowEnd) (end : Fan)
    (all : List Shape) (all_ends : List RowEnd) : Type 0 where
  pub rows : Rows
  pub entries_are : entries ≡ row_entries rows ++ after
  pub count_is : count ≡ row_count rows
  pub end_is : fan_after plan f rows ≡ end
  pub shapes_are : shapes ++ rows_drawn plan active row from q f rows ≡ all
  pub ends_are : ends ++ row_ends plan f rows ≡ all_ends
