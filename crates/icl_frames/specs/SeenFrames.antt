-- What the functions of the first pass take and give, without where it lies in memory.
use Rattle.std.specs.Prelude.{ℕ, nat_le, List, [], ◌∷◌, ◌++◌, map, length, Option, Some, None, Ok}
use Rattle.std.specs.Borrow.{Bor}
use Rattle.icl_lexer.specs.declared.tree.Module.{Module}
use Rattle.icl_lexer.specs.Values.{SeenItem, SeenModule}
use Rattle.icl_lexer.specs.Views.{seen_module}
use Rattle.icl_declarations.specs.Values.{Params}
use Rattle.icl_declarations.specs.Tables.{seen_table}
use Rattle.icl_declarations.specs.Faults.{Answer, ◌>>=◌, refuse_if, Limit}
use Rattle.ij_text.specs.declared.Which.TheVariants.{Cells}
use Rattle.icl_frames.specs.declared.frames.Request.{Request as RequestAt}
use Rattle.icl_frames.specs.declared.frames.Passed.{Passed as PassedAt}
use Rattle.icl_frames.specs.declared.frames.Added.{Added as AddedAt}
use Rattle.icl_frames.specs.declared.cells.Frame.{Frame as FrameAt}
use Rattle.icl_frames.specs.declared.cells.Entered.{Entered as EnteredAt}
use Rattle.icl_frames.specs.declared.cells.Progress.{Progress as ProgressAt}
use Rattle.icl_frames.specs.declared.cells.Stepped.{Stepped as SteppedAt}
use Rattle.icl_frames.specs.FirstPass.{Request, Passed, Added, Frame, Entered, Progress, cell_counts}
use Rattle.icl_frames.specs.FirstPass.{cell_of_request}

abbrev pub seen_request : RequestAt → Request
seen_request r = record { name = r.name.now; block = seen_module r.block.now; given = seen_table r.given }

-- an instance that is wanted, or none
abbrev pub seen_wanted : Option RequestAt → List Request
seen_wanted None = []
seen_wanted (Some r) = seen_request r ∷ []

-- the names of the modules that a cell is in
abbrev pub names_of : List (Bor Module) → List (List ℕ)
names_of above = map (λ block. block.now.name.items) above

-- after these items
abbrev pub seen_passed : List SeenItem → PassedAt → Passed
seen_passed items s = record {
  items = items;
  bounds = s.bounds.items;
  requests = map seen_request s.requests.items;
  counts = s.counts;
}

abbrev pub seen_added : AddedAt → Added
seen_added a = record { bounds = a.bounds; wanted = seen_wanted a.wanted; counts = a.counts }

abbrev pub seen_frame : FrameAt → Frame
seen_frame f = record {
  name = f.name.now;
  parent = f.parent;
  block = seen_module f.block.now;
  params = seen_table f.params;
  bounds = f.bounds.items;
}

abbrev pub seen_entered : EnteredAt → Entered
seen_entered e =
    record { frame = seen_frame e.frame; requests = map seen_request e.requests.items; counts = e.counts }

abbrev pub seen_progress : ProgressAt → Progress
seen_progress s = record { frames = map seen_frame s.frames.items; counts = s.counts }

-- ---- one cell more

-- what `cell_of_request` does after the items of a cell
abbrev pub finished_cell : Option ℕ → Request → Params → Passed → Answer Entered
finished_cell parent r ps s =
    cell_counts parent r.block s >>= λ counts. Ok (record {
      frame = record {
        name = r.name;
        parent = parent;
        block = r.block;
        params = ps;
        bounds = s.bounds;
      };
      requests = s.requests;
      counts = counts;
    })

-- the next cell, if there is room for one
abbrev pub entered_next : List SeenModule → List (List ℕ) → Option ℕ → Progress → Request → Answer Entered
entered_next blocks above parent s r = refuse_if (nat_le 8192 (length s.frames)) (Limit Cells 8192)
    >>= λ room. cell_of_request blocks above parent s.counts r

-- the cells with one more, and the instances that it wants
pub record Stepped : Type 0 where
  pub progress : Progress
  pub requests : List Request

abbrev pub seen_stepped : SteppedAt → Stepped
seen_stepped w = record { progress = seen_progress w.progress; requests = map seen_request w.requests.items }

-- what `add_subtree` does before it goes below a cell, which is in these modules, its own among them
unfoldable pub add_cell : List SeenModule → List (List ℕ) → Option ℕ → Progress → Request → Answer Stepped
add_cell blocks above parent s r = do
  room ← refuse_if (nat_le 8192 (length s.frames)) (Limit Cells 8192)
  e ← cell_of_request blocks above parent s.counts r
  Ok (record {
    progress = record { frames = s.frames ++ e.frame ∷ []; counts = e.counts };
    requests = e.requests;
  })
