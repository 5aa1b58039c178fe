-- A row of a program's table of commands: what is loaded, written and printed, and the work on the texts that
-- were loaded.
use Rattle.std.specs.Prelude.{ℕ, Bool, List, [], Option}
use Rattle.ij_io.specs.Files.{Files}
use Rattle.ijtag_stages.specs.Refusals.{Part}
use Rattle.ijtag_stages.specs.Work.{never, ◌>>=◌}
use Rattle.ijtag_work.specs.Accepted.{SeenAccepted, accepted_of}
use Rattle.ijtag_work.specs.Inputs.{Inputs, loads_of, texts_of}
use Rattle.ijtag_work.specs.Leaves.{Leaves, Written}
use Rattle.ijtag_work.specs.Loads.{Load, loaded}

pub record Task : Type 1 where
  -- the files that are loaded, in this order
  pub loads : List Load
  -- the files that are written before any text is accepted, and their names
  pub begins : Part (List Written)
  pub first_writes : List (List ℕ)
  -- all files that are written, in this order
  pub writes : List (List ℕ)
  -- whether it prints on the output
  pub prints : Bool
  -- what it leaves, by the texts that were loaded
  pub work_on : List (List ℕ) → Part Leaves

abbrev pub work : Option Files → Task → Part Leaves
work files task = do
  texts ← loaded files task.loads
  task.work_on texts

-- ---- a command that accepts texts, and writes and prints nothing before: its texts, and what it leaves of
-- what they are accepted as

pub record Row : Type 1 where
  pub inputs : Inputs
  pub writes : List (List ℕ)
  pub prints : Bool
  pub leaves : SeenAccepted → Part Leaves

abbrev pub row_work : Row → List (List ℕ) → Part Leaves
row_work row texts = do
  it ← accepted_of (texts_of row.inputs texts)
  row.leaves it

abbrev pub task_of : Row → Task
task_of row = record {
  loads = loads_of row.inputs;
  begins = never;
  first_writes =
      [];
  writes = row.writes;
  prints = row.prints;
  work_on = row_work row;
}
