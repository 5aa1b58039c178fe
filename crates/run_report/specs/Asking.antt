-- A procedure that is asked for its reads: it can be retargeted, and a cursor is in it, if there is one.
use Rattle.std.specs.Prelude.{◌<◌, ◌^◌, ℕ, List, length, map, Option, IfSome}
use Rattle.merge_order.specs.BitSteps.{bit_steps}
use Rattle.ij_text.specs.Numbering.{AreDistinct}
use Rattle.net_graph.specs.declared.net.Net.{Net}
use Rattle.net_tree.specs.Form.{Items}
use Rattle.pdl_parser.specs.Grammar.{full_names}
use Rattle.pdl_parser.specs.Views.{seen_proc}
use Rattle.pdl_parser.specs.declared.tree.Proc.{Proc}
use Rattle.run_report.specs.Procedure.{CanRetarget}
use Rattle.run_report.specs.Reaching.{IsCursor}
use Rattle.run_report.specs.declared.cursor.Cursor.{Cursor}

pub record AreAsked (procs : List Proc) (net : Net) (form : Items)
    (name : List ℕ) (cursor : Option Cursor) : Type 0 where
  pub distinct : AreDistinct (full_names (map seen_proc procs))
  pub few : length procs < 2 ^ 32
  pub can : CanRetarget net form (bit_steps (map seen_proc procs) net form name)
  pub stands : IfSome cursor (IsCursor net form (bit_steps (map seen_proc procs) net form name).steps)
