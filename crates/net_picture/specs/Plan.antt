-- What has to be known of a network and its state before it is drawn.
use Rattle.std.specs.Prelude.{ℕ, Bool, List, get_or, length, map, None}
use Rattle.std.specs.List.{range_with_len}
use Rattle.std.specs.Option.{is_some}
use Rattle.net_graph.specs.declared.net.Net.{Net}
use Rattle.net_graph.specs.Path.{active, row_of, rows_of}
use Rattle.net_graph.specs.Signals.{Holds}
use Rattle.net_picture.specs.declared.plan.MuxPlan.{MuxPlan}
use Rattle.net_picture.specs.declared.plan.Plan.{Plan as Tables}
use Rattle.net_picture.specs.Labels.{box_width, name_room, values_room}

-- whether there is an active path
abbrev pub has_path : Net → Holds → Bool
has_path net holds = is_some (active net holds)

-- the width of each register's box, and of each multiplexer the room beside its funnel and the row that it is
-- in
pub record Plan : Type 0 where
  pub boxes : List ℕ
  pub muxes : List MuxPlan

abbrev pub mux_plan : Net → Holds → ℕ → MuxPlan
mux_plan net holds m =
    record { values = values_room (rows_of net m); name = name_room net m; row = row_of net holds m }

abbrev pub plan_of : Net → Holds → Plan
plan_of net holds = record {
  boxes = map (box_width net) (range_with_len 0 (length net.regs.items));
  muxes = map (mux_plan net holds) (range_with_len 0 (length net.muxes.items));
}

-- a plan in tables
abbrev pub seen_plan : Tables → Plan
seen_plan t = record { boxes = t.boxes.items; muxes = t.muxes.items }

-- nothing, for a register or a multiplexer that isn't there
abbrev pub box_of : Plan → ℕ → ℕ
box_of plan r = get_or plan.boxes r 0

abbrev pub mux_of : Plan → ℕ → MuxPlan
mux_of plan m = get_or plan.muxes m (record { values = 0; name = 0; row = None })
