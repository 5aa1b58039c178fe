use Rattle.std.proofs.Common.{◌≡◌, ◌++◌, map, take, drop}
use Rattle.std.specs.List.{flat_map}
use Rattle.bench_report.specs.Report.{chip_of}
use Rattle.instruments.specs.Seen.{seen_model}
use Rattle.net_wave.specs.Left.{told_of}
use Rattle.net_wave.specs.Changes.{later_at}
use Rattle.net_wave.specs.Moments.{change_text}
use Rattle.net_wave.specs.Values.{values}
use Rattle.net_wave.specs.Vars.{up_to}
use Rattle.net_wave.proofs.moments.add_changes.Given as goal

abbrev pub invariant-loop-i : goal.invariant-loop-i
invariant-loop-i l =
    let b = l.scene.bench.now in
    let now = values (chip_of b) (map seen_model l.scene.models.now.items) l.vars l.scene.pins b.state in
    record {
      told : told_of l.told.items ≡ take l.i now ++ drop l.i (told_of l.fn.told.items);
      text : l.piece
          ≡ l.fn.piece ++ flat_map change_text (up_to (later_at l.first (told_of l.fn.told.items) now) l.i);
    }
