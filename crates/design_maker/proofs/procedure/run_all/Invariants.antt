use Rattle.std.proofs.Common.{◌≡◌, ◌++◌, length, take, drop, map}
use Rattle.design_maker.specs.Procedure.{run}
use Rattle.design_maker.proofs.procedure.run_all.Given as goal

abbrev pub invariant-loop-i : goal.invariant-loop-i
invariant-loop-i l = record {
  items : l.instruments.items
      ≡ map (run l.cycles) (take l.i l.fn.instruments.items) ++ drop l.i l.fn.instruments.items;
  count : length l.instruments.items ≡ length l.fn.instruments.items;
}
