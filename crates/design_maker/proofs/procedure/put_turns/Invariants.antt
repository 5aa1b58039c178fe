use Rattle.std.proofs.Common.{◌≡◌, ◌*◌, ◌-◌, ◌++◌, length}
use Rattle.design_maker.specs.Procedure.{turns_text}
use Rattle.design_maker.proofs.procedure.put_turns.Given as goal

abbrev pub invariant-loop-i : goal.invariant-loop-i
invariant-loop-i l =
    let n = 2 * length l.fn.instruments.items in
    record {
      text : l.pdl ++ turns_text (n - l.i) l.instruments.items l.g
          ≡ l.fn.pdl ++ turns_text n l.fn.instruments.items l.fn.g;
      count : length l.instruments.items ≡ length l.fn.instruments.items;
    }
