use Rattle.std.proofs.Common.{◌≡◌, ◌+◌, ◌-◌, ◌++◌, length, vec_capacity}
use Rattle.net_graph.specs.Named.{bits_from}
use Rattle.svf_audit.proofs.registers.add_bits.Given as goal

abbrev pub invariant-loop-pos : goal.invariant-loop-pos
invariant-loop-pos l =
    record {
      items : l.bits.items ++ bits_from l.reg l.pos (l.width - l.pos)
          ≡ l.fn.bits.items ++ bits_from l.reg 0 l.width;
      count : length l.bits.items ≡ length l.fn.bits.items + l.pos;
      room : vec_capacity l.bits ≡ vec_capacity l.fn.bits;
    }
