use Rattle.std.proofs.Common.{◌≡◌, ◌+◌, length}
use Rattle.svf_audit.specs.LastParts.{seen_tdi}
use Rattle.svf_audit.specs.Registers.{to_move, IsTurned}
use Rattle.svf_audit.proofs.registers.Registers.set_tdi_bits.Given as goal

abbrev pub invariant-loop-i : goal.invariant-loop-i
invariant-loop-i l =
    record {
      turned : IsTurned l.self (seen_tdi l.kept) (l.from + l.i);
      moves : to_move l.self (seen_tdi l.kept) (l.from + l.i) ≡ to_move l.fn.self (seen_tdi l.kept) l.from;
      long : length l.self.chain.items ≡ length l.fn.self.chain.items;
      others : l.self ≡ record l.fn.self { chain = l.self.chain; after = l.self.after; moved = l.self.moved };
    }
