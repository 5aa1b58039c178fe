use Rattle.std.proofs.Common.{◌≡◌, ◌*◌, min, length}
use Rattle.svf_audit.specs.LastParts.{seen_tdi}
use Rattle.svf_audit.specs.Registers.{to_move, IsTurned}
use Rattle.svf_audit.proofs.registers.Registers.set_tdi_on_path.Given as goal

abbrev pub invariant-loop-word : goal.invariant-loop-word
invariant-loop-word l =
    record {
      turned : IsTurned l.self (seen_tdi l.kept) (min (64 * l.word) l.n);
      moves : to_move l.self (seen_tdi l.kept) (min (64 * l.word) l.n)
          ≡ to_move l.fn.self (seen_tdi l.kept) 0;
      long : length l.self.chain.items ≡ l.n;
      others : l.self ≡ record l.fn.self { chain = l.self.chain; after = l.self.after; moved = l.self.moved };
    }
