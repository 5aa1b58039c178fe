use Rattle.std.proofs.Common.{◌≡◌, ◌≤◌, ◌<◌, ◌+◌, ◌^◌, length, map, drop}
use Rattle.pdl_targets.specs.Marked.{AreNumbered, first_bits}
use Rattle.pdl_targets.specs.Rounds.{mention}
use Rattle.pdl_targets.proofs.queue.mention_read.Given as goal

abbrev pub invariant-loop-read : goal.invariant-loop-read
invariant-loop-read l = record {
  same : mention l.registers.items (map (λ r. r.bit.reg) (drop l.read-index l.reads))
      ≡ mention l.fn.registers.items (map (λ r. r.bit.reg) l.reads);
  room : length l.reads ≤ l.read-index + l.registers.spare;
  few : length l.registers.items + length l.reads < 2 ^ 32 + l.read-index;
  numbered : AreNumbered l.net l.marks (first_bits l.registers.items);
}
