use Rattle.std.proofs.Common.{◌≡◌, ◌≤◌, ◌<◌, ◌+◌, ◌^◌, length, map, drop}
use Rattle.pdl_targets.specs.Marked.{AreNumbered, first_bits}
use Rattle.pdl_targets.specs.Rounds.{mention}
use Rattle.pdl_targets.proofs.queue.mention_written.Given as goal

abbrev pub invariant-loop-write : goal.invariant-loop-write
invariant-loop-write l = record {
  same : mention l.registers.items (map (λ w. w.bit.reg) (drop l.write-index l.writes))
      ≡ mention l.fn.registers.items (map (λ w. w.bit.reg) l.writes);
  room : length l.writes ≤ l.write-index + l.registers.spare;
  few : length l.registers.items + length l.writes < 2 ^ 32 + l.write-index;
  numbered : AreNumbered l.net l.marks (first_bits l.registers.items);
}
