use Rattle.std.proofs.Common.{◌≡◌, ◌≤◌, ◌<◌, ◌+◌, ◌^◌, length, drop}
use Rattle.pdl_targets.specs.Marked.{AreNumbered, bits_written}
use Rattle.pdl_targets.specs.Rounds.{put_writes}
use Rattle.pdl_targets.proofs.queue.put_writes.Given as goal

abbrev pub invariant-loop-write : goal.invariant-loop-write
invariant-loop-write l = record {
  same : put_writes l.writes.items (drop l.write-index l.more) ≡ put_writes l.fn.writes.items l.more;
  room : length l.more ≤ l.write-index + l.writes.spare;
  few : length l.writes.items + length l.more < 2 ^ 32 + l.write-index;
  numbered : AreNumbered l.net l.marks (bits_written l.writes.items);
}
