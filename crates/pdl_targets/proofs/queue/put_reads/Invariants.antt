use Rattle.std.proofs.Common.{◌≡◌, ◌≤◌, ◌<◌, ◌+◌, ◌^◌, length, drop}
use Rattle.pdl_targets.specs.Marked.{AreNumbered, bits_compared}
use Rattle.pdl_targets.specs.Rounds.{put_reads}
use Rattle.pdl_targets.proofs.queue.put_reads.Given as goal

abbrev pub invariant-loop-read : goal.invariant-loop-read
invariant-loop-read l = record {
  same : put_reads l.reads.items (drop l.read-index l.more) ≡ put_reads l.fn.reads.items l.more;
  room : length l.more ≤ l.read-index + l.reads.spare;
  few : length l.reads.items + length l.more < 2 ^ 32 + l.read-index;
  numbered : AreNumbered l.net l.marks (bits_compared l.reads.items);
}
