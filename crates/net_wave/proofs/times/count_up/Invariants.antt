use Rattle.std.proofs.Common.{◌≡◌, ◌-◌, length, take, drop}
use Rattle.std.proofs.Math.ListN.{replicate}
use Rattle.net_wave.proofs.times.count_up.Given as goal

abbrev pub invariant-loop-k : goal.invariant-loop-k
invariant-loop-k l =
    record {
      same : length l.line.items ≡ length l.fn.line.items;
      front : take (l.len - l.k) l.line.items ≡ take (l.len - l.k) l.fn.line.items;
      nines : drop (l.len - l.k) l.fn.line.items ≡ replicate l.k 57;
      zeros : drop (l.len - l.k) l.line.items ≡ replicate l.k 48;
    }
