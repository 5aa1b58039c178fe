use Rattle.std.proofs.Common.{◌≡◌, ◌≤◌, ◌<◌, ◌+◌, ◌^◌, ◌++◌, length}
use Rattle.std.specs.Prelude.{replicate}
use Rattle.scan_packer.proofs.fill.push_same.Given as goal

abbrev pub invariant-words : goal.invariant-words
invariant-words l =
    record {
      items : l.into.items ++ replicate l.left l.value ≡ l.fn.into.items ++ replicate l.count l.value;
      room : l.into.spare + l.count ≡ l.fn.into.spare + l.left;
      few : l.left ≤ l.count;
      short : length l.into.items + l.left < 2 ^ 32;
    }

abbrev pub decreases-words : goal.decreases-words
decreases-words l = l.left
