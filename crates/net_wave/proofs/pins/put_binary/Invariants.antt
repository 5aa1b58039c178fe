use Rattle.std.proofs.Common.{◌≡◌, ◌+◌, ◌%◌, ◌^◌, ◌<◌, ◌≤◌, ◌++◌, get_or, drop, length}
use Rattle.net_wave.specs.Changes.{binary}
use Rattle.net_wave.specs.Moments.{trimmed}
use Rattle.net_wave.specs.Values.{number_digits}
use Rattle.net_wave.proofs.pins.put_binary.Given as goal

abbrev pub invariant-loop-left : goal.invariant-loop-left
invariant-loop-left l =
    record {
      low : 1 ≤ l.i;
      high : l.i ≤ 32;
      size : length l.line ≡ 36;
      small : l.left < 2 ^ l.i;
      here : get_or l.line l.i 0 ≡ 48 + l.left % 2;
      text : binary l.number ++ drop 33 l.fn.line
          ≡ trimmed (number_digits l.i l.left) ++ drop (l.i + 1) l.line;
    }

abbrev pub decreases-loop-left : goal.decreases-loop-left
decreases-loop-left l = l.left
