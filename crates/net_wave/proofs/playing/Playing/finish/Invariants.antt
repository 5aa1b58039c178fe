use Rattle.std.proofs.Common.{◌≡◌, length}
use Rattle.net_wave.specs.Left.{CanStep, some_differs}
use Rattle.net_wave.proofs.playing.Playing.finish.Given as goal

abbrev pub invariant-loop-pins : goal.invariant-loop-pins
invariant-loop-pins l =
    record {
      step : CanStep l.self;
      differs : some_differs l.self ≡ some_differs l.fn.self;
    }

abbrev pub decreases-loop-pins : goal.decreases-loop-pins
decreases-loop-pins l = length l.self.player.pins
