use Rattle.std.proofs.Common.{◌≡◌, ◌-◌, true}
use Rattle.net_wave.specs.Left.{IsPlaying, skipped_text, some_differs}
use Rattle.net_wave.proofs.playing.Playing.skip.Given as goal

abbrev pub invariant-loop-k : goal.invariant-loop-k
invariant-loop-k l =
    record {
      playing : IsPlaying l.self;
      first : l.self.first ≡ true;
      text : skipped_text (l.clocks - l._k) l.self ≡ skipped_text l.clocks l.fn.self;
      differs : some_differs l.self ≡ some_differs l.fn.self;
    }
