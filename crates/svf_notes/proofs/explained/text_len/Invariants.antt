use Rattle.std.proofs.Common.{◌≡◌, ◌+◌, ◌-◌, ◌^◌, length}
use Rattle.std.specs.Prelude.{min}
use Rattle.svf_notes.specs.Explained.{explained}
use Rattle.svf_notes.specs.Left.{IsPlaying, left_notes}
use Rattle.svf_notes.proofs.explained.text_len.Given as goal

abbrev pub invariant-loop-next : goal.invariant-loop-next
invariant-loop-next l =
    record {
      playing : IsPlaying l.playing;
      len : min (l.len + length (explained (left_notes l.playing) l.rest)) (2 ^ 64 - 1)
          ≡ min (length (explained (left_notes l.fn.playing) l.src)) (2 ^ 64 - 1);
    }

abbrev pub decreases-loop-next : goal.decreases-loop-next
decreases-loop-next l = length l.rest
