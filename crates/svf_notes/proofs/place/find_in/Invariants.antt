use Rattle.std.proofs.Common.{◌≡◌, length}
use Rattle.svf_notes.specs.Left.{IsPlaying, left_scans}
use Rattle.svf_notes.specs.Places.{scan_numbered}
use Rattle.svf_notes.proofs.place.find_in.Given as goal

abbrev pub invariant-loop-number : goal.invariant-loop-number
invariant-loop-number l =
    record {
      playing : IsPlaying l.playing;
      net : l.playing.net.now ≡ l.fn.playing.net.now;
      device : l.playing.device.now ≡ l.fn.playing.device.now;
      scan : scan_numbered l.scan (left_scans l.playing) ≡ scan_numbered l.scan (left_scans l.fn.playing);
    }

abbrev pub decreases-loop-number : goal.decreases-loop-number
decreases-loop-number l = length (left_scans l.playing)
