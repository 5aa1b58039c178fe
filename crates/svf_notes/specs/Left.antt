-- What is left of a play that is under way: its scans, and their notes.
use Rattle.std.specs.Prelude.{◌≡◌, ℕ, List, map}
use Rattle.instruments.specs.declared.Counts.{Counts}
use Rattle.net_graph.specs.Nets.{IsNet}
use Rattle.bench_report.specs.Report.{chip_of}
use Rattle.svf_notes.specs.declared.playing.Playing.{Playing}
use Rattle.svf_notes.specs.Notes.{note_of, note_text}
use Rattle.svf_notes.specs.Scans.{Scan, scans_of}

-- the bench is that of the network and the device, and the beginnings of rows that are kept are those of the
-- network
pub record IsPlaying (p : Playing) : Type 0 where
  pub well_formed : IsNet p.net.now
  pub net : p.bench.net ≡ p.net.now
  pub device : p.bench.device ≡ p.device.now
  pub heads : p.heads ≡ p.net.now

unfoldable pub left_scans : Playing → List (Scan Counts)
left_scans p = scans_of (chip_of p.bench) p.player.pins p.bench.state

unfoldable pub left_notes : Playing → List (List ℕ)
left_notes p = map (λ x. note_text (note_of p.net.now p.device.now x)) (left_scans p)
