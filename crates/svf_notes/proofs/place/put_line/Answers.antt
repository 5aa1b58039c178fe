use Rattle.std.proofs.Common.{ℕ, Some, subst}
use Rattle.ij_io.specs.Bytes.{Adds}
use Rattle.ij_io.proofs.Adding.{adds_both}
use Rattle.net_graph.specs.declared.device.Device.{Device}
use Rattle.svf_notes.specs.Notes.{target}
use Rattle.svf_notes.specs.Places.{target_place}
use Rattle.svf_notes.proofs.place.put_line.Goals as goal

pub returns : goal.returns
returns c =
    let p = c.args.playing.now in
    let text = λ (d : Device) (n : ℕ). Adds (Some c.put_position.new.line) (Some c.put_target.new.line)
    (target_place p.net.now p.bench.state.holds n c.args.at (target d p.bench.state)) in
    let place = subst (λ (n : ℕ). text p.device.now n) c.len.ensures
    (subst (λ (d : Device). text d c.len.result) c.requires.device c.in_ok-put_target.ensures) in
    adds_both c.in_ok-put_position.ensures (adds_both place c.in_ok-put_values.ensures)
